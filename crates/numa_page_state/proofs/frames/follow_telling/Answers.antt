use Rattle.numa_page_state.proofs.frames.follow_telling.Goals as goal

pub returns-in-None : goal.returns-in-None
returns-in-None c = rw c.in-None.is c.follow_freely.ensures

pub returns-in-Some : goal.returns-in-Some
returns-in-Some c = rw c.in-Some.is c.follow_filling.ensures
