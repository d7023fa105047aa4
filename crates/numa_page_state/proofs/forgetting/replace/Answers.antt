use Rattle.numa_page_state.proofs.forgetting.replace.Goals as goal

pub returns-in-Some : goal.returns-in-Some
returns-in-Some c = rw c.in-Some.is c.replace.ensures
