use Rattle.numa_page_state.proofs.Emptied.{emptied}
use Rattle.numa_page_state.proofs.state.PageState.rooms_without.Goals as goal

pub returns-in-Some : goal.returns-in-Some
returns-in-Some c = λ lying lies.
    emptied c.args.self.now c.in-Some.have c.between.result c.stated_counts-lay.result lying
    c.in-Some.is lies c.stated_counts-lay.ensures c.between.ensures
