use Rattle.numa_page_state.proofs.Asking.{settled-some}
use Rattle.numa_page_state.proofs.sending.settled.Goals as goal

pub returns-in-Some : goal.returns-in-Some
returns-in-Some c = λ lying kept asked lies some has.
    settled-some c.args.state.now c.in-Some.kept c.args.sent c.settle.new.state lying kept
    asked c.in-Some.is c.settle.ensures lies has
