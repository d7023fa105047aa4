use Rattle.std.proofs.Common.{ap, sym}
use Rattle.numa_page_state.specs.Lying.{Lying}
use Rattle.numa_page_state.proofs.huge.follows_in.Goals as goal

pub returns-in-Some : goal.returns-in-Some
returns-in-Some c = rw c.in-Some.is (λ lying lies. lies.follows)

pub returns-in-None : goal.returns-in-None
returns-in-None c = rw c.in-None.is (λ lying none. sym (ap (λ (l : Lying). l.follows) none))
