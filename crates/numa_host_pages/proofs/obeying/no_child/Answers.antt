use Rattle.std.proofs.Common.{Some, None, refl}
use Rattle.numa_host_pages.proofs.obeying.no_child.Goals as goal

pub returns-in-Some : goal.returns-in-Some
returns-in-Some c = λ history stands. rw (← c.in-Some.ensures history stands) refl

pub returns-in-None : goal.returns-in-None
returns-in-None c = λ history stands. rw (← c.in-None.ensures history stands) refl
