use Rattle.std.proofs.Common.{◌≡◌, Err, subst, sym}
use Rattle.numa_core.specs.Steps.{answer_of}
use Rattle.numa_requests.specs.declared.event.CoreRefusal.TheVariants.{Unmapped}
use Rattle.numa_requests.specs.declared.event.Event.TheVariants.{Begin}
use Rattle.numa_refinement.proofs.Begins.{bad-cpu, unmapped, has-list}
use Rattle.numa_refinement.proofs.laws.a_fault_begins.Goals as goal

pub returns-clause-bad_cpu : goal.returns-clause-bad_cpu
returns-clause-bad_cpu c s w history request before after first ready served =
    bad-cpu s w history request first ready served.0

pub returns-clause-unmapped : goal.returns-clause-unmapped
returns-clause-unmapped c s w history request before after first version ready served =
    subst (λ v. answer_of s first v (Begin w request) ≡ Err (Unmapped v)) (sym served.1)
    (unmapped s w history request first ready served.0)

pub returns-clause-list : goal.returns-clause-list
returns-clause-list c s w history request first ready stands =
    has-list s w history request first ready stands
