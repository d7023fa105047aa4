use Rattle.std.proofs.Common.{List, ℕ, sym, subst}
use Rattle.numa_plan.specs.TaskTable.{AreSorted}
use Rattle.numa_plan.proofs.TaskPlaces.{sorted-none}
use Rattle.numa_plan.proofs.task_numbers.TaskNumbers.new.Goals as goal

pub invariant_of-result : goal.invariant_of-result
invariant_of-result c =
    subst (λ (l : List (ℕ × ℕ)). AreSorted l) (sym c.new.ensures.items) sorted-none
