use Rattle.std.proofs.Common.{◌≡◌, ℕ, List, Some, nat_eq, sym, ap, ◌∙◌}
use Rattle.std.specs.Prelude.{slice_get}
use Rattle.std.proofs.lemmas.Bool.{eqb-true}
use Rattle.std.proofs.lemmas.Map.Entries.{place_from_lookup}
use Rattle.numa_mode.specs.Policy.{PolicyRecord}
use Rattle.numa_space.specs.Standing.{record_of}
use Rattle.numa_space.proofs.space.Space.task_at.Goals as goal

-- a task with a record is at some place
place-of_task : (tasks : List (ℕ × PolicyRecord)) (task : ℕ) (policy : PolicyRecord)
    → record_of tasks task ≡ Some policy → (place : ℕ)
    × (slice_get tasks place ≡ Some (task, policy))
place-of_task tasks task policy found =
    let at = place_from_lookup (nat_eq task) tasks policy found in
    let same : task ≡ at.1 = eqb-true task at.1 at.3 in
    (at.0, at.2 ∙ ap (λ (k : ℕ). Some (k, policy)) (sym same))

pub returns-clause-every : goal.returns-clause-every
returns-clause-every c = place-of_task c.args.self.now.tasks
