-- Each record is moved, so each task's is.
use Rattle.std.proofs.Common.{ℕ, List, ap, ◌∙◌}
use Rattle.numa_mode.specs.Policy.{PolicyRecord, record_after}
use Rattle.numa_space.specs.Shared.{with_records}
use Rattle.numa_space.specs.Standing.{record_of}
use Rattle.numa_space.specs.Steps.{policy_after}
use Rattle.numa_space.proofs.Shared.{changed-found}
use Rattle.numa_space.proofs.task_policies.Tasks.rebind.Goals as goal

pub returns-clause-records : goal.returns-clause-records
returns-clause-records c task =
    let change : PolicyRecord → PolicyRecord =
    λ policy. record_after c.args.rules policy c.args.old.now c.args.new.now in
    ap (λ (rs : List PolicyRecord). record_of (with_records rs c.self.inside.numbers.entries) task)
    c.rebind.ensures
    ∙ changed-found change c.self.inside.records c.self.inside.numbers.entries task c.self.invariant
    ∙ ap (λ (l : List (ℕ × PolicyRecord)). policy_after c.args.rules c.args.old.now c.args.new.now
    (record_of l task)) c.self.view_is
