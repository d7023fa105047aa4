-- The other tasks keep their numbers.
use Rattle.std.proofs.Common.{◌+◌, ℕ, List, Option, None, length, is_some, sym, ap, subst, ◌∙◌}
use Rattle.std.proofs.Common.{◌==◌}
use Rattle.std.specs.Prelude.{if◌then◌else◌}
use Rattle.numa_mode.specs.Policy.{PolicyRecord}
use Rattle.numa_space.specs.Shared.{HaveRecords}
use Rattle.numa_space.specs.Standing.{record_of}
use Rattle.numa_space.proofs.Shared.{have-remove, updated-found, count-clear}
use Rattle.numa_space.proofs.task_policies.Tasks.clear.Goals as goal

pub invariant_of-self : goal.invariant_of-self
invariant_of-self c =
    subst (λ (es : List (ℕ × ℕ)). HaveRecords (length c.self.inside.records) es)
    (sym c.shift_remove.ensures.entries)
    (have-remove (length c.self.inside.records) _ c.self.inside.numbers.entries c.self.invariant)

pub returns-clause-records : goal.returns-clause-records
returns-clause-records c other =
    updated-found c.self.inside.records c.self.inside.numbers.entries
    c.shift_remove.new.self.entries c.args.task other None (c.shift_remove.ensures.updates.0 other)
    ∙ ap (λ (l : List (ℕ × PolicyRecord)). if c.args.task == other then None else record_of l other)
    c.self.view_is

pub returns-clause-count : goal.returns-clause-count
returns-clause-count c =
    count-clear c.self.inside.records c.self.inside.numbers.entries
    c.shift_remove.new.self.entries c.args.self.now c.args.task c.self.view_is
    (ap (λ (o : Option ℕ). length c.shift_remove.new.self.entries
    + (if is_some o then 1 else 0)) (sym c.shift_remove.ensures.value)
    ∙ c.shift_remove.ensures.len)
