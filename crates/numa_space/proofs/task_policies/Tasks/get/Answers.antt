-- A task's policy is the record under its number.
use Rattle.std.proofs.Common.{ℕ, Some, List, length, sym, ap, ◌∙◌}
use Rattle.std.specs.Prelude.{slice_index_or}
use Rattle.std.specs.Option.{option_map}
use Rattle.numa_mode.specs.Policy.{PolicyRecord}
use Rattle.numa_space.specs.Shared.{no_record}
use Rattle.numa_space.specs.Standing.{record_of}
use Rattle.numa_space.proofs.Shared.{record-found, number-found}
use Rattle.numa_space.proofs.task_policies.Tasks.get.Goals as goal

pub get-requires-in-Some : goal.get-requires-in-Some
get-requires-in-Some c =
    number-found (length c.self.inside.records) c.self.inside.numbers.entries c.args.task
    c.in-Some.number.now c.self.invariant (sym c.in-Some.ensures.value)

pub returns-in-None : goal.returns-in-None
returns-in-None c =
    let under : ℕ → PolicyRecord =
    λ number. slice_index_or c.self.inside.records number no_record in
    ap (option_map under) c.in-None.ensures.value
    ∙ sym (record-found c.self.inside.records c.self.inside.numbers.entries c.args.task)
    ∙ ap (λ (l : List (ℕ × PolicyRecord)). record_of l c.args.task) c.self.view_is

pub returns-in-Some : goal.returns-in-Some
returns-in-Some c =
    let under : ℕ → PolicyRecord =
    λ number. slice_index_or c.self.inside.records number no_record in
    ap Some c.get-in-Some.ensures
    ∙ ap (option_map under) c.in-Some.ensures.value
    ∙ sym (record-found c.self.inside.records c.self.inside.numbers.entries c.args.task)
    ∙ ap (λ (l : List (ℕ × PolicyRecord)). record_of l c.args.task) c.self.view_is
