-- The policy at a place is the record under the number there.
use Rattle.std.proofs.Common.{ℕ, Some, List, length, sym, ap, ◌∙◌}
use Rattle.std.specs.Prelude.{slice_get, slice_index_or}
use Rattle.std.specs.Option.{option_map}
use Rattle.std.proofs.lemmas.Option.{slice_get-map}
use Rattle.numa_mode.specs.Policy.{PolicyRecord}
use Rattle.numa_space.specs.Shared.{no_record, with_record}
use Rattle.numa_space.specs.Standing.{record_of}
use Rattle.numa_space.proofs.Shared.{record-found, number-at}
use Rattle.numa_space.proofs.task_policies.Tasks.at.Goals as goal

pub get-requires : goal.get-requires
get-requires c =
    number-at (length c.self.inside.records) c.self.inside.numbers.entries c.args.k
    (c.in-Some.task.now, c.in-Some.number.now) c.self.invariant (sym c.in-Some.ensures.entry)

pub returns-in-None-clause-at : goal.returns-in-None-clause-at
returns-in-None-clause-at c =
    ap (option_map (with_record c.self.inside.records)) c.in-None.ensures.entry
    ∙ sym (slice_get-map (with_record c.self.inside.records) c.self.inside.numbers.entries c.args.k)
    ∙ ap (λ (l : List (ℕ × PolicyRecord)). slice_get l c.args.k) c.self.view_is

pub returns-in-Some-clause-at : goal.returns-in-Some-clause-at
returns-in-Some-clause-at c =
    ap (λ (r : PolicyRecord). Some (c.in-Some.task.now, r)) c.get.ensures
    ∙ ap (option_map (with_record c.self.inside.records)) c.in-Some.ensures.entry
    ∙ sym (slice_get-map (with_record c.self.inside.records) c.self.inside.numbers.entries c.args.k)
    ∙ ap (λ (l : List (ℕ × PolicyRecord)). slice_get l c.args.k) c.self.view_is

pub returns-in-Some-clause-record : goal.returns-in-Some-clause-record
returns-in-Some-clause-record c =
    let under : ℕ → PolicyRecord =
    λ number. slice_index_or c.self.inside.records number no_record in
    ap (λ (l : List (ℕ × PolicyRecord)). record_of l c.in-Some.task.now) (sym c.self.view_is)
    ∙ record-found c.self.inside.records c.self.inside.numbers.entries c.in-Some.task.now
    ∙ ap (option_map under) c.in-Some.ensures.value
    ∙ ap Some (sym c.get.ensures)
