-- The task has the number of its record, and the others keep theirs.
use Rattle.std.proofs.Common.{◌≡◌, ◌+◌, ◌<◌, ◌++◌, ◌∷◌, ℕ, List, [], Option, Some, None, length}
use Rattle.std.proofs.Common.{◌==◌, is_some, nat_eq, sym, ap, subst, ◌∙◌}
use Rattle.std.specs.Prelude.{if◌then◌else◌, slice_index_or}
use Rattle.std.specs.Map.{lookup}
use Rattle.std.proofs.lemmas.Option.{slice_get_within}
use Rattle.indexmap.proofs.CallerLemmas.{insert_entry-new}
use Rattle.numa_mode.specs.Policy.{PolicyRecord}
use Rattle.numa_space.specs.Shared.{HaveRecords, with_records, no_record}
use Rattle.numa_space.specs.Standing.{record_of}
use Rattle.numa_space.proofs.Shared.{record-is, with-longer, have-longer, have-insert}
use Rattle.numa_space.proofs.Shared.{updated-found, count-put, none-found, with-last}
use Rattle.numa_space.proofs.task_policies.Tasks.put.Goals as goal

pub invariant_of-self-in_default : goal.invariant_of-self-in_default
invariant_of-self-in_default c =
    subst (λ (es : List (ℕ × ℕ)). HaveRecords (length c.add.new.self) es)
    (sym c.in_default.ensures.err)
    (have-longer (length c.self.inside.records) (length c.add.new.self)
    c.self.inside.numbers.entries c.in_ok-number.ensures.longer.size c.self.invariant)

pub returns-in_default-clause-err : goal.returns-in_default-clause-err
returns-in_default-clause-err c =
    ap (with_records c.add.new.self) c.in_default.ensures.err
    ∙ with-longer c.self.inside.records c.add.new.self c.self.inside.numbers.entries
    c.in_ok-number.ensures.longer c.self.invariant
    ∙ c.self.view_is

pub invariant_of-self-2 : goal.invariant_of-self-2
invariant_of-self-2 c =
    let within : c.in_ok-number.number < length c.add.new.self =
    slice_get_within c.add.new.self c.in_ok-number.number c.args.policy
    c.in_ok-number.ensures.number in
    subst (λ (es : List (ℕ × ℕ)). HaveRecords (length c.add.new.self) es)
    (sym c.in-Ok.ensures.entries)
    (have-insert (length c.add.new.self) c.self.inside.numbers.entries c.args.task
    c.in_ok-number.number within
    (have-longer (length c.self.inside.records) (length c.add.new.self)
    c.self.inside.numbers.entries c.in_ok-number.ensures.longer.size c.self.invariant))

pub returns-clause-records : goal.returns-clause-records
returns-clause-records c other =
    let is : slice_index_or c.add.new.self c.in_ok-number.number no_record ≡ c.args.policy =
    record-is c.add.new.self c.in_ok-number.number c.args.policy c.in_ok-number.ensures.number in
    let same : with_records c.add.new.self c.self.inside.numbers.entries ≡ c.args.self.now =
    with-longer c.self.inside.records c.add.new.self c.self.inside.numbers.entries
    c.in_ok-number.ensures.longer c.self.invariant ∙ c.self.view_is in
    updated-found c.add.new.self c.self.inside.numbers.entries c.insert.new.self.entries
    c.args.task other (Some c.in_ok-number.number) (c.in-Ok.ensures.updates.0 other)
    ∙ (λ i. if c.args.task == other then Some (is i) else record_of (same i) other)

pub returns-clause-count : goal.returns-clause-count
returns-clause-count c =
    count-put c.self.inside.records c.add.new.self c.self.inside.numbers.entries
    c.insert.new.self.entries c.args.self.now c.args.task c.self.view_is
    (c.in-Ok.ensures.len ∙ ap (λ (o : Option ℕ). length c.self.inside.numbers.entries
    + (if is_some o then 0 else 1)) c.in-Ok.ensures.old)

pub returns-clause-last : goal.returns-clause-last
returns-clause-last c none =
    let is : slice_index_or c.add.new.self c.in_ok-number.number no_record ≡ c.args.policy =
    record-is c.add.new.self c.in_ok-number.number c.args.policy c.in_ok-number.ensures.number in
    let same : with_records c.add.new.self c.self.inside.numbers.entries ≡ c.args.self.now =
    with-longer c.self.inside.records c.add.new.self c.self.inside.numbers.entries
    c.in_ok-number.ensures.longer c.self.invariant ∙ c.self.view_is in
    let absent : lookup (nat_eq c.args.task) c.self.inside.numbers.entries ≡ None =
    none-found c.self.inside.records c.self.inside.numbers.entries c.args.task
    (ap (λ (l : List (ℕ × PolicyRecord)). record_of l c.args.task) c.self.view_is ∙ none) in
    ap (with_records c.add.new.self) (c.in-Ok.ensures.entries
    ∙ insert_entry-new nat_eq c.self.inside.numbers c.args.task c.in_ok-number.number absent)
    ∙ with-last c.add.new.self c.self.inside.numbers.entries c.args.task c.in_ok-number.number
    ∙ (λ i. same i ++ (c.args.task, is i) ∷ [])
