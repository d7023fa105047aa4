use Rattle.std.proofs.Common.{◌≡◌, ◌≢◌, ℕ, ◌<◌, Option, Some, slice_index_or, ap, sym, ◌∙◌, arith}
use Rattle.std.proofs.Common.{length}
use Rattle.std.proofs.lemmas.Bool.Decides.{nat_tests}
use Rattle.numa_plan.proofs.TaskPlaces.{entry-there, entry-within, number-nowhere, number-there}
use Rattle.numa_plan.proofs.task_numbers.number_at.Goals as goal

pub returns-then-place-entries-clause-number : goal.returns-then-place-entries-clause-number
returns-then-place-entries-clause-number c =
    sym (number-nowhere c.args.task c.args.entries.now c.args.place c.requires.sorted
    c.requires.place
    (λ entry is. absurd (omega (
      arith,
      c.if-place-entries.true,
      entry-within c.args.entries.now c.args.place entry is,
    ))))

pub returns-then-entry-task-clause-there : goal.returns-then-entry-task-clause-there
returns-then-entry-task-clause-there c =
    let entry : ℕ × ℕ = slice_index_or c.args.entries.now c.args.place (0, 0) in
    let within : c.args.place < length c.args.entries.now = omega arith in
    let here : entry.0 ≡ c.args.task = grind (arith, nat_tests) in
    entry-there c.args.entries.now c.args.place (0, 0) within
    ∙ ap (λ (t : ℕ). Some (t, entry.1)) here

pub returns-then-entry-task-clause-number : goal.returns-then-entry-task-clause-number
returns-then-entry-task-clause-number c =
    let entry : ℕ × ℕ = slice_index_or c.args.entries.now c.args.place (0, 0) in
    let within : c.args.place < length c.args.entries.now = omega arith in
    let here : entry.0 ≡ c.args.task = grind (arith, nat_tests) in
    sym (number-there c.args.task c.args.entries.now c.args.place entry.1 c.requires.place
    (entry-there c.args.entries.now c.args.place (0, 0) within
    ∙ ap (λ (t : ℕ). Some (t, entry.1)) here))

pub returns-else-entry-task-clause-number : goal.returns-else-entry-task-clause-number
returns-else-entry-task-clause-number c =
    let entry : ℕ × ℕ = slice_index_or c.args.entries.now c.args.place (0, 0) in
    let within : c.args.place < length c.args.entries.now = omega arith in
    let apart : entry.0 ≢ c.args.task = grind (arith, nat_tests) in
    sym (number-nowhere c.args.task c.args.entries.now c.args.place c.requires.sorted
    c.requires.place
    (λ other is same.
    let one : ◌≡◌ {A = Option (ℕ × ℕ)} (Some entry) (Some other) =
    sym (entry-there c.args.entries.now c.args.place (0, 0) within) ∙ is in
    let equal : entry ≡ other = cc in
    apart (ap (λ (e : ℕ × ℕ). e.0) equal ∙ same)))
