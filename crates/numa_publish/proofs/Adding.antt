-- The exchange that adds a batch keeps the rule of the log.
use Rattle.std.proofs.Common.{◌≡◌, ℕ, ◌+◌, ◌<◌, ◌==◌, Bool, true, false, List, [], ◌∷◌, ◌++◌}
use Rattle.std.proofs.Common.{length, refl, ap, sym, subst, arith, inl, length-append, None}
use Rattle.std.proofs.lemmas.List.{append-nil}
use Rattle.std.proofs.lemmas.Bool.Decides.{nat_tests}
use mathlib.Core.List.{IsPrefix}
use prog.Atomic.{either}
use Rattle.logbook.specs.Pages.{Cell, cell, keeps, no_nib, step, Moves, Goes}
use Rattle.numa_requests.specs.declared.command.Command.{Command}
use Rattle.numa_publish.specs.declared.batch.Batch.{Batch}
use Rattle.numa_publish.specs.Batches.{history_of, IsLog}
use Rattle.numa_publish.specs.LogRule.{CountsCommands, AddsBatch}
use Rattle.numa_publish.proofs.Lists.{history-snoc}
use Rattle.numa_publish.proofs.Logs.{log_grows, log_whole}

abbrev pub shown : List Batch → List Batch
shown log = []

abbrev pub moved : List Batch → List Batch → ℕ → Type 0
moved xs ys n = Unit {0}

pub adds_goes : (log v : List Batch) (e : Batch) (old new : ℕ) → length (history_of v) ≡ old
    → new ≡ length e.commands + old → 0 < length e.commands → IsPrefix v log → IsLog log
    → (b : Bool) → (length (history_of log) == old) ≡ b
    → Goes CountsCommands shown moved 0 (v, (no_nib, None)) (λ n. either (n == old) new n)
    (AddsBatch (step 0 old new e) (v, (no_nib, None))) ((length (history_of log), true) ∷ (0, true)
    ∷ []) log
adds_goes log v e old new len more may pre is_log true is =
    let here : length (history_of log) ≡ old = grind (arith, nat_tests) in
    let same : v ≡ log = log_whole v log pre is_log (omega (arith, len, here)) in
    let n : either (length (history_of log) == old) new (length (history_of log))
    ≡ length (history_of (log ++ e ∷ [])) =
    rw is
    (omega (
      arith,
      more,
      here,
      length-append e.commands (history_of log),
      ap (λ (w : List Command). length w) (history-snoc log e),
    )) in (
      keeps,
      e ∷ [],
      None,
      tt,
      record {
        cells_are = ap (λ (k : ℕ). (k, true) ∷ (0, true) ∷ []) n;
        is_log = log_grows log e is_log may;
      },
      inl (refl, refl),
      rw is (ap (λ (l : List Batch). l ++ e ∷ []) (sym same)),
    )
adds_goes log v e old new len more may pre is_log false is =
    let all : log ++ [] ≡ log = append-nil log in
    let n : either (length (history_of log) == old) new (length (history_of log))
    ≡ length (history_of (log ++ [])) =
    rw is (ap (λ (w : List Batch). length (history_of w)) (sym all)) in (
      keeps,
      [],
      None,
      tt,
      record {
        cells_are = ap (λ (k : ℕ). (k, true) ∷ (0, true) ∷ []) n;
        is_log = subst IsLog (sym all) is_log;
      },
      inl (refl, refl),
      rw is tt,
    )

pub adds_moves : (v : List Batch) (e : Batch) (old new : ℕ) → length (history_of v) ≡ old
    → new ≡ length e.commands + old → 0 < length e.commands
    → Moves CountsCommands shown moved 0 (v, (no_nib, None)) (λ n. either (n == old) new n)
    (AddsBatch (step 0 old new e) (v, (no_nib, None)))
adds_moves v e old new len more may cs log kept pre away =
    let P : List Cell → Type 0 = λ c. (0 < length c) × ((cell c 0).1 ≡ true)
    × Goes CountsCommands shown moved 0 (v, (no_nib, None)) (λ n. either (n == old) new n)
    (AddsBatch (step 0 old new e) (v, (no_nib, None))) c log in
    subst P (sym kept.cells_are) (
      omega arith,
      refl,
      adds_goes log v e old new len more may pre kept.is_log
          (length (history_of log) == old) refl,
    )
