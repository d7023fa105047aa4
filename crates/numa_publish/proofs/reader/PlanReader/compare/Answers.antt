use Rattle.std.proofs.Common.{◌≤◌, ap, subst, arith, length, List}
use mathlib.Core.List.{IsPrefix}
use Rattle.numa_publish.specs.declared.batch.Batch.{Batch}
use Rattle.numa_publish.specs.Batches.{history_of}
use Rattle.numa_publish.specs.Shown.{ReaderState, ReceiptState}
use Rattle.numa_publish.proofs.Logs.{shown_before}
use Rattle.numa_publish.proofs.reader.PlanReader.compare.Goals as goal

pub returns-clause-begins : goal.returns-clause-begins
returns-clause-begins c le =
    let both = c.learn.new.self.log in
    let own : IsPrefix c.self.inside.past.front.log both =
    subst (λ (l : List Batch). IsPrefix l both) (ap (λ s. s.log) c.again-both.ensures)
    c.learn.ensures.2 in
    let shorter : length (history_of c.self.inside.past.front.log)
    ≤ length (history_of c.receipt.inside.front.log) =
    omega (
      arith,
      le,
      ap (λ (r : ReaderState). length r.history) c.self.view_is,
      ap (λ (r : ReceiptState). length r.history) c.receipt.view_is,
    ) in
    rw (← c.self.view_is, ← c.receipt.view_is)
    (shown_before c.self.inside.past.front.log c.receipt.inside.front.log both own
    c.learn.ensures.3 c.learn.ensures.4.1.is_log shorter)
