use Rattle.std.proofs.Common.{◌≡◌, ◌≤◌, ap, subst, arith, length, List}
use mathlib.Core.List.{IsPrefix}
use Rattle.numa_publish.specs.declared.batch.Batch.{Batch}
use Rattle.numa_publish.specs.Batches.{history_of, versions_of}
use Rattle.numa_publish.specs.Shown.{ReceiptState}
use Rattle.numa_publish.proofs.Logs.{fronts_same, shown_before}
use Rattle.numa_publish.proofs.laws.equal_versions_agree.Goals as goal

pub returns-clause-begins : goal.returns-clause-begins
returns-clause-begins c le =
    let both = c.learn.new.self.log in
    let one : IsPrefix c.one.inside.front.log both = subst (λ (l : List Batch). IsPrefix l both)
    (ap (λ s. s.log) c.again-both.ensures) c.learn.ensures.2 in
    let shorter : length (history_of c.other.inside.front.log)
    ≤ length (history_of c.one.inside.front.log) =
    omega (
      arith,
      le,
      ap (λ (r : ReceiptState). length r.history) c.one.view_is,
      ap (λ (r : ReceiptState). length r.history) c.other.view_is,
    ) in
    rw (← c.one.view_is, ← c.other.view_is)
    (shown_before c.other.inside.front.log c.one.inside.front.log both c.learn.ensures.3 one
    c.learn.ensures.4.1.is_log shorter)

pub returns-clause-same : goal.returns-clause-same
returns-clause-same c e =
    let both = c.learn.new.self.log in
    let one : IsPrefix c.one.inside.front.log both = subst (λ (l : List Batch). IsPrefix l both)
    (ap (λ s. s.log) c.again-both.ensures) c.learn.ensures.2 in
    let number : length (history_of c.other.inside.front.log)
    ≡ length (history_of c.one.inside.front.log) =
    omega (
      arith,
      e,
      ap (λ (r : ReceiptState). length r.history) c.one.view_is,
      ap (λ (r : ReceiptState). length r.history) c.other.view_is,
    ) in
    let same : c.other.inside.front.log ≡ c.one.inside.front.log =
    fronts_same _ _ both c.learn.ensures.3 one c.learn.ensures.4.1.is_log number in
    rw (← c.one.view_is, ← c.other.view_is) (ap history_of same, ap versions_of same)
