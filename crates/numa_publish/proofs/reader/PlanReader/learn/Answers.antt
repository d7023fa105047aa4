use Rattle.std.proofs.Common.{◌≤◌, ap, subst, arith, length, List}
use mathlib.Core.List.{IsPrefix}
use Rattle.numa_publish.specs.declared.batch.Batch.{Batch}
use Rattle.numa_publish.specs.Batches.{history_of}
use Rattle.numa_publish.proofs.Lists.{extends_self}
use Rattle.numa_publish.proofs.Logs.{shown_before}
use Rattle.numa_publish.proofs.reader.PlanReader.learn.Goals as goal

pub returns-then-past-told-clause-own : goal.returns-then-past-told-clause-own
returns-then-past-told-clause-own c =
    let both = c.learn.new.self.log in
    let own : IsPrefix c.self.inside.past.front.log both =
    subst (λ (l : List Batch). IsPrefix l both) (ap (λ s. s.log) c.again-both.ensures)
    c.learn.ensures.2 in
    let shorter : length (history_of c.self.inside.past.front.log)
    ≤ length (history_of c.receipt.inside.front.log) =
    omega (
      arith,
      c.self.invariant.version_is,
      c.version-told.ensures.length,
      c.if-past-told.true,
      ap (λ r. length r.history) c.receipt.view_is,
    ) in
    rw (ap (λ r. r.history) c.back.ensures, c.again.ensures, ← c.self.view_is)
    (shown_before c.self.inside.past.front.log c.receipt.inside.front.log both own
    c.learn.ensures.3 c.learn.ensures.4.1.is_log shorter).0

pub returns-then-past-told-clause-versions : goal.returns-then-past-told-clause-versions
returns-then-past-told-clause-versions c =
    let both = c.learn.new.self.log in
    let own : IsPrefix c.self.inside.past.front.log both =
    subst (λ (l : List Batch). IsPrefix l both) (ap (λ s. s.log) c.again-both.ensures)
    c.learn.ensures.2 in
    let shorter : length (history_of c.self.inside.past.front.log)
    ≤ length (history_of c.receipt.inside.front.log) =
    omega (
      arith,
      c.self.invariant.version_is,
      c.version-told.ensures.length,
      c.if-past-told.true,
      ap (λ r. length r.history) c.receipt.view_is,
    ) in
    rw (
      ap (λ r. r.versions) c.back.ensures,
      c.again.ensures,
      ← c.self.view_is,
      ← c.receipt.view_is,
    ) (
      (shown_before c.self.inside.past.front.log c.receipt.inside.front.log both own
          c.learn.ensures.3 c.learn.ensures.4.1.is_log shorter).1,
      extends_self _,
    )

pub returns-clause-told : goal.returns-clause-told
returns-clause-told c =
    let both = c.learn.new.self.log in
    let own : IsPrefix c.self.inside.past.front.log both =
    subst (λ (l : List Batch). IsPrefix l both) (ap (λ s. s.log) c.again-both.ensures)
    c.learn.ensures.2 in
    let shorter : length (history_of c.receipt.inside.front.log)
    ≤ length (history_of c.self.inside.past.front.log) =
    omega (
      arith,
      c.self.invariant.version_is,
      c.version-told.ensures.length,
      c.if-past-told.false,
      ap (λ r. length r.history) c.receipt.view_is,
    ) in
    rw (ap (λ r. r.history) c.back-2.ensures, ← c.receipt.view_is)
    (shown_before c.receipt.inside.front.log c.self.inside.past.front.log both
    c.learn.ensures.3 own c.learn.ensures.4.1.is_log shorter).0

pub returns-clause-versions : goal.returns-clause-versions
returns-clause-versions c =
    let both = c.learn.new.self.log in
    let own : IsPrefix c.self.inside.past.front.log both =
    subst (λ (l : List Batch). IsPrefix l both) (ap (λ s. s.log) c.again-both.ensures)
    c.learn.ensures.2 in
    let shorter : length (history_of c.receipt.inside.front.log)
    ≤ length (history_of c.self.inside.past.front.log) =
    omega (
      arith,
      c.self.invariant.version_is,
      c.version-told.ensures.length,
      c.if-past-told.false,
      ap (λ r. length r.history) c.receipt.view_is,
    ) in
    rw (ap (λ r. r.versions) c.back-2.ensures, ← c.self.view_is, ← c.receipt.view_is) (
      extends_self _,
      (shown_before c.receipt.inside.front.log c.self.inside.past.front.log both
          c.learn.ensures.3 own c.learn.ensures.4.1.is_log shorter).1,
    )
