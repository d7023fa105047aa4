-- The part has what the edit makes of its value, or the value.
use Rattle.std.proofs.Common.{◌≡◌, true, ◌+◌, ◌-◌, ◌++◌, List, Some, None, append-nil}
use Rattle.std.proofs.Common.{ap, sym, subst, ◌∙◌, refl, min, max, arith}
use Rattle.numa_ranges.specs.Runs.{end_of}
use Rattle.numa_ranges.specs.declared.run.Run.{Run}
use Rattle.numa_ranges.specs.Edited.{edited_value, edited_or_kept}
use Rattle.numa_ranges.specs.Gathered.{AreGathered}
use Rattle.numa_ranges.proofs.Window.{within-some, within-none}
use Rattle.numa_ranges.proofs.Rewritten.{row-has, within-out}
use Rattle.numa_ranges.proofs.edit.add_part.Goals as goal

pub returns-in-Some-clause-gathered : goal.returns-in-Some-clause-gathered
returns-in-Some-clause-gathered g c change gives added run one h =
    let made = edited_or_kept change c.args.is_edited in
    let has = row-has c.args.values.now c.args.row run one in
    let there = sym (c.value_of.ensures change gives) ∙ c.in-Some.is in
    let e : edited_or_kept change c.args.is_edited run.value ≡ Some c.in-Some._value =
    sym (ap (edited_value change c.args.is_edited) has.holds) ∙ there in
    let ends : c.args.row.first + c.args.row.pages ≡ end_of run =
    omega (arith, has.first, has.pages) in
    let all = within-some c.args.first c.args.end c.max-start.result c.min-stop.result made run
    c.in-Some._value (c.max-start.ensures ∙ ap (max c.args.first) has.first)
    (c.min-stop.ensures ∙ ap (min c.args.end) ends) c.if-start-stop.true e in
    subst (λ (l : List (Run g.row.T.Denot)).
    AreGathered g.T.PartialEq.eq change c.args.values.now c.add.new.self (added ++ l)) (sym all)
    (c.add.ensures.gathered change gives added (record {
      first = c.max-start.result;
      pages = c.min-stop.result - c.max-start.result;
      index = run.index + (c.max-start.result - run.first);
      value = c.in-Some._value;
    }) (record {
      first = refl;
      pages = refl;
      index = omega (arith, has.index, has.first);
      value = there;
    }) h)

pub returns-in_default-clause-gathered : goal.returns-in_default-clause-gathered
returns-in_default-clause-gathered g c change gives added run one h =
    let made = edited_or_kept change c.args.is_edited in
    let has = row-has c.args.values.now c.args.row run one in
    let e : edited_or_kept change c.args.is_edited run.value ≡ None = sym (ap (edited_value change
    c.args.is_edited) has.holds)
    ∙ (sym (c.value_of.ensures change gives) ∙ c.in_default.is) in
    subst (λ (l : List (Run g.row.T.Denot)).
    AreGathered g.T.PartialEq.eq change c.args.values.now c.args.rows.now l)
    (sym (ap (λ l. added ++ l) (within-none c.args.first c.args.end made run e)
    ∙ append-nil added)) h

pub returns-else-start-stop-clause-gathered : goal.returns-else-start-stop-clause-gathered
returns-else-start-stop-clause-gathered g c change gives added run one h =
    let made = edited_or_kept change c.args.is_edited in
    let has = row-has c.args.values.now c.args.row run one in
    let ends : c.args.row.first + c.args.row.pages ≡ end_of run =
    omega (arith, has.first, has.pages) in
    let none = within-out c.args.first c.args.end c.max-start.result c.min-stop.result made run
    (c.max-start.ensures ∙ ap (max c.args.first) has.first)
    (c.min-stop.ensures ∙ ap (min c.args.end) ends) (omega (arith, c.if-start-stop.false)) in
    subst (λ (l : List (Run g.row.T.Denot)).
    AreGathered g.T.PartialEq.eq change c.args.values.now c.args.rows.now l)
    (sym (ap (λ l. added ++ l) none ∙ append-nil added)) h
