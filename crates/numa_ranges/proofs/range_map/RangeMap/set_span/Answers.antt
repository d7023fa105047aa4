-- The span has no hole, so only the count can refuse the call.
use Rattle.std.proofs.Common.{◌≡◌, ℕ, ◌+◌, true, false, refl, Option, Some, None, not, is_some, OnOk, IfErr, List}
use Rattle.std.proofs.Common.{length, ap, sym, subst, ◌∙◌, arith, rules}
use Rattle.numa_ranges.specs.Runs.{page_at}
use Rattle.numa_ranges.specs.Edits.{StartsAround, IsAround}
use Rattle.numa_ranges.specs.declared.run.Run.{Run}
use Rattle.numa_ranges.specs.Maps.{Shows, IsRefusal, any_page, count_refusal}
use Rattle.numa_ranges.proofs.Spans.{changed-is, on_ok}
use Rattle.numa_ranges.proofs.range_map.RangeMap.set_span.Goals as goal

pub whole_window-requires-clause-within : goal.whole_window-requires-clause-within
whole_window-requires-clause-within g c =
    omega (arith, c.starts_near-place.ensures.within, ap (λ v. length v.runs) c.self.view_is)

pub whole_window-requires-clause-parts : goal.whole_window-requires-clause-parts
whole_window-requires-clause-parts g c =
    subst (λ (l : List (Run g.row.T.Denot)). StartsAround l c.starts_near-place.result c.args.first)
    (sym (ap (λ v. v.runs) c.self.view_is)) c.starts_near-place.ensures.parts

pub edit_span-requires-clause-window : goal.edit_span-requires-clause-window
edit_span-requires-clause-window g c =
    subst (λ (l : List (Run g.row.T.Denot)). IsAround l c.starts_near-place.result c.args.first
    (c.args.first + c.args.pages) c.in-Some.window.0 c.in-Some.window.1)
    (ap (λ v. v.runs) c.self.view_is) c.in-Some.ensures.window

pub edit_span-requires-clause-function : goal.edit_span-requires-clause-function
edit_span-requires-clause-function g c = (λ x. Some c.args.value, λ x r h. search rules)

pub returns-clause-ok : goal.returns-clause-ok
returns-clause-ok g c =
    let same = changed-is c.args.first c.args.pages (λ (old : g.row.T.Denot). c.args.value)
    (page_at c.args.self.now.runs) in
    subst (λ (at : ℕ → Option (ℕ × g.row.T.Denot)).
    OnOk c.edit_span.result (Shows c.edit_span.new.self.runs at)) same
    (on_ok c.edit_span.result (λ h. h.shows)
    (c.edit_span.ensures.ok (λ x. Some c.args.value) (λ x r h. search rules)))

pub returns-clause-accepted : goal.returns-clause-accepted
returns-clause-accepted g c =
    let whole : any_page (λ page. not (is_some (page_at c.args.self.now.runs page))) c.args.first
    c.args.pages ≡ false =
    sym (ap (λ v. any_page (λ page. not (is_some (page_at v.runs page))) c.args.first c.args.pages)
    c.self.view_is) ∙ c.in-Some.ensures.whole in
    let same = changed-is c.args.first c.args.pages (λ (old : g.row.T.Denot). c.args.value)
    (page_at c.args.self.now.runs) in
    rw whole
    (subst (λ (at : ℕ → Option (ℕ × g.row.T.Denot)).
    OnOk c.edit_span.result (count_refusal g.T.PartialEq.eq c.args.self.now.max_ranges at
    ≡ None)) same
    (on_ok c.edit_span.result (λ h. h.accepted)
    (c.edit_span.ensures.ok (λ x. Some c.args.value) (λ x r h. search rules))))

pub returns-clause-err : goal.returns-clause-err
returns-clause-err g c =
    let whole : any_page (λ page. not (is_some (page_at c.args.self.now.runs page))) c.args.first
    c.args.pages ≡ false =
    sym (ap (λ v. any_page (λ page. not (is_some (page_at v.runs page))) c.args.first c.args.pages)
    c.self.view_is) ∙ c.in-Some.ensures.whole in
    let same = changed-is c.args.first c.args.pages (λ (old : g.row.T.Denot). c.args.value)
    (page_at c.args.self.now.runs) in
    rw whole
    (subst (λ (at : ℕ → Option (ℕ × g.row.T.Denot)).
    IfErr c.edit_span.result
    (IsRefusal (count_refusal g.T.PartialEq.eq c.args.self.now.max_ranges at))) same
    (c.edit_span.ensures.err (λ x. Some c.args.value) (λ x r h. search rules)))

pub whole_window-requires-clause-apart : goal.whole_window-requires-clause-apart
whole_window-requires-clause-apart g c = c.self.invariant.0

pub whole_window-requires-clause-span : goal.whole_window-requires-clause-span
whole_window-requires-clause-span g c = c.requires.span.within

pub edit_span-requires-clause-within : goal.edit_span-requires-clause-within
edit_span-requires-clause-within g c = c.starts_near-place.ensures.within

pub edit_span-requires-clause-parts : goal.edit_span-requires-clause-parts
edit_span-requires-clause-parts g c = c.starts_near-place.ensures.parts

pub edit_span-requires-clause-span : goal.edit_span-requires-clause-span
edit_span-requires-clause-span g c = c.requires.span.within

pub returns-in_default-clause-ok : goal.returns-in_default-clause-ok
returns-in_default-clause-ok g c = tt

pub returns-in_default-clause-accepted : goal.returns-in_default-clause-accepted
returns-in_default-clause-accepted g c = tt

pub returns-in_default-clause-err : goal.returns-in_default-clause-err
returns-in_default-clause-err g c =
    let bad : any_page (λ page. not (is_some (page_at c.args.self.now.runs page))) c.args.first
    c.args.pages ≡ true =
    sym (ap (λ v. any_page (λ page. not (is_some (page_at v.runs page))) c.args.first c.args.pages)
    c.self.view_is) ∙ c.in_default.ensures.none in
    rw bad refl

pub returns-clause-max_ranges : goal.returns-clause-max_ranges
returns-clause-max_ranges g c = c.edit_span.ensures.max_ranges

pub returns-clause-unchanged : goal.returns-clause-unchanged
returns-clause-unchanged g c = c.edit_span.ensures.unchanged
