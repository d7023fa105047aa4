-- An edit that keeps no value unmaps the span.
use Rattle.std.proofs.Common.{ℕ, Option, None, IfErr, sym, ap, subst, ◌∙◌, rules}
use Rattle.numa_ranges.specs.Runs.{page_at}
use Rattle.numa_ranges.specs.Maps.{IsRefusal, count_refusal}
use Rattle.numa_ranges.proofs.Spans.{without-is, on_ok}
use Rattle.numa_ranges.proofs.range_map.RangeMap.unmap_span.Goals as goal

pub edit_span-requires-clause-function : goal.edit_span-requires-clause-function
edit_span-requires-clause-function g c = (λ x. None, λ x r h. search rules)

pub returns-clause-ok : goal.returns-clause-ok
returns-clause-ok g c =
    let same = without-is c.args.first c.args.pages (page_at c.args.self.now.runs) in
    on_ok c.edit_span.result (λ h page. h.shows page ∙ ap (λ at. at page) same)
    (c.edit_span.ensures.ok (λ x. None) (λ x r h. search rules))

pub returns-clause-accepted : goal.returns-clause-accepted
returns-clause-accepted g c =
    let same = without-is c.args.first c.args.pages (page_at c.args.self.now.runs) in
    on_ok c.edit_span.result (λ h. ap (count_refusal g.T.PartialEq.eq c.args.self.now.max_ranges)
    (sym same) ∙ h.accepted) (c.edit_span.ensures.ok (λ x. None) (λ x r h. search rules))

pub returns-clause-err : goal.returns-clause-err
returns-clause-err g c =
    let same = without-is c.args.first c.args.pages (page_at c.args.self.now.runs) in
    subst (λ (at : ℕ → Option (ℕ × g.row.T.Denot)).
    IfErr c.edit_span.result
    (IsRefusal (count_refusal g.T.PartialEq.eq c.args.self.now.max_ranges at))) same
    (c.edit_span.ensures.err (λ x. None) (λ x r h. search rules))

pub edit_span-requires-clause-within : goal.edit_span-requires-clause-within
edit_span-requires-clause-within g c = c.starts_near-place.ensures.within

pub edit_span-requires-clause-parts : goal.edit_span-requires-clause-parts
edit_span-requires-clause-parts g c = c.starts_near-place.ensures.parts

pub edit_span-requires-clause-window : goal.edit_span-requires-clause-window
edit_span-requires-clause-window g c = c.window-window.ensures

pub edit_span-requires-clause-span : goal.edit_span-requires-clause-span
edit_span-requires-clause-span g c = c.requires.span.within

pub returns-clause-max_ranges : goal.returns-clause-max_ranges
returns-clause-max_ranges g c = c.edit_span.ensures.max_ranges

pub returns-clause-unchanged : goal.returns-clause-unchanged
returns-clause-unchanged g c = c.edit_span.ensures.unchanged
