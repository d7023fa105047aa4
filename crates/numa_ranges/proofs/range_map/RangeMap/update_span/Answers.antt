-- What the given function makes of a value is what the edit puts in its place.
use Rattle.std.proofs.Common.{◌≡◌, ℕ, Option, Some, None, OnOk, IfErr, subst, rules}
use Rattle.std.proofs.lemmas.Fn.{says_at}
use Rattle.numa_ranges.specs.Runs.{page_at}
use Rattle.numa_ranges.specs.Maps.{Shows, IsRefusal, count_refusal}
use Rattle.numa_ranges.proofs.Spans.{changed-is, on_ok}
use Rattle.numa_ranges.proofs.range_map.RangeMap.update_span.Goals as goal

pub edit_span-requires-clause-function : goal.edit_span-requires-clause-function
edit_span-requires-clause-function g c =
    (λ x. Some (c.requires.function.0 x), λ x r h. search (rules, c.requires.function.1, says_at))

pub returns-clause-ok : goal.returns-clause-ok
returns-clause-ok g c change gives =
    let same = changed-is c.args.first c.args.pages change (page_at c.args.self.now.runs) in
    subst (λ (at : ℕ → Option (ℕ × g.row.T.Denot)).
    OnOk c.edit_span.result (Shows c.edit_span.new.self.runs at)) same
    (on_ok c.edit_span.result (λ h. h.shows)
    (c.edit_span.ensures.ok (λ x. Some (change x)) (λ x r h. search (rules, gives, says_at))))

pub returns-clause-accepted : goal.returns-clause-accepted
returns-clause-accepted g c change gives =
    let same = changed-is c.args.first c.args.pages change (page_at c.args.self.now.runs) in
    subst (λ (at : ℕ → Option (ℕ × g.row.T.Denot)).
    OnOk c.edit_span.result (count_refusal g.T.PartialEq.eq c.args.self.now.max_ranges at
    ≡ None)) same
    (on_ok c.edit_span.result (λ h. h.accepted)
    (c.edit_span.ensures.ok (λ x. Some (change x)) (λ x r h. search (rules, gives, says_at))))

pub returns-clause-err : goal.returns-clause-err
returns-clause-err g c change gives =
    let same = changed-is c.args.first c.args.pages change (page_at c.args.self.now.runs) in
    subst (λ (at : ℕ → Option (ℕ × g.row.T.Denot)).
    IfErr c.edit_span.result
    (IsRefusal (count_refusal g.T.PartialEq.eq c.args.self.now.max_ranges at))) same
    (c.edit_span.ensures.err (λ x. Some (change x)) (λ x r h. search (rules, gives)))

pub edit_span-requires-clause-within : goal.edit_span-requires-clause-within
edit_span-requires-clause-within g c = c.starts_near-place.ensures.within

pub edit_span-requires-clause-parts : goal.edit_span-requires-clause-parts
edit_span-requires-clause-parts g c = c.starts_near-place.ensures.parts

pub edit_span-requires-clause-window : goal.edit_span-requires-clause-window
edit_span-requires-clause-window g c = c.window-window.ensures

pub edit_span-requires-clause-span : goal.edit_span-requires-clause-span
edit_span-requires-clause-span g c = c.requires.span.within

pub returns-clause-max_ranges : goal.returns-clause-max_ranges
returns-clause-max_ranges g c = c.edit_span.ensures.max_ranges

pub returns-clause-unchanged : goal.returns-clause-unchanged
returns-clause-unchanged g c = c.edit_span.ensures.unchanged
