-- The window that is put in its place makes the whole list, edited and joined.
use Rattle.std.proofs.Common.{◌+◌, ◌≤◌, length, arith, ap, refl, ◌∙◌}
use Rattle.numa_ranges.specs.Runs.{page_at}
use Rattle.numa_ranges.specs.Edits.{edit_of, edited_span}
use Rattle.numa_ranges.proofs.Cut.{page_at-edited, apart-edited}
use Rattle.numa_ranges.proofs.Spans.{in-range-window, some-window, stands-joined, refused-joined}
use Rattle.numa_ranges.proofs.Spans.{window-edited}
use Rattle.numa_ranges.proofs.Spans.{window-refused}
use Rattle.numa_ranges.proofs.Window.{edited-around, around-rises}
use Rattle.numa_ranges.proofs.range_map.RangeMap.edit_span.Goals as goal

pub edit_near-edited-requires-clause-window : goal.edit_near-edited-requires-clause-window
edit_near-edited-requires-clause-window g c =
    let places = around-rises c.args.self.now.runs c.args.place c.args.first
    (c.args.first + c.args.pages) c.args.window.0 c.args.window.1 (omega arith) c.requires.within
    c.requires.parts c.requires.window in (
      places.0,
      omega (
        arith,
        places.1,
        ap length c.tidy.ensures,
        ap (λ v. length v.runs) c.self.view_is,
      ),
    )

pub edit_near-edited-requires-clause-in_range : goal.edit_near-edited-requires-clause-in_range
edit_near-edited-requires-clause-in_range g c =
    let places = around-rises c.args.self.now.runs c.args.place c.args.first
    (c.args.first + c.args.pages) c.args.window.0 c.args.window.1 (omega arith) c.requires.within
    c.requires.parts c.requires.window in
    let within : c.args.window.1 ≤ length c.self.inside.runs =
    omega (arith, places.1, ap (λ v. length v.runs) c.self.view_is) in
    rw (c.tidy.ensures)
    (in-range-window c.self.inside.runs c.args.window.0 c.args.window.1 c.self.invariant.0 places.0
    within)

pub edit_near-edited-requires-clause-some : goal.edit_near-edited-requires-clause-some
edit_near-edited-requires-clause-some g c =
    let places = around-rises c.args.self.now.runs c.args.place c.args.first
    (c.args.first + c.args.pages) c.args.window.0 c.args.window.1 (omega arith) c.requires.within
    c.requires.parts c.requires.window in
    let within : c.args.window.1 ≤ length c.self.inside.runs =
    omega (arith, places.1, ap (λ v. length v.runs) c.self.view_is) in
    rw (c.tidy.ensures)
    (some-window c.self.inside.runs c.args.window.0 c.args.window.1 c.self.invariant.0 places.0
    within)

pub edit_near-edited-requires-clause-function : goal.edit_near-edited-requires-clause-function
edit_near-edited-requires-clause-function g c = c.requires.function

pub invariant_of-self-2 : goal.invariant_of-self-2
invariant_of-self-2 g c =
    let change = c.requires.function.0 in
    let runs = ap (λ v. v.runs) c.self.view_is in
    let put = window-edited g.T.PartialEq.eq g.met.T.Exact.exact g.met.T.Eq.laws.refl
    c.args.self.now.runs c.tidy.new.self c.edit_near-edited.new.self c.args.window.0
    c.args.window.1 c.args.first (c.args.first + c.args.pages) c.self.inside.max_ranges
    change (c.tidy.ensures ∙ runs) (edited-around g.T.PartialEq.eq
    g.met.T.Exact.exact g.met.T.Eq.laws.refl c.args.self.now.runs c.args.place c.args.first
    (c.args.first + c.args.pages) c.args.window.0 c.args.window.1 change
    (rw (← runs) c.self.invariant.0) (rw (← runs) c.self.invariant.1) (omega arith)
    c.requires.within c.requires.parts c.requires.window)
    (c.in_default.ensures.ok change c.requires.function.1) in
    let all = stands-joined g.T.PartialEq.eq g.met.T.Exact.exact g.met.T.Eq.laws.refl
    c.self.inside.runs (edit_of c.args.first (c.args.first + c.args.pages) change
    c.args.self.now.runs) c.edit_near-edited.new.self
    (edited_span c.args.first c.args.pages change (page_at c.args.self.now.runs))
    c.self.inside.max_ranges
    (apart-edited 0 c.args.first (c.args.first + c.args.pages) change c.args.self.now.runs
    (omega arith) (rw (← runs) c.self.invariant.0))
    (λ page. page_at-edited 0 c.args.first c.args.pages change c.args.self.now.runs page
    (rw (← runs) c.self.invariant.0)) put.0 put.1 in
    (all.apart, all.maximal, all.size)

pub returns-clause-ok : goal.returns-clause-ok
returns-clause-ok g c change gives =
    let runs = ap (λ v. v.runs) c.self.view_is in
    let put = window-edited g.T.PartialEq.eq g.met.T.Exact.exact g.met.T.Eq.laws.refl
    c.args.self.now.runs c.tidy.new.self c.edit_near-edited.new.self c.args.window.0
    c.args.window.1 c.args.first (c.args.first + c.args.pages) c.self.inside.max_ranges
    change (c.tidy.ensures ∙ runs) (edited-around g.T.PartialEq.eq
    g.met.T.Exact.exact g.met.T.Eq.laws.refl c.args.self.now.runs c.args.place c.args.first
    (c.args.first + c.args.pages) c.args.window.0 c.args.window.1 change
    (rw (← runs) c.self.invariant.0) (rw (← runs) c.self.invariant.1) (omega arith)
    c.requires.within c.requires.parts c.requires.window)
    (c.in_default.ensures.ok change gives) in
    let all = stands-joined g.T.PartialEq.eq g.met.T.Exact.exact g.met.T.Eq.laws.refl
    c.self.inside.runs (edit_of c.args.first (c.args.first + c.args.pages) change
    c.args.self.now.runs) c.edit_near-edited.new.self
    (edited_span c.args.first c.args.pages change (page_at c.args.self.now.runs))
    c.self.inside.max_ranges
    (apart-edited 0 c.args.first (c.args.first + c.args.pages) change c.args.self.now.runs
    (omega arith) (rw (← runs) c.self.invariant.0))
    (λ page. page_at-edited 0 c.args.first c.args.pages change c.args.self.now.runs page
    (rw (← runs) c.self.invariant.0)) put.0 put.1 in
    record {
      shows = all.page;
      accepted = rw (← (ap (λ v. v.max_ranges) c.self.view_is)) all.accepted;
    }

pub returns-in-Err-clause-err : goal.returns-in-Err-clause-err
returns-in-Err-clause-err g c change gives =
    let runs = ap (λ v. v.runs) c.self.view_is in
    let cause = window-refused g.T.PartialEq.eq g.met.T.Exact.exact g.met.T.Eq.laws.refl
    c.args.self.now.runs c.tidy.new.self c.args.window.0 c.args.window.1
    c.args.first (c.args.first + c.args.pages) c.self.inside.max_ranges
    c.in-Err.refused change (c.tidy.ensures ∙ runs) (edited-around g.T.PartialEq.eq
    g.met.T.Exact.exact g.met.T.Eq.laws.refl c.args.self.now.runs c.args.place c.args.first
    (c.args.first + c.args.pages) c.args.window.0 c.args.window.1 change
    (rw (← runs) c.self.invariant.0) (rw (← runs) c.self.invariant.1) (omega arith)
    c.requires.within c.requires.parts c.requires.window)
    (c.in-Err.ensures.err change gives) in
    rw (← (ap (λ v. v.max_ranges) c.self.view_is))
    (refused-joined g.T.PartialEq.eq g.met.T.Exact.exact g.met.T.Eq.laws.refl
    (edit_of c.args.first (c.args.first + c.args.pages) change c.args.self.now.runs) _
    (edited_span c.args.first c.args.pages change (page_at c.args.self.now.runs))
    c.self.inside.max_ranges c.in-Err.refused
    (apart-edited 0 c.args.first (c.args.first + c.args.pages) change c.args.self.now.runs
    (omega arith) (rw (← runs) c.self.invariant.0))
    (λ page. page_at-edited 0 c.args.first c.args.pages change c.args.self.now.runs page
    (rw (← runs) c.self.invariant.0)) refl cause)
