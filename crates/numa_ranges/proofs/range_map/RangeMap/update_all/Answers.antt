-- The runs with their changed values, joined, are maximal again.
use Rattle.std.proofs.Common.{ap, ◌∙◌, arith, map}
use Rattle.std.proofs.lemmas.List.{length-map}
use Rattle.numa_ranges.specs.Edits.{with_new_value}
use Rattle.numa_ranges.proofs.InPlace.{apart-revalued, page_at-revalued}
use Rattle.numa_ranges.proofs.InPlace.{length-joined}
use Rattle.numa_ranges.proofs.Spans.{apart-joined-all, maximal-joined-all, page_at-joined-all}
use Rattle.numa_ranges.proofs.range_map.RangeMap.update_all.Goals as goal

pub update_all-requires-clause-function : goal.update_all-requires-clause-function
update_all-requires-clause-function g c = c.requires.function

pub invariant_of-self : goal.invariant_of-self
invariant_of-self g c =
    let old = c.self.inside.runs in
    let change = c.requires.function.0 in
    let all = c.update_all.ensures change c.requires.function.1 in
    rw all (
      apart-joined-all g.T.PartialEq.eq g.met.T.Exact.exact g.met.T.Eq.laws.refl
          (map (with_new_value change) old) (apart-revalued change 0 old c.self.invariant.0),
      maximal-joined-all g.T.PartialEq.eq g.met.T.Exact.exact g.met.T.Eq.laws.refl
          (map (with_new_value change) old),
      omega (
        arith,
        length-joined g.T.PartialEq.eq g.met.T.Exact.exact g.met.T.Eq.laws.refl
            (map (with_new_value change) old),
        length-map old (with_new_value change),
        c.self.invariant.2,
      ),
    )

pub returns-clause-pages : goal.returns-clause-pages
returns-clause-pages g c change gives page =
    let old = c.self.inside.runs in
    let all = c.update_all.ensures change gives in
    rw (all, ← (ap (λ v. v.runs) c.self.view_is))
    (page_at-joined-all g.T.PartialEq.eq g.met.T.Exact.exact g.met.T.Eq.laws.refl
    (map (with_new_value change) old) page ∙ page_at-revalued change old page)
