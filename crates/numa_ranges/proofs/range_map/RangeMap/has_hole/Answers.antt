-- The walk begins where the search ended.
use Rattle.std.proofs.Common.{List, not, is_some, length, ap, sym, subst, ◌∙◌, arith}
use Rattle.numa_ranges.specs.Edits.{StartsAround}
use Rattle.numa_ranges.specs.Maps.{any_page}
use Rattle.numa_ranges.specs.Runs.{page_at}
use Rattle.numa_ranges.specs.declared.run.Run.{Run}
use Rattle.numa_ranges.proofs.range_map.RangeMap.has_hole.Goals as goal

pub lacks_page-requires-clause-within : goal.lacks_page-requires-clause-within
lacks_page-requires-clause-within g c =
    omega (arith, c.starts_near-place.ensures.within, ap (λ v. length v.runs) c.self.view_is)

pub lacks_page-requires-clause-parts : goal.lacks_page-requires-clause-parts
lacks_page-requires-clause-parts g c =
    subst (λ (l : List (Run g.row.T.Denot)). StartsAround l c.starts_near-place.result c.args.first)
    (sym (ap (λ v. v.runs) c.self.view_is)) c.starts_near-place.ensures.parts

pub returns : goal.returns
returns g c = c.lacks_page.ensures
    ∙ ap (λ v. any_page (λ page. not (is_some (page_at v.runs page))) c.args.first c.args.pages)
    c.self.view_is
