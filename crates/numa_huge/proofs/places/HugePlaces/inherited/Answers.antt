use Rattle.std.proofs.Common.{◌∙◌, ap, sym}
use Rattle.numa_ranges.specs.Ranges.{Ranges}
use Rattle.numa_ranges.specs.Runs.{page_at}
use Rattle.numa_huge.specs.Huge.{HugePlaced, bare_spot, huge_at, spot_in}
use Rattle.numa_huge.specs.declared.spot.HugeSpot.{HugeSpot}
use Rattle.numa_huge.specs.declared.spot.HugeSpot.TheVariants.{Bare}
use Rattle.numa_huge.proofs.Bare.{bare-kept, bare-own, bare-sent, made_bare}
use Rattle.numa_huge.proofs.places.HugePlaces.inherited.Goals as goal

pub update_all-requires-clause-function : goal.update_all-requires-clause-function
update_all-requires-clause-function c = (made_bare, λ x r h. h.says.met)

pub invariant_of-result : goal.invariant_of-result
invariant_of-result c =
    let pages = c.update_all.ensures.pages made_bare (λ x r h. h.says.met) in
    bare-kept c.args.machine.now.memory c.new.result c.in-Ok.map.runs c.update_all.new.self.runs
    c.new.ensures (bare-own c.self.invariant.1.own
    (ap (λ (m : Ranges HugeSpot). m.runs) c.in-Ok.ensures)) pages
    (c.update_all.ensures.max_ranges
    ∙ ap (λ (m : Ranges HugeSpot). m.max_ranges) c.in-Ok.ensures ∙ c.self.invariant.2)

pub returns-clause-pools : goal.returns-clause-pools
returns-clause-pools c = c.new.ensures

pub returns-clause-spots : goal.returns-clause-spots
returns-clause-spots c page =
    let pages = c.update_all.ensures.pages made_bare (λ x r h. h.says.met) in
    ap spot_in (pages page) ∙ bare-sent (page_at c.in-Ok.map.runs page)
    ∙ ap (λ (m : Ranges HugeSpot). bare_spot (huge_at m.runs page)) c.in-Ok.ensures
    ∙ ap (λ (p : HugePlaced). bare_spot (huge_at p.runs page)) c.self.view_is
