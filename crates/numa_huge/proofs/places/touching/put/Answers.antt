use Rattle.std.proofs.Common.{arith, subst, sym}
use Rattle.numa_requests.specs.declared.page_refusal.PlacedRefusal.{PlacedRefusal}
use Rattle.numa_huge.specs.Huge.{huge_at, with_span}
use Rattle.numa_huge.specs.Tallies.{IsLackFor}
use Rattle.numa_huge.specs.declared.spot.HugeSpot.TheVariants.{On}
use Rattle.numa_huge.proofs.Own.{lack-set, own-set, spots-set, there-one}
use Rattle.numa_huge.proofs.places.touching.put.Goals as goal
use Rattle.std.proofs.Common.{Some}

pub returns-in-Err-clause-err : goal.returns-in-Err-clause-err
returns-in-Err-clause-err c =
    let runs = c.args.map.now.runs in
    let page = c.args.page in
    subst (λ (why : PlacedRefusal). IsLackFor
    (with_span page 1 (Some (On c.args.node)) (huge_at runs)) why) (sym c.lack_of.ensures)
    (lack-set runs page 1 c.args.map.now.max_ranges c.in-Err.refusal c.requires.own
    c.requires.most (On c.args.node) (there-one runs page c.requires.some)
    c.in-Err.ensures.err)

pub returns-clause-own : goal.returns-clause-own
returns-clause-own c =
    own-set c.args.map.now.runs c.set_span.new.self.runs c.args.page 1 (On c.args.node)
    (omega arith) c.requires.own c.in_default.ensures.ok

pub returns-clause-ok : goal.returns-clause-ok
returns-clause-ok c =
    spots-set c.args.map.now.runs c.set_span.new.self.runs c.args.page 1 (On c.args.node)
    (there-one c.args.map.now.runs c.args.page c.requires.some) c.in_default.ensures.ok
