use Rattle.std.proofs.Common.{◌-◌, ◌∙◌, arith, slice_index, sym}
use Rattle.numa_placed.specs.Turns.{spots_of}
use Rattle.numa_placed.proofs.Others.{astray-far, astray-none, astray-some, other-none, other-so}
use Rattle.numa_placed.proofs.Owned.{nowhere-far}
use Rattle.numa_placed.proofs.astray.has_astray.Goals as goal

pub returns-then-first-end : goal.returns-then-first-end
returns-then-first-end c =
    sym (astray-far (spots_of c.args.places.now) c.args.list.now c.args.first c.args.pages
    (λ page low high. nowhere-far c.args.places.now.nodes.items c.args.places.now.map.runs page
    c.iter.ensures.rising (omega (arith, c.min-end.ensures, low, high))))

pub returns-in-Some : goal.returns-in-Some
returns-in-Some c =
    let spots = spots_of c.args.places.now in
    let end = c.min-end.result in
    let node = c.in-Some._node in
    let other = other-so c.args.list.now (slice_index c.count_places-counts.result) node
    c.in-Some.ensures.some in
    sym (astray-some spots c.args.list.now c.args.first (end - c.args.first) c.args.pages
    (omega (arith, c.min-end.ensures)) node other.0
    (omega (arith, other.1, c.count_places-counts.ensures.counts node (omega arith))))

pub returns-in-None : goal.returns-in-None
returns-in-None c =
    let spots = spots_of c.args.places.now in
    let end = c.min-end.result in
    sym (astray-none spots c.args.list.now c.args.first (end - c.args.first) c.args.pages
    (omega (arith, c.min-end.ensures)) c.count_places-counts.ensures.off
    (λ node small out. sym (c.count_places-counts.ensures.counts node small)
    ∙ other-none c.args.list.now (slice_index c.count_places-counts.result) node
    (c.in-None.ensures.none node small) out)
    (λ page low high. nowhere-far c.args.places.now.nodes.items c.args.places.now.map.runs page
    c.iter.ensures.rising (omega (arith, c.min-end.ensures, low, high))))
