use Rattle.std.proofs.Common.{◌≡◌, ap, arith, ◌∙◌}
use Rattle.numa_pools.specs.Pools.{PoolCounts, free_at}
use Rattle.numa_pools.specs.Moves.{using}
use Rattle.numa_pools.specs.Shown.{shown}
use Rattle.numa_pools.proofs.Carrying.{AreTwo, two-of}
use Rattle.numa_pools.proofs.Serving.{freed-are, kept-served, served-few}
use Rattle.numa_pools.proofs.Serving.{served-is, served_of}
use Rattle.numa_pools.proofs.pools.Pools.serve_pages.Goals as goal

pub free_pages-requires : goal.free_pages-requires
free_pages-requires c =
    let p : PoolCounts = c.args.self.now in
    let so = served-few p c.args.from c.args.to c.args.pages c.serving-served.result
    (served-is p c.args.from c.args.to c.args.pages c.free.result c.surplus.result
    c.unreserved-spare.result c.serving-served.result c.free.ensures.free c.surplus.ensures
    c.unreserved-spare.ensures c.serving-served.ensures) in
    omega (arith, c.requires.used, so.all)

pub overflow_sub-self : goal.overflow_sub-self
overflow_sub-self c =
    let p : PoolCounts = c.args.self.now in
    let is : c.serving-served.result ≡ served_of p c.args.from c.args.to c.args.pages =
    served-is p c.args.from c.args.to c.args.pages c.free.result c.surplus.result
    c.unreserved-spare.result c.serving-served.result c.free.ensures.free c.surplus.ensures
    c.unreserved-spare.ensures c.serving-served.ensures in
    let so = served-few p c.args.from c.args.to c.args.pages c.serving-served.result is in
    let two : AreTwo p c.args.from c.args.to =
    two-of p c.args.from c.args.to c.keep.ensures c.requires.other
    (omega (arith, c.ranges.from.fits)) (omega (arith, c.ranges.to.fits)) in
    let of = freed-are p c.args.from c.args.to c.serving-served.result two
    (omega (arith, c.requires.used, so.all)) in
    let there : free_at (shown c.self.inside) c.args.to ≡ free_at p c.args.to =
    ap (λ (q : PoolCounts). free_at q c.args.to) (c.self.view_is ∙ c.free_pages.ensures)
    ∙ of.free in
    omega (arith, there, so.there)

pub invariant_of-self : goal.invariant_of-self
invariant_of-self c =
    let p : PoolCounts = c.args.self.now in
    let is : c.serving-served.result ≡ served_of p c.args.from c.args.to c.args.pages =
    served-is p c.args.from c.args.to c.args.pages c.free.result c.surplus.result
    c.unreserved-spare.result c.serving-served.result c.free.ensures.free c.surplus.ensures
    c.unreserved-spare.ensures c.serving-served.ensures in
    let two : AreTwo p c.args.from c.args.to =
    two-of p c.args.from c.args.to c.keep.ensures c.requires.other
    (omega (arith, c.ranges.from.fits)) (omega (arith, c.ranges.to.fits)) in
    kept-served p (shown c.self.inside) c.args.from c.args.to c.args.pages c.serving-served.result
    two (omega (arith, c.ranges.to.fits)) c.requires.used c.keep.ensures.reserved is
    (c.self.view_is ∙ c.free_pages.ensures) c.self.invariant

pub returns-clause-served : goal.returns-clause-served
returns-clause-served c =
    served-is c.args.self.now c.args.from c.args.to c.args.pages c.free.result c.surplus.result
    c.unreserved-spare.result c.serving-served.result c.free.ensures.free c.surplus.ensures
    c.unreserved-spare.ensures c.serving-served.ensures

pub returns-clause-pools : goal.returns-clause-pools
returns-clause-pools c =
    ap (λ (q : PoolCounts). using q c.args.to c.serving-served.result)
    (c.self.view_is ∙ c.free_pages.ensures)
