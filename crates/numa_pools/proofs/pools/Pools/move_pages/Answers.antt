use Rattle.std.proofs.Common.{arith}
use Rattle.numa_pools.proofs.Carrying.{AreTwo, two-of}
use Rattle.numa_pools.proofs.Serving.{both-are, served-few}
use Rattle.numa_pools.proofs.pools.Pools.move_pages.Goals as goal

pub overflow_sub-pages : goal.overflow_sub-pages
overflow_sub-pages c =
    let so = served-few c.args.self.now c.args.from c.args.to c.args.pages
    c.serve_pages-served.result c.serve_pages-served.ensures.served in
    omega (arith, so.all)

pub carry_pages-carried-requires-clause-used : goal.carry_pages-carried-requires-clause-used
carry_pages-carried-requires-clause-used c =
    let two : AreTwo c.args.self.now c.args.from c.args.to =
    two-of c.args.self.now c.args.from c.args.to c.keep.ensures c.requires.other
    (omega (arith, c.ranges.from.fits)) (omega (arith, c.ranges.to.fits)) in
    (both-are c.args.self.now c.serve_pages-served.new.self c.args.from c.args.to c.args.pages
    c.serve_pages-served.result 0 c.args.self.now two c.requires.used
    c.serve_pages-served.ensures.served c.serve_pages-served.ensures.pools).used

pub overflow_add-result : goal.overflow_add-result
overflow_add-result c =
    let so = served-few c.args.self.now c.args.from c.args.to c.args.pages
    c.serve_pages-served.result c.serve_pages-served.ensures.served in
    omega (arith, so.all, c.carry_pages-carried.ensures.carried, c.ranges.pages.fits)

pub returns-clause-moved : goal.returns-clause-moved
returns-clause-moved c =
    let two : AreTwo c.args.self.now c.args.from c.args.to =
    two-of c.args.self.now c.args.from c.args.to c.keep.ensures c.requires.other
    (omega (arith, c.ranges.from.fits)) (omega (arith, c.ranges.to.fits)) in
    (both-are c.args.self.now c.serve_pages-served.new.self c.args.from c.args.to c.args.pages
    c.serve_pages-served.result c.carry_pages-carried.result c.carry_pages-carried.new.self two
    c.requires.used c.serve_pages-served.ensures.served c.serve_pages-served.ensures.pools).many
    c.carry_pages-carried.ensures.carried

pub returns-clause-pools : goal.returns-clause-pools
returns-clause-pools c =
    let two : AreTwo c.args.self.now c.args.from c.args.to =
    two-of c.args.self.now c.args.from c.args.to c.keep.ensures c.requires.other
    (omega (arith, c.ranges.from.fits)) (omega (arith, c.ranges.to.fits)) in
    (both-are c.args.self.now c.serve_pages-served.new.self c.args.from c.args.to c.args.pages
    c.serve_pages-served.result c.carry_pages-carried.result c.carry_pages-carried.new.self two
    c.requires.used c.serve_pages-served.ensures.served c.serve_pages-served.ensures.pools).are
    c.carry_pages-carried.ensures.carried c.carry_pages-carried.ensures.pools
