use Rattle.std.proofs.Common.{◌^◌, arith}
use Rattle.numa_placed.specs.Spots.{is_on}
use Rattle.numa_placed.specs.Turns.{spots_of}
use Rattle.numa_placed.proofs.Owned.{all-on, nowhere-far}
use Rattle.numa_placed.proofs.Shared.{count-le}
use Rattle.numa_placed.proofs.places.count_each.Goals as goal

pub returns-clause-pages : goal.returns-clause-pages
returns-clause-pages c node small = c.count_places.ensures.counts node small

pub returns-clause-few : goal.returns-clause-few
returns-clause-few c node small =
    omega (
      arith,
      c.count_places.ensures.counts node small,
      count-le (λ page. is_on node (spots_of c.args.places.now page)) 0 (2 ^ 35),
    )

pub returns-clause-nodes : goal.returns-clause-nodes
returns-clause-nodes c =
    all-on (spots_of c.args.places.now) (2 ^ 35) c.count_places.ensures.off
    (λ page far. nowhere-far c.args.places.now.nodes.items c.args.places.now.map.runs page
    c.iter.ensures.rising far)
