use Rattle.numa_placed.specs.Turns.{spots_of}
use Rattle.numa_placed.proofs.fitting.keep_all_rooms.Goals as goal

pub returns : goal.returns
returns c room are =
    let spots = spots_of c.args.places.now in
    c.between-left.ensures room spots spots are c.count_each-counts.ensures.pages
    c.count_each-counts.ensures.pages
