use Rattle.std.proofs.Common.{subst}
use Rattle.numa_placed.specs.Laid.{Laid}
use Rattle.numa_placed.specs.Moves.{IsMove, moved_node}
use Rattle.numa_placed.specs.Spots.{spot_at}
use Rattle.numa_placed.specs.Turns.{spots_of}
use Rattle.numa_placed.proofs.placed.Placed.follow.Goals as goal

pub returns : goal.returns
returns c =
    subst (λ (laid : Laid). IsMove (spot_at laid) (moved_node c.args.old.now c.args.new.now)
    (spots_of c.shift_places.new.places) c.shift_places.result) c.self.view_is
    c.shift_places.ensures.moved
