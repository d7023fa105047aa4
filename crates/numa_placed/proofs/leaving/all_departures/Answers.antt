use Rattle.std.proofs.Common.{◌≡◌, ◌≤◌, ℕ, arith, slice_index}
use Rattle.numa_placed.proofs.Tallied.{leave-few}
use Rattle.numa_placed.proofs.leaving.all_departures.Goals as goal

pub sum-requires : goal.sum-requires
sum-requires c node small =
    omega (
      arith,
      c.leaving-from.ensures node small,
      leave-few (slice_index c.targets-to.result) (slice_index c.args.there.now) node,
      c.requires node small,
    )
