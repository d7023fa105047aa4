use Rattle.std.proofs.Common.{◌≡◌, ℕ, ◌<◌, None, slice_index}
use Rattle.numa_core.specs.World.{Setup, World}
use Rattle.numa_core.specs.Touching.{Shows, lowest_free}
use Rattle.numa_core.proofs.free_frames.first_free.Given as goal

abbrev pub invariant-loop-rank : goal.invariant-loop-rank
invariant-loop-rank l = (s : Setup) (world : World) → Shows s l.places l.owners.items world
    → (i : ℕ) → i < l.rank → lowest_free s world (slice_index l.nodes i) ≡ None
