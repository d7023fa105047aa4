-- From here on as many nodes go as are left to go, and their pages are there. The pools have as
-- many used pages as lie on their nodes, where those of the nodes that still wait lie there, and
-- the others have gone.
use Rattle.std.proofs.Common.{◌≡◌, ◌<◌, ◌≤◌, ℕ, ◌+◌, ◌-◌, Bool, Option, length}
use Rattle.std.specs.Prelude.{slice_index}
use Rattle.numa_mask.specs.NodeSet.{has}
use Rattle.numa_ranges.specs.Counts.{count_pages}
use Rattle.numa_placed.specs.Moves.{AreTargets}
use Rattle.numa_placed.specs.Shifts.{ArePages}
use Rattle.numa_placed.specs.Standing.{AreWaiting}
use Rattle.numa_pools.specs.Kept.{AreKept}
use Rattle.numa_pools.specs.Pools.{used_at}
use Rattle.numa_huge.specs.Kept.{AreLeaving, ArePooled, Others}
use Rattle.numa_huge.specs.Moves.{leaving}
use Rattle.numa_huge.specs.declared.spot.HugeSpot.{HugeSpot}
use Rattle.numa_huge.proofs.Leaving.{next_spots}
use Rattle.numa_huge.proofs.places.moving.leave.Given as goal

abbrev pub invariant-loop-turn : goal.invariant-loop-turn
invariant-loop-turn l = record {
  goes : (go count : ℕ → ℕ) → AreTargets l.targets go → ArePages l.counts count
      → (still : ℕ → Bool) × AreWaiting l.waits still
      × (leaving (256 - l.turn) go count still l.pools
      ≡ leaving 256 go count (has l.from) l.initial.pools)
      × (count_pages still 0 256 + l.turn ≤ 256)
      × ((others : Others) (spots : ℕ → Option HugeSpot)
      → AreLeaving others l.from go l.counts l.initial.pools spots
      → ArePooled others l.pools (next_spots go still spots));
  there : (node : ℕ) → node < 256 → slice_index l.waits node ≡ 1
      → slice_index l.counts node ≤ used_at l.pools node;
  kept : AreKept l.pools;
  long : length l.waits ≡ 256;
}
