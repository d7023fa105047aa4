use Rattle.std.proofs.Common.{◌≡◌, ℕ, ◌<◌, Option, None, length, get_or}
use Rattle.std.specs.Prelude.{IsSomeAnd, MatchOption}
use Rattle.numa_huge.specs.Huge.{huge_at}
use Rattle.numa_huge.specs.Moves.{HugeMemory}
use Rattle.numa_placed.specs.Spots.{spot_at}
use Rattle.numa_placed.specs.declared.spot.Spot.{Spot}
use Rattle.numa_placed.specs.declared.spot.Spot.TheVariants.{Nowhere}
use Rattle.numaplan_handles.specs.Hosted.{spots_with}
use Rattle.numaplan_handles.specs.Pages.{IsNodeOr}
use Rattle.numaplan_handles.proofs.nodes_there.write_nodes.Given as goal

abbrev pub invariant-loop-place : goal.invariant-loop-place
invariant-loop-place l = record {
  long : length l.nodes ≡ length l.fn.nodes;
  nodes : (spots : ℕ → Spot) (memory : Option HugeMemory) (k : ℕ)
      → MatchOption l.placed ((p : ℕ) → spots p ≡ Nowhere)
      (λ it. (p : ℕ) → spot_at it.now p ≡ spots p)
      → MatchOption l.huge (memory ≡ None) (λ it. IsSomeAnd memory
      (λ memory. huge_at it.now.runs ≡ memory.pages.spots)) → k < l.place
      → IsNodeOr l.nowhere (spots_with memory spots) (get_or l.numbers k 0) (get_or l.nodes k 0);
}
