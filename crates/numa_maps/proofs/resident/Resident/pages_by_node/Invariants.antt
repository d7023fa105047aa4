use Rattle.std.proofs.Common.{◌≡◌, ◌<◌, ◌^◌, length}
use Rattle.numa_maps.specs.Listing.{placed_in}
use Rattle.numa_maps.proofs.Placed.{CountsTo}
use Rattle.numa_maps.proofs.resident.Resident.pages_by_node.Given as goal

abbrev pub invariant-loop-placement : goal.invariant-loop-placement
invariant-loop-placement l = record {
  counts : CountsTo l.pages l.placement-iterator (placed_in l.self l.range);
  long : length l.pages ≡ 256;
  few : length (placed_in l.self l.range) < 2 ^ 63;
}
