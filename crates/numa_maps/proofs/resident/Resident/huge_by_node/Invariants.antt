use Rattle.std.proofs.Common.{◌≡◌, ◌<◌, ◌^◌, length}
use Rattle.numa_maps.specs.Listing.{lowest_from, placed_in}
use Rattle.numa_maps.proofs.Placed.{CountsTo}
use Rattle.numa_maps.proofs.resident.Resident.huge_by_node.Given as goal

abbrev pub invariant-loop-page : goal.invariant-loop-page
invariant-loop-page l = record {
  counts : CountsTo l.pages (lowest_from l.next l.page-iterator)
      (lowest_from 0 (placed_in l.self l.range));
  long : length l.pages ≡ 256;
  few : length (placed_in l.self l.range) < 2 ^ 63;
}
