use Rattle.std.proofs.Common.{◌≡◌, ◌+◌, ◌<◌, ◌^◌, length}
use Rattle.numa_maps.specs.Listing.{lowest_from, placed_in}
use Rattle.numa_maps.proofs.resident.Resident.huge_in.Given as goal

abbrev pub invariant-loop-page : goal.invariant-loop-page
invariant-loop-page l = record {
  counts : l.count + length (lowest_from l.next l.page-iterator)
      ≡ length (lowest_from 0 (placed_in l.self l.range));
  few : length (placed_in l.self l.range) < 2 ^ 63;
}
