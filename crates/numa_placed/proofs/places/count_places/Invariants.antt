-- The pages counted so far, and those of the runs that are left, are those of all runs.
use Rattle.std.proofs.Common.{◌≡◌, ℕ, ◌+◌, ◌<◌, get_or}
use Rattle.numa_placed.specs.Spots.{is_off, is_on, pages_within}
use Rattle.numa_placed.specs.Turns.{spots_of}
use Rattle.numa_placed.proofs.Owned.{AllOwn, left_where}
use Rattle.numa_placed.proofs.Stating.{AreLeft}
use Rattle.numa_placed.proofs.places.count_places.Given as goal

abbrev pub invariant-loop-run : goal.invariant-loop-run
invariant-loop-run l = record {
  counts : (node : ℕ) → node < 256 → get_or l.counts node 0
      + left_where (is_on node) l.places.nodes.items l.run-iterator l.first l.pages
      ≡ pages_within (is_on node) (spots_of l.places) l.first l.pages;
  off : left_where is_off l.places.nodes.items l.run-iterator l.first l.pages
      ≡ pages_within is_off (spots_of l.places) l.first l.pages;
  own : AllOwn l.places.nodes.items l.first l.run-iterator;
  left : AreLeft l.run-iterator;
}
