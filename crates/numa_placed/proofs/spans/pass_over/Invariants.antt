-- Passing over the pages that are left gives what is to be.
use Rattle.std.proofs.Common.{◌≡◌, ℕ}
use Rattle.numa_placed.specs.Spots.{passed_over}
use Rattle.numa_placed.specs.Turns.{AreKept, spots_of}
use Rattle.numa_placed.proofs.spans.pass_over.Given as goal

abbrev pub invariant-loop-page : goal.invariant-loop-page
invariant-loop-page l = record {
  kept : AreKept l.places;
  limit : l.places.map.max_ranges ≡ l.fn.places.map.max_ranges;
  spots : (page : ℕ) → passed_over l.page-iterator l.first l.pages (spots_of l.places) page
      ≡ passed_over l.resident l.first l.pages (spots_of l.fn.places) page;
}
