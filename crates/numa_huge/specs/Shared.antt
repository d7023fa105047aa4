-- What runs have of a span.
use Rattle.std.specs.Prelude.{ℕ, ◌&&◌, Bool, Option, Some, if◌then◌else◌}
use Rattle.numa_ranges.specs.Counts.{count_pages}
use Rattle.numa_ranges.specs.Runs.{in_pages}
use Rattle.numa_ranges.specs.declared.run.Run.{Run}
use Rattle.numa_huge.specs.declared.spot.HugeSpot.{HugeSpot}

-- a number of pages, where they pass
abbrev pub pages_if : Bool → ℕ → ℕ
pages_if passes pages = if passes then pages else 0

-- how many of n pages from one on are of a run, and pass the test
abbrev pub part_where : (Option HugeSpot → Bool) → Run HugeSpot → ℕ → ℕ → ℕ
part_where test run first n =
    count_pages (λ page. in_pages run.first run.pages page && test (Some run.value)) first n
