-- `maps`, where pages were stated to lie somewhere: they are counted like those in frames.
use Rattle.std.specs.Prelude.{ℕ, ◌+◌, Option, Some, None, List, length, if◌then◌else◌}
use Rattle.numa_machine.specs.Sizes.{is_part}
use Rattle.numa_huge.specs.Huge.{on_node, pages_in as pages_in_span}
use Rattle.numa_huge.specs.Moves.{HugeMemory}
use Rattle.numa_page_state.specs.Huge.{huge_count, huge_first}
use Rattle.std.specs.List.{flat_map}
use Rattle.numa_mode.specs.Policy.{PolicyRecord}
use Rattle.numa_ranges.specs.declared.run.Run.{Run}
use Rattle.numa_space.specs.Pages.{resolved_policy}
use Rattle.numa_maps.specs.Listing.{counted_line, huge_line, pages_on, placed_in}
use Rattle.numa_maps.specs.Residents.{Kept}
use Rattle.numa_placed.specs.Shifts.{sum_below}
use Rattle.numa_placed.specs.Spots.{is_on, pages_within}
use Rattle.numa_placed.specs.declared.spot.Spot.{Spot}
use Rattle.numa_run.specs.Ranges.{ranges_of}
use Rattle.numa_page_state.specs.Lying.{Process}

-- how many pages of a range were stated to lie on a node, or went there since
abbrev pub stated_in : (ℕ → Spot) → Run (Option PolicyRecord) → ℕ → ℕ
stated_in spots range node = pages_within (is_on node) spots range.first range.pages

-- with those in frames: on each node, and in all
abbrev pub pages_in : Kept → (ℕ → Spot) → Run (Option PolicyRecord) → ℕ → ℕ
pages_in kept spots range node = pages_on (placed_in kept range) node + stated_in spots range node

abbrev pub count_in : Kept → (ℕ → Spot) → Run (Option PolicyRecord) → ℕ
count_in kept spots range = length (placed_in kept range) + sum_below 256 (stated_in spots range)

-- the line of a range of pages of 4 KiB, as lines of scripts map them, which have this policy
abbrev pub there_line : Option PolicyRecord → Kept → (ℕ → Spot) → Run (Option PolicyRecord)
    → List ℕ
there_line policy kept spots range =
    counted_line policy range.first (count_in kept spots range) (pages_in kept spots range)

-- the lines of ranges, where each page has this policy
abbrev pub there_lines : (ℕ → Option PolicyRecord) → Kept → (ℕ → Spot)
    → List (Run (Option PolicyRecord)) → List ℕ
there_lines policy_at kept spots ranges =
    flat_map (λ range. there_line (policy_at range.first) kept spots range) ranges

-- the listing of a process for a task
abbrev pub there_listing : Process → (ℕ → Spot) → ℕ → List ℕ
there_listing process spots task =
    there_lines (resolved_policy process.machine process.history task) process.kept spots
    (ranges_of process.machine process.history)

-- ---- beside pages of 2 MiB

-- how many of a range lie on a node
abbrev pub huge_in : HugeMemory → Run (Option PolicyRecord) → ℕ → ℕ
huge_in memory range node = pages_in_span (on_node node) memory.pages.spots
    (huge_first range.first) (huge_count range.first range.pages)

abbrev pub huge_range_line : Option PolicyRecord → HugeMemory → Run (Option PolicyRecord) → List ℕ
huge_range_line policy memory range = huge_line policy range.first
    (sum_below 256 (huge_in memory range)) (huge_in memory range)

-- a range is of pages of one size
abbrev pub either_line : HugeMemory → Option PolicyRecord → Kept → (ℕ → Spot)
    → Run (Option PolicyRecord) → List ℕ
either_line memory policy kept spots range = if is_part range.index
    then huge_range_line policy memory range else there_line policy kept spots range

abbrev pub either_lines : (ℕ → Option PolicyRecord) → Kept → (ℕ → Spot) → HugeMemory
    → List (Run (Option PolicyRecord)) → List ℕ
either_lines policy_at kept spots memory ranges =
    flat_map (λ range. either_line memory (policy_at range.first) kept spots range) ranges

-- the listing of a process for a task
abbrev pub both_listing : Process → (ℕ → Spot) → Option HugeMemory → ℕ → List ℕ
both_listing process spots None task = there_listing process spots task
both_listing process spots (Some memory) task =
    either_lines (resolved_policy process.machine process.history task) process.kept spots memory
    (ranges_of process.machine process.history)
