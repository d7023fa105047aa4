-- The listing of a space's ranges: one line a range, with the pages that are placed in it (numa(7),
-- /proc/PID/numa_maps).
use Rattle.std.specs.Prelude.{◌≡◌, ℕ, ◌*◌, ◌-◌, ◌==◌, Bool, Option, Some, None, List, [], ◌++◌}
use Rattle.std.specs.Prelude.{Contains, ◌↔◌, codes, count_by, decimal, filter, length, replicate}
use Rattle.std.specs.Prelude.{if◌then◌else◌, false, true, ◌∷◌, ◌+◌, ◌/◌, nat_le}
use Rattle.std.specs.Fmt.{digits}
use Rattle.std.specs.List.{flat_map}
use Rattle.numa_machine.specs.Machine.{Hardware}
use Rattle.numa_machine.specs.Sizes.{is_part}
use Rattle.numa_requests.specs.declared.placement.Placement.{Placement}
use Rattle.numa_mode.specs.Policy.{PolicyRecord, policy_text}
use Rattle.numa_ranges.specs.Counts.{IsRange}
use Rattle.numa_ranges.specs.Runs.{AreApart, in_pages}
use Rattle.numa_ranges.specs.declared.run.Run.{Run}
pub use Rattle.numa_requests.specs.NodeCounts.{node_text}
unfoldable pub use Rattle.numa_requests.specs.NodeCounts.{nodes_text}
use Rattle.numa_space.specs.Pages.{page_in, resolved_policy}
use Rattle.numa_space.specs.Same.{same_record}
use Rattle.numa_space.specs.Standing.{SpaceState, policy_in}
use Rattle.numa_requests.specs.declared.command.Command.{Command}
use Rattle.numa_maps.specs.Residents.{Kept}

-- ---- the pages that are placed

-- the placements on the pages of a range
abbrev pub placed_in : Kept → Run (Option PolicyRecord) → Kept
placed_in kept range = filter (λ at. in_pages range.first range.pages at.0) kept

-- of placements on the parts of pages of 2 MiB, rising, the lowest of each page, of the pages from
-- this one on, counted in 2 MiB
unfoldable pub lowest_from : ℕ → Kept → Kept
lowest_from next [] = []
lowest_from next (at ∷ rest) = if nat_le next (at.0 / 512)
    then at ∷ lowest_from (at.0 / 512 + 1) rest else lowest_from next rest

-- the placements that the line of a range counts: one for each of its pages that is placed, a page
-- of 2 MiB by the lowest of its parts that are
abbrev pub counted_in : Kept → Run (Option PolicyRecord) → Kept
counted_in kept range =
    if is_part range.index then lowest_from 0 (placed_in kept range) else placed_in kept range

-- how many of these placements are on a node
abbrev pub pages_on : Kept → ℕ → ℕ
pages_on placed node = count_by (λ at. at.1.node == node) placed

-- whether a page that is placed so is placed on a node
abbrev pub is_on : ℕ → Option Placement → Bool
is_on node None = false
is_on node (Some placement) = placement.node == node

-- the size of a page, of 2 MiB or of 4 KiB
abbrev pub size_text : Bool → List ℕ
size_text true = codes " kernelpagesize_kB=2048"
size_text false = codes " kernelpagesize_kB=4"

-- the pages of a range that lie somewhere, where there are some: how many, how many on each node,
-- and the size of a page
abbrev pub counted_text : Bool → ℕ → (ℕ → ℕ) → List ℕ
counted_text huge count pages =
    if count == 0 then [] else codes " anon=" ++ decimal count
    ++ nodes_text pages ++ size_text huge

abbrev pub placed_text : Bool → Kept → List ℕ
placed_text huge placed = counted_text huge (length placed) (pages_on placed)

-- ---- a line

-- a number in lower-case hexadecimal, after zeros where that has fewer digits than `least`
abbrev pub hex_text : ℕ → ℕ → List ℕ
hex_text least number =
    replicate (least - length (digits 16 false number)) 48 ++ digits 16 false number

-- the address of a page in at least eight digits; a page has 4096 bytes
abbrev pub address_text : ℕ → List ℕ
address_text page = hex_text 8 (page * 4096)

abbrev pub policy_or_default : Option PolicyRecord → List ℕ
policy_or_default None = codes "default"
policy_or_default (Some policy) = policy_text policy

-- the line of a range whose pages have this policy
abbrev pub range_line : Option PolicyRecord → Kept → Run (Option PolicyRecord) → List ℕ
range_line policy kept range =
    address_text range.first ++ codes " " ++ policy_or_default policy
    ++ placed_text (is_part range.index) (counted_in kept range) ++ codes "\n"

-- the line of a range of pages of 4 KiB that begins at this one, whose pages have this policy, and
-- of which so many lie somewhere
abbrev pub counted_line : Option PolicyRecord → ℕ → ℕ → (ℕ → ℕ) → List ℕ
counted_line policy first count pages =
    address_text first ++ codes " " ++ policy_or_default policy
    ++ counted_text false count pages ++ codes "\n"

-- the same of a range of pages of 2 MiB
abbrev pub huge_line : Option PolicyRecord → ℕ → ℕ → (ℕ → ℕ) → List ℕ
huge_line policy first count pages =
    address_text first ++ codes " " ++ policy_or_default policy ++ codes " huge"
    ++ counted_text true count pages ++ codes "\n"

-- ---- the listing

-- the lines of ranges, where each page has this policy
abbrev pub listing : (ℕ → Option PolicyRecord) → Kept → List (Run (Option PolicyRecord)) → List ℕ
listing policy_at kept ranges =
    flat_map (λ range. range_line (policy_at range.first) kept range) ranges

-- the listing of what a space holds, for a task
abbrev pub listing_in : SpaceState → ℕ → Kept → List ℕ
listing_in space task kept = listing (policy_in space task) kept space.ranges

-- these are the ranges of the pages that the commands have mapped, rising
pub record AreRangesOf (machine : Hardware) (history : List Command)
    (ranges : List (Run (Option PolicyRecord))) : Type 0 where
  pub rising : AreApart 0 ranges
  pub each : (range : Run (Option PolicyRecord))
      → Contains ranges range ↔ IsRange same_record (page_in machine history) range

-- the text lists the ranges of the pages that the commands have mapped, each with the policy that
-- serves the task there
abbrev pub IsListing : Hardware → List Command → ℕ → Kept → List ℕ → Type 0
IsListing machine history task kept text =
    (ranges : List (Run (Option PolicyRecord))) × AreRangesOf machine history ranges
    × (text ≡ listing (resolved_policy machine history task) kept ranges)
