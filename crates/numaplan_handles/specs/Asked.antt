-- What a handle of a core answers about the ranges of pages, and about tasks.
use Rattle.std.specs.Prelude.{◌≡◌, ◌≤◌, ◌<◌, ℕ, Option, Some, List, length, slice_get}
use Rattle.std.specs.List.{AllWithin}
use Rattle.numa_core.specs.Standing.{CoreState}
use Rattle.numa_machine.specs.declared.rules.Rules.{Rules}
use Rattle.numa_mode.specs.Policy.{PolicyRecord}
use Rattle.numa_ranges.specs.Runs.{end_of}
use Rattle.numa_ranges.specs.declared.run.Run.{Run}
use Rattle.numa_space.specs.Policies.{task_record}
use Rattle.numa_space.specs.Refusals.{range_count_of}
use Rattle.numa_space.specs.Standing.{StandsFor, record_of}
use Rattle.numa_requests.specs.declared.command.Command.{Command}
use Rattle.numa_maps.specs.Listing.{AreRangesOf, IsListing, listing_in}
use Rattle.numa_maps.specs.Residents.{Kept}

-- there are this many ranges, as many as the accepted commands mean
abbrev pub HasRanges : Option CoreState → ℕ → Type 0
HasRanges kept count = (core : CoreState) → kept ≡ Some core → (count ≡ length core.space.ranges)
    × ((history : List Command) → StandsFor core.space history
    → count ≡ range_count_of core.space.machine history)

-- this is the range at a place, the lowest being at 0, of those that the accepted commands mean
abbrev pub HasRangeAt : Option CoreState → ℕ → Option (Run (Option PolicyRecord)) → Type 0
HasRangeAt kept place found = (core : CoreState) → kept ≡ Some core →
    (found ≡ slice_get core.space.ranges place)
    × ((history : List Command) → StandsFor core.space history
    → AreRangesOf core.space.machine history core.space.ranges)

-- the ranges before the place end at the page or before it, and those from there on after it: so
-- the range at the place has the page, where one has it, and else is the next
pub record IsPlaceOf {T : Type 0} (ranges : List (Run T)) (page place : ℕ) : Type 0 where
  pub within : place ≤ length ranges
  pub before : AllWithin (λ range. end_of range ≤ page) ranges 0 place
  pub behind : AllWithin (λ range. page < end_of range) ranges place (length ranges)

-- this is the place of a page among the ranges that the accepted commands mean
abbrev pub HasPlaceOf : Option CoreState → ℕ → ℕ → Type 0
HasPlaceOf kept page place = (core : CoreState) → kept ≡ Some core →
    IsPlaceOf core.space.ranges page place

-- this is the policy of a task, as the accepted commands mean it
abbrev pub HasTaskPolicy : Option CoreState → ℕ → Option PolicyRecord → Type 0
HasTaskPolicy kept task found = (core : CoreState) → kept ≡ Some core →
    (found ≡ record_of core.space.tasks task)
    × ((history : List Command) → StandsFor core.space history
    → found ≡ task_record core.space.machine history task)

-- these are the rules by which the core goes
abbrev pub HasRules : Option CoreState → Rules → Type 0
HasRules kept rules = (core : CoreState) → kept ≡ Some core → rules ≡ core.space.machine.rules

-- the text lists the ranges for a task, with these placements
abbrev pub HasListing : Option CoreState → ℕ → Kept → List ℕ → Type 0
HasListing kept task placed text = (core : CoreState) → kept ≡ Some core →
    (text ≡ listing_in core.space task placed)
    × ((history : List Command) → StandsFor core.space history
    → IsListing core.space.machine history task placed text)
