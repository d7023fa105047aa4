-- The ranges of the pages that a history maps, and their listing.
use Rattle.std.specs.Prelude.{zero, suc, ℕ, ◌+◌, ◌^◌, Option, Some, None, List, [], ◌∷◌, ◌++◌}
use Rattle.numa_machine.specs.Machine.{Hardware}
use Rattle.numa_mode.specs.Policy.{PolicyRecord}
use Rattle.numa_ranges.specs.Edits.{maximal_runs}
use Rattle.numa_ranges.specs.declared.run.Run.{Run}
use Rattle.numa_space.specs.Pages.{page_in, resolved_policy}
use Rattle.numa_space.specs.Same.{same_record}
use Rattle.numa_requests.specs.declared.command.Command.{Command}
use Rattle.numa_maps.specs.Listing.{listing}
use Rattle.numa_maps.specs.Residents.{Kept}

-- a page as a run of one page, where it is mapped
abbrev pub single : {T : Type 0} → ℕ → Option (ℕ × T) → List (Run T)
single page None = []
single page (Some at) = record { first = page; pages = 1; index = at.0; value = at.1 } ∷ []

-- each mapped page of so many from `first` on, as a run of its own
unfoldable pub singles : {T : Type 0} → (ℕ → Option (ℕ × T)) → ℕ → ℕ → List (Run T)
singles at first zero = []
singles at first (suc pages) = single first (at first) ++ singles at (first + 1) pages

-- the ranges, rising: the mapped pages, each that continues the one before it joined to that
unfoldable pub ranges_of : Hardware → List Command → List (Run (Option PolicyRecord))
ranges_of machine history = maximal_runs same_record (singles (page_in machine history) 0 (2 ^ 35))

-- one line for each range, with the policy that serves the task there and the pages that are placed
-- there
abbrev pub listing_of : Hardware → List Command → ℕ → Kept → List ℕ
listing_of machine history task kept =
    listing (resolved_policy machine history task) kept (ranges_of machine history)
