-- Where each page lies, what each call makes of that, and how many runs there are.
use Rattle.std.specs.Prelude.{ℕ, ◌^◌, ◌&&◌, ◌==◌, Bool, true, false}
use Rattle.std.specs.Prelude.{Option, Some, None}
use Rattle.std.specs.Prelude.{is_some, nat_le, nat_lt, if◌then◌else◌}
use Rattle.numa_maps.specs.Residents.{Kept, placed_at}
use Rattle.numa_ranges.specs.Runs.{in_pages}
use Rattle.numa_ranges.specs.Counts.{count_pages, range_count}
pub use Rattle.numa_placed.specs.Laid.{spot_at}
use Rattle.numa_placed.specs.declared.spot.Spot.{Spot}
use Rattle.numa_placed.specs.declared.spot.Spot.TheVariants.{Nowhere, Stated}
use Rattle.numa_placed.specs.declared.change.Change.{Change}
use Rattle.numa_placed.specs.declared.change.Change.TheVariants.{State, Forget}

-- ---- a page

-- the node that a page lies on
abbrev pub node_of : Spot → Option ℕ
node_of Nowhere = None
node_of (Stated node) = Some node

abbrev pub is_placed : Spot → Bool
is_placed Nowhere = false
is_placed (Stated node) = true

abbrev pub same_spot : Spot → Spot → Bool
same_spot Nowhere Nowhere = true
same_spot (Stated a) (Stated b) = a == b
same_spot _ _ = false

-- a page that is stated to lie on a node
abbrev pub stated_spot : ℕ → Spot → Spot
stated_spot node spot = Stated node

-- a page of which nothing is stated any more
abbrev pub forgotten_spot : Spot → Spot
forgotten_spot spot = Nowhere

-- what a change makes of a page
abbrev pub changed_spot : Change → Spot → Spot
changed_spot (State node) spot = stated_spot node spot
changed_spot Forget spot = forgotten_spot spot

-- ---- all pages

-- the pages of a span changed
abbrev pub changed_spots : ℕ → ℕ → (Spot → Spot) → (ℕ → Spot) → ℕ → Spot
changed_spots first pages change spots page = if in_pages first pages page
    then change (spots page) else spots page

-- the mapped pages of a span stated to lie on a node
abbrev pub stated_spots : (ℕ → Bool) → ℕ → ℕ → ℕ → (ℕ → Spot) → ℕ → Spot
stated_spots is_mapped first pages node spots page = if in_pages first pages page && is_mapped page
    then stated_spot node (spots page) else spots page

-- nothing is stated of the pages of a span that keep a frame
abbrev pub passed_over : Kept → ℕ → ℕ → (ℕ → Spot) → ℕ → Spot
passed_over kept first pages spots page =
    if in_pages first pages page && is_some (placed_at kept page)
    then forgotten_spot (spots page) else spots page

-- the mapped pages of a span stated to lie on a node, but those that keep a frame
abbrev pub stated_beside : (ℕ → Bool) → Kept → ℕ → ℕ → ℕ → (ℕ → Spot) → ℕ → Spot
stated_beside is_mapped kept first pages node spots =
    passed_over kept first pages (stated_spots is_mapped first pages node spots)

-- ---- runs

-- a page that lies somewhere, as a page of a map
abbrev pub placed_page : (ℕ → Spot) → ℕ → Option (ℕ × Spot)
placed_page spots page = if is_placed (spots page) then Some (page, spots page) else None

-- how many runs there are of pages that lie somewhere: of a run all pages lie alike
abbrev pub run_count : (ℕ → Spot) → ℕ
run_count spots = range_count same_spot (placed_page spots)

-- how many there may be
abbrev pub most_runs : ℕ
most_runs = 1048576

-- whether there are more runs than there may be
abbrev pub too_many : (ℕ → Spot) → Bool
too_many spots = nat_lt most_runs (run_count spots)

-- ---- counts

abbrev pub is_on : ℕ → Spot → Bool
is_on node Nowhere = false
is_on node (Stated other) = other == node

-- whether a page lies on a node that isn't one of 256
abbrev pub is_off : Spot → Bool
is_off Nowhere = false
is_off (Stated node) = nat_le 256 node

-- a number of pages, where they pass
abbrev pub pages_if : Bool → ℕ → ℕ
pages_if passes pages = if passes then pages else 0

-- how many pages lie where the test holds
abbrev pub pages_where : (Spot → Bool) → (ℕ → Spot) → ℕ
pages_where test spots = count_pages (λ page. test (spots page)) 0 (2 ^ 35)

-- how many pages of a span lie where the test holds
abbrev pub pages_within : (Spot → Bool) → (ℕ → Spot) → ℕ → ℕ → ℕ
pages_within test spots first pages = count_pages (λ page. test (spots page)) first pages
