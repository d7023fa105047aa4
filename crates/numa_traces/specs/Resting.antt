-- A trace over pages that lie somewhere before it: they stay there, and take no room. A trace is
-- the list of its accesses, the newest first.
use Rattle.std.specs.Prelude.{◌≡◌, ℕ, Option, Some, None, List, [], ◌∷◌, unwrap_or}
use Rattle.std.specs.Prelude.{if◌then◌else◌}
use Rattle.std.specs.BTreeMap.{insert_entry}
use Rattle.std.specs.Option.{option_map}
use Rattle.std.specs.Ordering.{nat_cmp}
use Rattle.numa_maps.specs.Residents.{Kept, placed_at}
use Rattle.numa_placed.specs.Spots.{spot_at}
use Rattle.numa_placed.specs.Spots as spot
use Rattle.numa_placed.specs.declared.spot.Spot.{Spot}
use Rattle.numa_placed.specs.declared.spot.Spot.TheVariants.{Nowhere}
use Rattle.numa_plan.specs.Meaning.{PlanData}
use Rattle.numa_requests.specs.declared.placement.Placement.{Placement}
use Rattle.numa_traces.specs.Placing.{Frames, node_of}
use Rattle.numa_traces.specs.Replaying.{Replayed, frames_with_access, is_first, route_from}
use Rattle.numa_traces.specs.Tallies.{Route, is_route, no_accesses, with_accesses}
use Rattle.numa_traces.specs.declared.access.Access.{Access}
use Rattle.numa_traces.specs.declared.before.Before.{Before}
use Rattle.numa_traces.specs.declared.tallies.AccessCounts.{AccessCounts}

-- ---- before the trace

-- on the node of its frame, or else on this one
abbrev pub node_by : Option Placement → Option ℕ → Option ℕ
node_by (Some placement) other = Some placement.node
node_by None other = other

-- the node on which a page lies, in the frame that it keeps or else where it was stated to lie
abbrev pub node_before : Kept → (ℕ → Spot) → ℕ → Option ℕ
node_before kept spots page = node_by (placed_at kept page) (spot.node_of (spots page))

-- where a page was stated to lie, if anything was stated
abbrev pub stated_in : Before → ℕ → Spot
stated_in before page =
    unwrap_or (option_map (λ placed. spot_at placed.now page) before.placed) Nowhere

abbrev pub lies_in : Before → ℕ → Option ℕ
lies_in before page = node_before before.resident.now (stated_in before) page

-- all pages lie nowhere
abbrev pub LieNowhere : (ℕ → Option ℕ) → Type 0
LieNowhere there = (page : ℕ) → there page ≡ None

-- where a page lies, if any may lie anywhere
abbrev pub lies_where : Option Before → ℕ → Option ℕ
lies_where None page = None
lies_where (Some before) page = lies_in before page

-- ---- an access

-- with a page on the node where it lies before the trace, if it does
abbrev pub laid_on : Frames → ℕ → Option ℕ → Frames
laid_on frames page None = frames
laid_on frames page (Some node) =
    record { pages = insert_entry nat_cmp frames.pages page node; free = frames.free }

-- the same of a page that no access has touched yet
abbrev pub laid_by : Option ℕ → Frames → ℕ → Option ℕ → Frames
laid_by (Some node) frames page there = frames
laid_by None frames page there = laid_on frames page there

abbrev pub laid : (ℕ → Option ℕ) → Frames → ℕ → Frames
laid there frames page = laid_by (node_of frames.pages page) frames page (there page)

-- what was met so far, as an access of this page finds it
abbrev pub found : (ℕ → Option ℕ) → Replayed → ℕ → Replayed
found there met page = record { frames = laid there met.frames page; tallies = met.tallies }

-- ---- a trace

-- the pages and the room left after a trace
abbrev pub frames_over : PlanData → (ℕ → Option ℕ) → Frames → List Access → Frames
frames_over plan there start [] = start
frames_over plan there start (access ∷ trace) =
    frames_with_access plan (laid there (frames_over plan there start trace) access.page) access

-- as an access finds them, which follows a trace
abbrev pub frames_for : PlanData → (ℕ → Option ℕ) → Frames → List Access → Access → Frames
frames_for plan there start trace access =
    laid there (frames_over plan there start trace) access.page

-- the accesses of a trace that took a route, and how many of them were faults
abbrev pub tally_over : PlanData → (ℕ → Option ℕ) → Frames → List Access → Route → AccessCounts
tally_over plan there start [] route = no_accesses
tally_over plan there start (access ∷ trace) route =
    if is_route (route_from plan (frames_for plan there start trace access) access) route
    then with_accesses (tally_over plan there start trace route) access.count
    (is_first (frames_for plan there start trace access) access)
    else tally_over plan there start trace route
