-- How many accesses of a trace went to each range of pages, over which routes.
use Rattle.std.specs.Prelude.{◌≡◌, ◌⊎◌, ⊤, ℕ, Bool, Option, Some, None, List, [], ◌∷◌}
use Rattle.std.specs.Prelude.{MatchOption, min, nat_le, if◌then◌else◌}
use Rattle.std.specs.List.{prefix_len}
use Rattle.numa_plan.specs.Meaning.{PlanData}
use Rattle.numa_traces.specs.Placing.{Frames}
use Rattle.numa_traces.specs.Replaying.{EndsReplay, Replayed, is_first, route_from}
use Rattle.numa_traces.specs.Resting.{frames_for}
use Rattle.numa_traces.specs.Tallies.{Counts, IsFull, Route, Tallied, is_route, no_accesses}
use Rattle.numa_traces.specs.Tallies.{tally_at, with_accesses}
use Rattle.numa_traces.specs.declared.access.Access.{Access}
use Rattle.numa_traces.specs.declared.fault.ReplayError.{ReplayError}
use Rattle.numa_traces.specs.declared.fault.ReplayError.TheVariants.{NoMemory, TooMany}
use Rattle.numa_traces.specs.declared.tallies.AccessCounts.{AccessCounts}

-- the first page of each range, rising, and how many accesses went over which route, with the
-- number of the range in place of the task's
pub record Ranged : Type 0 where
  pub firsts : List ℕ
  pub tallies : Tallied

-- the number of a page's range, from 1 on: how many begin at the page or before it
abbrev pub range_of : List ℕ → ℕ → ℕ
range_of firsts page = min (prefix_len (λ first. nat_le first page) firsts) 4294967295

-- the route of an access to this page by its range
abbrev pub by_range : List ℕ → ℕ → Route → Route
by_range firsts page route = (range_of firsts page, route.1, route.2)

-- the accesses of a trace that took a route to a range, and how many of them were faults
abbrev pub ranged_over : List ℕ → PlanData → (ℕ → Option ℕ) → Frames → List Access → Route
    → AccessCounts
ranged_over firsts plan there start [] route = no_accesses
ranged_over firsts plan there start (access ∷ trace) route =
    if is_route (by_range firsts access.page
    (route_from plan (frames_for plan there start trace access) access)) route
    then with_accesses (ranged_over firsts plan there start trace route) access.count
    (is_first (frames_for plan there start trace access) access)
    else ranged_over firsts plan there start trace route

-- where ranges are counted by, these are what a trace comes to
abbrev pub AreRanged : PlanData → (ℕ → Option ℕ) → Frames → List Access → Option Ranged → Type 0
AreRanged plan there start trace ranges = MatchOption ranges ⊤ (λ ranged. (route : Route)
    → tally_at ranged.tallies route ≡ ranged_over ranged.firsts plan there start trace route)

-- nothing is counted yet
abbrev pub HasNone : Option Ranged → Type 0
HasNone ranges = MatchOption ranges ⊤ (λ ranged. ranged.tallies ≡ [])

-- by the same ranges, if by any
abbrev pub AreSameRanges : Option Ranged → Option Ranged → Type 0
AreSameRanges None new = new ≡ None
AreSameRanges (Some old) None = ⊥
AreSameRanges (Some old) (Some new) = new.firsts ≡ old.firsts

-- accesses were counted for the range of their page
abbrev pub CountsRange : Option Ranged → Access → Route → Bool → Option Ranged → Type 0
CountsRange None access route is_fault new = new ≡ None
CountsRange (Some old) access route is_fault None = ⊥
CountsRange (Some old) access route is_fault (Some new) = (new.firsts ≡ old.firsts)
    × Counts old.tallies (by_range old.firsts access.page route) access.count is_fault new.tallies

-- a number of the access's route to its range would pass 2^64 - 1
abbrev pub IsFullRange : PlanData → Frames → Access → Option Ranged → Type 0
IsFullRange plan frames access ranges = MatchOption ranges ⊥ (λ ranged.
    IsFull ranged.tallies (by_range ranged.firsts access.page (route_from plan frames access))
    access.count (is_first frames access))

-- why an access can't be replayed, where it may be counted for its range too
abbrev pub EndsCounted : PlanData → Replayed → Option Ranged → Access → ReplayError → Type 0
EndsCounted plan met ranges access why = (why ≡ NoMemory) ⊎ (EndsReplay plan met access why
    ⊎ ((why ≡ TooMany) × IsFullRange plan met.frames access ranges))
