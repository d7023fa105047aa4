-- How many accesses took which route.
use Rattle.std.specs.Prelude.{◌≡◌, ◌≤◌, ◌^◌, ◌⊎◌, ⊤, ℕ, ◌+◌, Bool, true, false, Option, List, []}
use Rattle.std.specs.Prelude.{◌∷◌, if◌then◌else◌, is_some, unwrap_or}
use Rattle.std.specs.BTreeMap.{is_at}
use Rattle.std.specs.Map.{lookup}
use Rattle.std.specs.Option.{option_cmp}
use Rattle.std.specs.Ordering.{nat_cmp, ordering_then}
use Rattle.std.specs.declared.cmp.Ordering.{Ordering}
use Rattle.numa_traces.specs.declared.fault.ReplayError.{ReplayError}
use Rattle.numa_traces.specs.declared.fault.ReplayError.TheVariants.{TooMany, NoMemory}
use Rattle.numa_traces.specs.declared.tallies.AccessCounts.{AccessCounts}

-- a task, the node of its CPU and the node of the page, if it has a frame
abbrev pub Route : Type 0
Route = ℕ × ℕ × Option ℕ

abbrev pub route_cmp : Route → Route → Ordering
route_cmp a b =
    ordering_then (ordering_then (nat_cmp a.0 b.0) (nat_cmp a.1 b.1)) (option_cmp nat_cmp a.2 b.2)

-- whether two routes are one
abbrev pub is_route : Route → Route → Bool
is_route a b = is_at (route_cmp a) b

abbrev pub no_accesses : AccessCounts
no_accesses = record { accesses = 0; faults = 0 }

-- each route that was taken, with its tally
abbrev pub Tallied : Type 0
Tallied = List (Route × AccessCounts)

-- the tally of a route; nothing went where none is kept
abbrev pub tally_at : Tallied → Route → AccessCounts
tally_at tallies route = unwrap_or (lookup (is_at (route_cmp route)) tallies) no_accesses

-- no route leads to a node
abbrev pub are_unserved : Tallied → Bool
are_unserved [] = true
are_unserved ((route, tally) ∷ tallies) =
    if is_some route.2 then false else are_unserved tallies

-- a tally with this many more accesses, the first of them a fault or not
abbrev pub with_accesses : AccessCounts → ℕ → Bool → AccessCounts
with_accesses tally count is_fault = record {
  accesses = tally.accesses + count;
  faults = tally.faults + (if is_fault then 1 else 0);
}

-- the tallies after this many accesses of a route
abbrev pub Counts : Tallied → Route → ℕ → Bool → Tallied → Type 0
Counts old route count is_fault new = (other : Route) → tally_at new other
    ≡ if is_route route other then with_accesses (tally_at old other) count is_fault
    else tally_at old other

-- there was no room for a number, or no memory
abbrev pub IsRoomFault : ReplayError → Type 0
IsRoomFault TooMany = ⊤
IsRoomFault NoMemory = ⊤
IsRoomFault _ = ⊥

-- a number of the route would exceed 2^64 - 1, if this many accesses were counted, the first of
-- them a fault or not
abbrev pub IsFull : Tallied → Route → ℕ → Bool → Type 0
IsFull tallies route count is_fault = (2 ^ 64 ≤ (tally_at tallies route).accesses + count)
    ⊎ (2 ^ 64 ≤ (tally_at tallies route).faults + (if is_fault then 1 else 0))
