-- How pages are stored that lie anywhere, those that one policy placed in turn too: how many runs
-- that is, and what a change answers.
use Rattle.std.specs.Prelude.{◌≡◌, ℕ, ◌-◌, ◌≤◌, ◌^◌, ◌==◌, ◌&&◌, Bool, false, Result, OnOk, OnErr}
use Rattle.std.specs.Prelude.{IfErr}
use Rattle.numa_ranges.specs.Counts.{count_pages, is_start}
use Rattle.numa_ranges.specs.Runs.{page_at}
use Rattle.numa_placed.specs.Refusals.{IsLack, IsShort}
use Rattle.numa_placed.specs.Shifts.{AreRooms, is_short, rooms_between}
use Rattle.numa_placed.specs.Spots.{most_runs, placed_page, same_spot}
use Rattle.numa_placed.specs.Turns.{AreKept, spots_of}
use Rattle.numa_placed.specs.declared.places.Places.{Places}
use Rattle.numa_placed.specs.declared.rooms.Rooms.{Rooms}
use Rattle.numa_placed.specs.declared.spot.Spot.{Spot}
use Rattle.numa_placed.specs.declared.turn.Slot.{Slot}
use Rattle.numa_placed.specs.declared.turn.Slot.TheVariants.{Lies, InTurn}
use Rattle.numa_requests.specs.declared.page_refusal.PlacedRefusal.{PlacedRefusal}

-- whether the same is kept of two pages
abbrev pub same_slot : Slot → Slot → Bool
same_slot (Lies a) (Lies b) = same_spot a b
same_slot (InTurn a) (InTurn b) = (a.from == b.from) && (a.count == b.count)
same_slot _ _ = false

-- whether a run of pages that lie somewhere, all alike, begins at a page
abbrev pub begins : (ℕ → Spot) → ℕ → Bool
begins spots page = is_start same_spot (placed_page spots) page

-- whether a kept run begins there
abbrev pub begins_kept : Places → ℕ → Bool
begins_kept places page = is_start same_slot (page_at places.map.runs) page

-- How many runs are kept: one counts where its first page lies somewhere, and the page before it
-- doesn't lie alike. So pages that one policy placed in turn count once, and there are never more
-- than runs of pages that lie alike.
abbrev pub kept_count : Places → ℕ
kept_count places = count_pages (λ page. begins_kept places page && begins (spots_of places) page)
    0 (2 ^ 35)

pub record IsStored (places : Places) : Type 0 where
  pub kept : AreKept places
  pub few : kept_count places ≤ most_runs
  pub limit : places.map.max_ranges ≡ 2 ^ 32 - 1

-- the pages lie as they are to, and the rooms are those behind it, unless the node lacks room for
-- pages that would come to it, or that makes too many runs, or memory lacks
pub record IsStoredWithin (old after : ℕ → Spot) (node : ℕ) (room : ℕ → ℕ)
    (result : Result (Unit {0}) PlacedRefusal) (new : ℕ → Spot) (rooms : Rooms) : Type 0 where
  pub ok : OnOk result ((page : ℕ) → new page ≡ after page)
  pub fits : OnOk result (is_short room old new node ≡ false)
  pub taken : OnOk result (AreRooms rooms (rooms_between room old new))
  pub lack : IfErr result (IsShort (is_short room old after node) after)

-- the pages lie as they are to, unless that makes too many runs or memory lacks; then all is as it
-- was
pub record IsStoredEdit (after : ℕ → Spot) (old : Places)
    (result : Result (Unit {0}) PlacedRefusal) (new : Places) : Type 0 where
  pub ok : OnOk result ((page : ℕ) → spots_of new page ≡ after page)
  pub lack : IfErr result (IsLack after)
  pub unchanged : OnErr result (new ≡ old)
