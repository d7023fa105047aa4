-- How far nodes are filled when a page of a span is reached.
use Rattle.std.proofs.Common.{◌≡◌, ℕ, zero, suc, ◌+◌, ◌-◌, ◌*◌, ◌<◌, ◌≤◌, ◌^◌, Bool, false}
use Rattle.std.proofs.Common.{refl, sym, ap, ◌∙◌, arith, subst, inl, inr, true}
use Rattle.std.specs.Prelude.{if◌then◌else◌, ◌&&◌, nat_lt}
use Rattle.std.proofs.lemmas.Bool.{both_ways, cases_lt, le-ltb, lt-ltb}
use Rattle.numa_ranges.proofs.Apart.{in_pages-true, in_pages-below, in_pages-above}
use Rattle.numa_space.specs.History.{page_of, page_count}
use Rattle.numa_space.specs.Standing.{SpaceState}
use Rattle.numa_placed.specs.Binds.{Asked, asked_in, asked_of as asked_by, first_with_room, goal_at}
use Rattle.numa_placed.specs.Binds.{room_before, room_sent, strays}
use Rattle.numa_placed.specs.Shifts.{AreRooms}
use Rattle.numa_placed.specs.Spots.{pages_if, spot_at}
use Rattle.numa_placed.specs.declared.rooms.Rooms.{Rooms}
use Rattle.numa_placed.specs.declared.spot.Spot.{Spot}
use Rattle.numa_placed.proofs.Binding.{before-next, before-none, rooms-same}
use Rattle.numa_placed.specs.Laid.{Laid}
use Rattle.numa_page_state.specs.Standing.{IsFront, asked_for}
use Rattle.numa_page_state.specs.declared.sending.Toucher.{Toucher}
use Rattle.numa_page_state.specs.declared.sending.Rebinding.{Rebinding}
use Rattle.numa_page_state.specs.declared.staying.Front.{Front}

-- whole pages
pub page-whole : (page : ℕ) → page_of (page * 4096) ≡ page
page-whole page = omega arith

pub pages-whole : (pages : ℕ) → page_count (pages * 4096) ≡ pages
pages-whole pages = omega arith

module _ (asked : Asked) (spots : ℕ → Spot) (room : ℕ → ℕ) where
  -- pages of which none goes change no room
  before-still : (from to : ℕ) → from ≤ to
      → ((page : ℕ) → from ≤ page → page < to → strays asked page (spots page) ≡ false)
      → room_before asked spots room to ≡ room_before asked spots room from
  before-still from to le none =
      rooms-same (room_before asked spots room) from to le (λ page low high.
      before-next asked spots room page
      ∙ ap (λ (b : Bool). if b
      then room_sent (room_before asked spots room page)
      (goal_at asked.nodes (room_before asked spots room) page) (spots page)
      else room_before asked spots room page) (none page low high))

  pub before-first : room_before asked spots room asked.first ≡ room
  before-first =
      before-still 0 asked.first (omega arith) (λ page low high.
      ap (λ (b : Bool). b && asked.wants page (spots page))
      (in_pages-below asked.first asked.pages page high))
      ∙ before-none asked spots room

  pub before-end : (to : ℕ) → asked.first + asked.pages ≤ to → room_before asked spots room to
      ≡ room_before asked spots room (asked.first + asked.pages)
  before-end to le =
      before-still (asked.first + asked.pages) to le (λ page low high.
      ap (λ (b : Bool). b && asked.wants page (spots page))
      (in_pages-above asked.first asked.pages page low))

module _ (asked : Asked) (spots : ℕ → Spot) (room : ℕ → ℕ) (from to : ℕ)
    (low : asked.first ≤ from) (rises : from ≤ to) (inside : to ≤ asked.first + asked.pages)
    (within : to ≤ 2 ^ 35) where
  -- the pages from one to another alone
  abbrev part : Asked
  part = record {
    first = from;
    pages = to - from;
    wants = asked.wants;
    nodes = asked.nodes;
  }

  abbrev given : ℕ → ℕ
  given = room_before asked spots room from

  strays-alike : (page : ℕ) → from ≤ page → page < to
      → strays part page (spots page) ≡ strays asked page (spots page)
  strays-alike page l h =
      ap (λ (b : Bool). b && asked.wants page (spots page))
      (in_pages-true from (to - from) page l (omega arith)
      ∙ sym (in_pages-true asked.first asked.pages page (omega arith) (omega arith)))

  walk : (n : ℕ) → from + n ≤ to
      → room_before part spots given (from + n) ≡ room_before asked spots room (from + n)
  walk zero le =
      let none : from + 0 ≡ from = omega arith in
      ap (room_before part spots given) none ∙ before-first part spots given
      ∙ sym (ap (room_before asked spots room) none)
  walk (suc n) le =
      let next : from + suc n ≡ from + n + 1 = omega arith in
      let page = from + n in
      let rest = walk n (omega arith) in
      let alike = strays-alike page (omega arith) (omega arith) in
      ap (room_before part spots given) next ∙ before-next part spots given page
      ∙ (λ i. if alike i then room_sent (rest i)
      (first_with_room (rest i) (asked.nodes page)) (spots page) else rest i)
      ∙ sym (ap (room_before asked spots room) next ∙ before-next asked spots room page)

  -- the rooms once they went are those that the other finds
  pub reaches : room_before part spots given (2 ^ 35) ≡ room_before asked spots room to
  reaches =
      let size : from + (to - from) ≡ to = omega arith in
      before-end part spots given (2 ^ 35) (omega arith)
      ∙ walk (to - from) (omega arith)
      ∙ ap (room_before asked spots room) size

-- the rooms where one goes on to a page are those that are found there
pub front-here : (asked : Asked) (spots : ℕ → Spot) (room : ℕ → ℕ) (front : Front)
    (given : Rooms) (page : ℕ) → AreRooms given room → IsFront asked spots room front
    → IsFront asked spots room (if nat_lt page front.page
    then (record { page = asked.first; rooms = given }) else front)
front-here asked spots room front given page are is =
    elim (cases_lt page front.page) [
      | inl l ↦ rw (lt-ltb page front.page l) (record {
        rooms = subst (AreRooms given) (sym (before-first asked spots room)) are;
      })
      | inr l ↦ rw (le-ltb page front.page l) is
    ]

-- the rooms that trying the pages below one gives
pub reached : (space : SpaceState) (said : Rebinding) (toucher : Toucher)
    (placed copy : Laid) (room : ℕ → ℕ) (from to : ℕ)
    → page_of said.start ≤ from → from ≤ to → to ≤ page_of said.start + page_count said.length
    → page_of said.start + page_count said.length ≤ 2 ^ 35 → copy ≡ placed → (list : ℕ)
    → list ≡ said.spec.mask → (rooms : Rooms)
    → AreRooms rooms (room_before (asked_by space (from * 4096) ((to - from) * 4096)
    list toucher.task toucher.cpu) (spot_at copy)
    (room_before (asked_for space said toucher) (spot_at placed) room from) (2 ^ 35))
    → AreRooms rooms (room_before (asked_for space said toucher) (spot_at placed) room to)
reached space said toucher placed copy room from to low rises inside within same list its rooms
    are =
    let asked = asked_for space said toucher in
    let part : asked_by space (from * 4096) ((to - from) * 4096) list toucher.task toucher.cpu
    ≡ asked_in space from (to - from) said.spec.mask toucher.task toucher.cpu = λ i.
    asked_in space (page-whole from i) (pages-whole (to - from) i) (its i) toucher.task
    toucher.cpu in
    subst (AreRooms rooms) ((λ i. room_before (part i) (spot_at (same i))
    (room_before asked (spot_at placed) room from) (2 ^ 35))
    ∙ reaches asked (spot_at placed) room from to low rises inside (omega (arith, inside, within)))
    are

-- a page that is one of the span and lies astray is counted, where it is kept
pub one-so : (value : ℕ) (b strays kept : Bool) → strays ≡ true → b ≡ kept
    → value ≡ pages_if b 1 → value ≡ pages_if (strays && kept) 1
one-so value b true kept t same is = is ∙ ap (λ (c : Bool). pages_if c 1) same
one-so value b false kept t same is = absurd (both_ways false refl t)
