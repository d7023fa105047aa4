-- How many pages a move tells of: few enough to be added.
use Rattle.std.proofs.Common.{◌≡◌, ℕ, zero, suc, ◌+◌, ◌<◌, ◌≤◌, ◌^◌, ◌==◌, Bool, true, false}
use Rattle.std.proofs.Common.{Option, Some, None, List, ◌∷◌, arith, length}
use Rattle.std.proofs.lemmas.List.Sums.{count_by-le-length}
use Rattle.std.specs.Prelude.{◌&&◌, ◌-◌, ◌*◌, if◌then◌else◌}
use Rattle.numa_maps.specs.Residents.{Kept}
use Rattle.numa_requests.specs.declared.placement.Placement.{Placement}
use Rattle.numa_space.specs.History.{page_count, page_of}
use Rattle.numa_placed.proofs.Shared.{count-le}
use Rattle.numa_placed.proofs.Sources.{steps-few, sum-few}
use Rattle.numa_placed.specs.Binds.{Asked, is_kept, is_sent, strays}
use Rattle.numa_placed.specs.Moves.{goes, goes_from, moved_node}
use Rattle.numa_placed.specs.Shifts.{going_from, is_stated, shift_of, stated_on}
use Rattle.numa_placed.specs.declared.spot.Spot.{Spot}
use Rattle.numa_huge.specs.Huge.{giver_for, most_pages, on_node}
use Rattle.numa_huge.specs.Moves.{HugeArrival, HugeMemory, HugeTouch, HugeWalk, count_on, given_page}
use Rattle.numa_huge.specs.Moves.{goal, is_astray, is_untouched, leave_all, leave_from, sending}
use Rattle.numa_huge.specs.Moves.{sent_page, sent_pages, sent_where, touch_from, touched_page}
use Rattle.numa_huge.specs.Moves.{touched_pages, walk_from, with_given}
use Rattle.numa_huge.specs.declared.spot.HugeSpot.{HugeSpot}
use Rattle.numa_huge.specs.declared.spot.HugeSpot.TheVariants.{Bare, Reserved, On}
use Rattle.numa_page_state.specs.Huge.{huge_count, huge_end, huge_first, huge_walk, named_of}
use Rattle.numa_page_state.specs.Huge.{touch_walk}
use Rattle.numa_page_state.specs.Lying.{Ground, Lying, Process, motion}
use Rattle.numa_page_state.specs.Sending.{command_of, goals_in, had_to_go, sent_in}
use Rattle.numa_page_state.specs.Sending.{sent_spots}
use Rattle.numa_page_state.specs.Touching.{arrival_of}
use Rattle.numa_page_state.specs.declared.sending.Rebinding.{Rebinding}
use Rattle.numa_page_state.specs.declared.sending.Toucher.{Toucher}

-- ---- pages of 4 KiB that leave their nodes

pub motion-few : (room : Option (ℕ → ℕ)) (spots : ℕ → Spot) (old new : ℕ)
    → (motion room spots old new).told.moved ≤ 8796093022208
motion-few None spots old new =
    let few = count-le (λ page. goes (moved_node old new) (spots page)) 0 (2 ^ 35) in
    omega (arith, few)
motion-few (Some room) spots old new =
    let each = steps-few (moved_node old new) (stated_on spots) 256 (going_from old room)
    (λ node. omega arith) in
    sum-few 256 34359738368 (shift_of spots old new room).gone (λ node small.
    let few = count-le (λ page. is_stated node (spots page)) 0 (2 ^ 35) in
    omega (arith, each node, few))

-- of each node too
pub from-few : (room : Option (ℕ → ℕ)) (spots : ℕ → Spot) (old new node : ℕ)
    → (motion room spots old new).told.from node ≤ 34359738368
from-few None spots old new node =
    let few = count-le (λ page. goes_from (moved_node old new) node (spots page)) 0 (2 ^ 35) in
    omega (arith, few)
from-few (Some room) spots old new node =
    let each = steps-few (moved_node old new) (stated_on spots) 256 (going_from old room)
    (λ node. omega arith) node in
    let few = count-le (λ page. is_stated node (spots page)) 0 (2 ^ 35) in
    omega (arith, each, few)

-- ---- pages of 2 MiB that leave theirs

pub leave-few : (old new : ℕ) (spots : ℕ → Option HugeSpot)
    → leave_all old new spots ≤ 17179869184
leave-few old new spots = sum-few 256 67108864 (leave_from old new spots) (λ node small.
    by (moved_node old new node == node) node)
  where
    by : (stays : Bool) (node : ℕ) → (if stays then 0 else count_on spots node) ≤ 67108864
    by true node = omega arith
    by false node = count-le (λ page. on_node node (spots page)) 0 most_pages

-- of each node too
pub leave-from-few : (old new : ℕ) (spots : ℕ → Option HugeSpot) (node : ℕ)
    → leave_from old new spots node ≤ 67108864
leave-from-few old new spots node = by (moved_node old new node == node)
  where
    by : (stays : Bool) → (if stays then 0 else count_on spots node) ≤ 67108864
    by true = omega arith
    by false = count-le (λ page. on_node node (spots page)) 0 most_pages

-- ---- pages that go where a policy has them go

pub sent-few : (kept : Kept) (asked : Asked) (at : Lying)
    → (sent_in kept asked at).moved ≤ 34359738368
    × ((sent_in kept asked at).left ≤ 34359738368 + length kept)
sent-few kept asked at =
    let goal = goals_in asked at in
    let moved = count-le (λ page. strays asked page (at.spots page)
    && is_sent (goal page) (at.spots page)) 0 (2 ^ 35) in
    let left = count-le (λ page. strays asked page (at.spots page)
    && is_kept (goal page) (at.spots page)) 0 (2 ^ 35) in
    let held = count_by-le-length (λ (p : ℕ × Placement). had_to_go asked goal p.0 p.1.node) kept in
    (omega (arith, moved), omega (arith, left, held))

-- one page more
abbrev IsNext : HugeWalk → HugeWalk → Type 0
IsNext old new = (new.told.moved ≤ old.told.moved + 1) × (new.told.left ≤ old.told.left + 1)

next-same : (walk : HugeWalk) → IsNext walk walk
next-same walk = (omega arith, omega arith)

sending-next : (page from : ℕ) (to : Option ℕ) (walk : HugeWalk)
    → IsNext walk (sending page from to walk)
sending-next page from None walk = (omega arith, omega arith)
sending-next page from (Some to) walk = by (from == to)
  where
    by : (same : Bool) → ((if same then walk.told else record {
      moved = walk.told.moved + 1;
      left = walk.told.left;
      flow = λ one other. walk.told.flow one other
          + (if (from == one) && (to == other) then 1 else 0);
    }).moved ≤ walk.told.moved + 1) × ((if same then walk.told else record {
      moved = walk.told.moved + 1;
      left = walk.told.left;
      flow = λ one other. walk.told.flow one other
          + (if (from == one) && (to == other) then 1 else 0);
    }).left ≤ walk.told.left + 1)
    by true = (omega arith, omega arith)
    by false = (omega arith, omega arith)

where-next : (astray : Bool) (spot : Option HugeSpot) (page : ℕ) (nodes : List ℕ)
    (walk : HugeWalk) → IsNext walk (sent_where astray spot page nodes walk)
where-next true (Some (On from)) page nodes walk =
    sending-next page from (goal walk.huge.pools nodes) walk
where-next false (Some (On from)) page nodes walk = next-same walk
where-next astray (Some Bare) page nodes walk = next-same walk
where-next astray (Some Reserved) page nodes walk = next-same walk
where-next astray None page nodes walk = next-same walk

pages-few : (list : ℕ) (nodes : ℕ → List ℕ) (first pages : ℕ) (walk : HugeWalk)
    → ((sent_pages list nodes first pages walk).told.moved ≤ walk.told.moved + pages)
    × ((sent_pages list nodes first pages walk).told.left ≤ walk.told.left + pages)
unfolding sent_pages
pages-few list nodes first zero walk = (omega arith, omega arith)
pages-few list nodes first (suc pages) walk =
    let next = where-next (is_astray list (walk.huge.spots first)) (walk.huge.spots first) first
    (nodes first) walk in
    let rest = pages-few list nodes (first + 1) pages (sent_page list nodes first walk) in
    (omega (arith, next.0, rest.0), omega (arith, next.1, rest.1))

count-few : (first pages : ℕ) → huge_count first pages ≤ 67108864
count-few first pages = by (pages == 0)
  where
    by : (none : Bool) → (if none then 0 else huge_end first pages - huge_first first) ≤ 67108864
    by true = omega arith
    by false = omega arith

pub walk-few : (process : Process) (said : Rebinding) (toucher : Toucher) (memory : HugeMemory)
    → ((huge_walk process said toucher memory).told.moved ≤ 67108864)
    × ((huge_walk process said toucher memory).told.left ≤ 67108864)
walk-few process said toucher memory =
    let all = pages-few said.spec.mask (λ page. named_of process.machine
    (command_of said ∷ process.history) toucher (page * 512)) (huge_first (page_of said.start))
    (huge_count (page_of said.start) (page_count said.length)) (walk_from memory.pages) in
    let few = count-few (page_of said.start) (page_count said.length) in
    (omega (arith, all.0, few), omega (arith, all.1, few))

-- ---- first touches

-- of pages of 4 KiB
pub arrival-few : (asked : Asked) (at : Lying) → ((arrival_of asked at).placed ≤ 34359738368)
    × ((arrival_of asked at).exhausted ≤ 34359738368)
    × ((node : ℕ) → (arrival_of asked at).on node ≤ 34359738368)
arrival-few asked at =
    let goal = goals_in asked at in
    let placed = count-le (λ page. strays asked page (at.spots page)
    && is_sent (goal page) (at.spots page)) 0 (2 ^ 35) in
    let exhausted = count-le (λ page. strays asked page (at.spots page)
    && is_kept (goal page) (at.spots page)) 0 (2 ^ 35) in (
      omega (arith, placed),
      omega (arith, exhausted),
      λ node.
          let on = count-le (λ page. is_stated node (sent_spots asked at page)) 0 (2 ^ 35) in
          omega (arith, on),
    )

-- of one of 2 MiB more
pub record AreMore (old new : HugeArrival) : Type 0 where
  pub placed : new.placed ≤ old.placed + 1
  pub exhausted : new.exhausted ≤ old.exhausted + 1
  pub on : (node : ℕ) → new.on node ≤ old.on node + 1

given-more : (given : Option ℕ) (arrived : HugeArrival) → AreMore arrived (with_given given arrived)
given-more None arrived = record {
  placed = omega arith;
  exhausted = omega arith;
  on = λ node. omega arith;
}
given-more (Some came) arrived = record {
  placed = omega arith;
  exhausted = omega arith;
  on = λ node. by node (node == came);
}
  where
    by : (node : ℕ) (same : Bool)
        → arrived.on node + (if same then 1 else 0) ≤ arrived.on node + 1
    by node true = omega arith
    by node false = omega arith

touched-more : (nodes : ℕ → List ℕ) (page : ℕ) (touch : HugeTouch)
    → AreMore touch.arrived (touched_page nodes page touch).arrived
touched-more nodes page touch = by (is_untouched (touch.huge.spots page))
  where
    by : (fresh : Bool) → AreMore touch.arrived (if fresh
        then given_page (giver_for touch.huge page (nodes page)) page touch else touch).arrived
    by true = given-more (giver_for touch.huge page (nodes page)) touch.arrived
    by false = record {
      placed = omega arith;
      exhausted = omega arith;
      on = λ node. omega arith;
    }

-- of so many
pub record AreUpTo (most : ℕ) (old new : HugeArrival) : Type 0 where
  pub placed : new.placed ≤ old.placed + most
  pub exhausted : new.exhausted ≤ old.exhausted + most
  pub on : (node : ℕ) → new.on node ≤ old.on node + most

touches-few : (nodes : ℕ → List ℕ) (first pages : ℕ) (touch : HugeTouch)
    → AreUpTo pages touch.arrived (touched_pages nodes first pages touch).arrived
unfolding touched_pages
touches-few nodes first zero touch = record {
  placed = omega arith;
  exhausted = omega arith;
  on = λ node. omega arith;
}
touches-few nodes first (suc pages) touch =
    let next = touched-more nodes first touch in
    let rest = touches-few nodes (first + 1) pages (touched_page nodes first touch) in
    record {
      placed = omega (arith, next.placed, rest.placed);
      exhausted = omega (arith, next.exhausted, rest.exhausted);
      on = λ node. omega (arith, next.on node, rest.on node);
    }

pub touch-few : (basis : Ground) (start bytes task cpu : ℕ) (memory : HugeMemory)
    → AreUpTo 67108864 (touch_from memory.pages).arrived
    (touch_walk basis start bytes task cpu memory).arrived
touch-few basis start bytes task cpu memory =
    let all = touches-few (λ page. basis.lists task cpu (page * 512)) (huge_first (page_of start))
    (huge_count (page_of start) (page_count bytes)) (touch_from memory.pages) in
    let few = count-few (page_of start) (page_count bytes) in
    record {
      placed = omega (arith, all.placed, few);
      exhausted = omega (arith, all.exhausted, few);
      on = λ node. omega (arith, all.on node, few);
    }
