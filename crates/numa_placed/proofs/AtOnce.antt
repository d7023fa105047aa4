-- Pages of a span that are to go, and go by one edit.
use Rattle.std.proofs.Common.{◌≡◌, ℕ, ◌+◌, ◌<◌, ◌≤◌, ◌^◌, ◌==◌, Bool, true, Option, Some, None}
use Rattle.std.proofs.Common.{refl, sym, ap, ◌∙◌, arith, subst}
use Rattle.std.specs.Prelude.{if◌then◌else◌}
use Rattle.numa_placed.specs.Binds.{Asked, IsBound, bound_spots, first_with_room}
use Rattle.numa_placed.specs.Shifts.{AreRooms, less_room}
use Rattle.numa_placed.specs.Spots.{changed_spots, stated_spot}
use Rattle.numa_placed.specs.Standing.{Sends}
use Rattle.numa_placed.specs.Walks.{Fits, GoOnce, IsWalked}
use Rattle.numa_placed.specs.declared.bind.Walk.{Walk}
use Rattle.numa_placed.specs.declared.bound.Bound.{Bound}
use Rattle.numa_placed.specs.declared.once.Once.{Once}
use Rattle.numa_placed.specs.declared.rooms.Rooms.{Rooms}
use Rattle.numa_placed.specs.declared.spot.Spot.{Spot}
use Rattle.numa_placed.specs.declared.spot.Spot.TheVariants.{Nowhere}
use Rattle.numa_placed.proofs.Alike.{sends-to}
use Rattle.numa_placed.proofs.Lacking.{sends-lacking}
use Rattle.numa_placed.proofs.Sending.{all}
use Rattle.numa_placed.proofs.Stepping.{strays-here, strays-none, walked-begins, walked-ends}
use Rattle.numa_placed.proofs.Stepping.{walked-next, walked-over}

module _ (asked : Asked) (old : ℕ → Spot) (room : ℕ → ℕ) (rooms : Rooms) (once : Once)
    (are : AreRooms rooms room) (near : asked.first + asked.pages ≤ 2 ^ 35)
    (go : GoOnce asked old rooms once) where
  begun : Walk
  begun = record { rooms = rooms; told = record { moved = 0; left = 0 } }

  abbrev end : ℕ
  end = once.page + once.pages

  -- those before it stay
  walked-to : IsWalked asked old room once.page old begun
  unfolding begun
  walked-to = walked-over asked old room asked.first once.page old begun go.low
      (λ p low high. strays-none asked p (old p) (go.before p low high))
      (walked-begins asked old room begun refl refl are)

  -- and those behind it
  walked-so : (later : ℕ → Spot) (walk : Walk)
      → Sends all asked.nodes Nowhere once.page end old later begun walk
      → IsBound asked old room later walk.rooms walk.told
  unfolding begun
  walked-so later walk sends =
      let le : once.page ≤ end = omega arith in
      let there = walked-next asked old room once.page end le Nowhere all old later begun walk
      walked-to go.nowhere (λ p low high. sym (go.wanted p low high)
      ∙ strays-here asked p Nowhere (omega (arith, go.low, low)) (omega (arith, go.high, high)))
      sends in
      walked-ends asked old room (asked.first + asked.pages) later walk (omega arith) near
      (walked-over asked old room end (asked.first + asked.pages) later walk go.high
      (λ p low high. strays-none asked p (old p) (go.behind p low high)) there)

  -- no node has room
  pub bound-lacking : once.goal ≡ None
      → IsBound asked old room old rooms (record { moved = 0; left = once.pages })
  unfolding begun
  bound-lacking none =
      let walk : Walk = record { rooms = rooms; told = record { moved = 0; left = once.pages } } in
      walked-so old walk (sends-lacking asked.nodes once.page once.pages old begun walk
      (λ other are' p low high. ap (first_with_room other) (go.alike p low high)
      ∙ go.goal (omega (arith, low, high)) other are' ∙ none) refl refl (omega arith))

  -- a node has room for all
  pub bound-to : (node : ℕ) → node < 256 → once.goal ≡ Some node → 0 < once.pages
      → Fits rooms node once.pages → (later : ℕ → Spot)
      → ((p : ℕ) → later p ≡ changed_spots once.page once.pages (stated_spot node) old p)
      → (behind : Rooms) → ((other : ℕ → ℕ) → AreRooms rooms other → AreRooms behind
      (λ n. if n == node then less_room (other n) once.pages else other n))
      → IsBound asked old room later behind (record { moved = once.pages; left = 0 })
  unfolding begun
  bound-to node small some many fit later told behind less =
      let walk : Walk = record { rooms = behind; told = record { moved = once.pages; left = 0 } } in
      walked-so later walk (sends-to asked.nodes once.page once.pages go.alike node small old later
      begun walk (λ other are'. go.goal many other are' ∙ some) fit.fits fit.most told less
      (omega arith) refl)

  -- the pages lie so then
  pub bound-so : (node : ℕ) → node < 256 → once.goal ≡ Some node → 0 < once.pages
      → Fits rooms node once.pages → (behind : Rooms)
      → ((other : ℕ → ℕ) → AreRooms rooms other → AreRooms behind
      (λ n. if n == node then less_room (other n) once.pages else other n))
      → (p : ℕ) → changed_spots once.page once.pages (stated_spot node) old p
      ≡ bound_spots asked old room p
  bound-so node small some many fit behind less p =
      (bound-to node small some many fit
      (changed_spots once.page once.pages (stated_spot node) old) (λ q. refl) behind less).pages p
