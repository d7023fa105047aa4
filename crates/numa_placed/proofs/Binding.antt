-- The rooms that pages of a span find which are to go.
use Rattle.std.proofs.Common.{◌≡◌, ℕ, zero, suc, ◌+◌, ◌-◌, ◌<◌, ◌≤◌, ◌&&◌, Bool, false}
use Rattle.std.proofs.Common.{Option, List, refl, sym, ap, ◌∙◌, arith}
use Rattle.std.proofs.Common.{add-one}
use Rattle.std.specs.Prelude.{if◌then◌else◌}
use Rattle.numa_placed.specs.Binds.{Asked, goal_at}
use Rattle.numa_placed.specs.Binds.{room_before, room_sent}
use Rattle.numa_placed.specs.Binds.{strays}
use Rattle.numa_placed.specs.Standing.{AreFound}
use Rattle.numa_placed.specs.declared.spot.Spot.{Spot}

-- ---- rooms

-- rooms that no page from one up to another changes
pub rooms-still : (rooms : ℕ → ℕ → ℕ) (from n : ℕ)
    → ((page : ℕ) → from ≤ page → page < from + n → rooms (page + 1) ≡ rooms page)
    → rooms (from + n) ≡ rooms from
rooms-still rooms from zero still = let none : from + 0 ≡ from = omega arith in ap rooms none
rooms-still rooms from (suc n) still =
    let next : from + suc n ≡ from + n + 1 = omega arith in
    ap rooms next ∙ still (from + n) (omega arith) (omega arith)
    ∙ rooms-still rooms from n (λ page low high. still page low (omega arith))

pub rooms-same : (rooms : ℕ → ℕ → ℕ) (from to : ℕ) → from ≤ to
    → ((page : ℕ) → from ≤ page → page < to → rooms (page + 1) ≡ rooms page)
    → rooms to ≡ rooms from
rooms-same rooms from to le still =
    let size : from + (to - from) ≡ to = omega arith in
    sym (ap rooms size)
    ∙ rooms-still rooms from (to - from) (λ page low high. still page low (omega arith))

-- where none passes, none changes them
pub found-still : (test : ℕ → Bool) (nodes : ℕ → List ℕ) (spot : Spot) (from to a b : ℕ)
    (rooms : ℕ → ℕ → ℕ) → AreFound test nodes spot from to rooms → from ≤ a → a ≤ b → b ≤ to
    → ((page : ℕ) → a ≤ page → page < b → test page ≡ false) → rooms b ≡ rooms a
found-still test nodes spot from to a b rooms found low le high none =
    rooms-same rooms a b le (λ page l h.
    let f = none page l h in
    found page (omega arith) (omega arith) ∙ rw f refl)

-- ---- pages of a run

-- the rooms that each page of one's own finds
module _ (asked : Asked) (spots : ℕ → Spot) (room : ℕ → ℕ) where
  pub before-next : (page : ℕ) → room_before asked spots room (page + 1)
      ≡ (if strays asked page (spots page)
      then room_sent (room_before asked spots room page)
      (goal_at asked.nodes (room_before asked spots room) page) (spots page)
      else room_before asked spots room page)
  unfolding room_before
  before-next page = rw add-one refl

  pub before-none : room_before asked spots room 0 ≡ room
  unfolding room_before
  before-none = refl

-- ---- page by page

abbrev pub Test : Type 0
Test = Option ℕ → Spot → Bool

-- a page of the span that lies astray and passes
abbrev pub passes : Test → Asked → (ℕ → Option ℕ) → (ℕ → Spot) → ℕ → Bool
passes test asked goal spots page = strays asked page (spots page) && test (goal page) (spots page)
