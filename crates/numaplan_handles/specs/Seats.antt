-- What a handle of a seat keeps, and what a call does to it.
use Rattle.std.specs.Prelude.{◌≡◌, ℕ, Bool, List, Option, Some, Result}
use Rattle.numa_machine.specs.declared.frame.Frame.{Frame}
use Rattle.numa_pool.specs.Seated.{Seated, newcomer, seat_after_split, seat_after_join}
use Rattle.numa_pool.specs.Seated.{Exchanges, Gives, TakesAlong}
use Rattle.numa_pool.specs.declared.owned_seat.ExchangeRefusal.{ExchangeRefusal}

-- a frame of the first listed node that has one was taken, or none was found
abbrev pub Takes : List ℕ → Option Seated → Option Seated → Option (ℕ × Frame) → Type 0
Takes nodes old new found = (before : Seated) → old ≡ Some before →
    (after : Seated) × (new ≡ Some after) × TakesAlong nodes found before after

-- the frame was given back, where the seat holds it
abbrev pub Returns : Frame → Option Seated → Option Seated → Bool → Type 0
Returns frame old new held = (before : Seated) → old ≡ Some before →
    (after : Seated) × (new ≡ Some after) × Gives frame held before after

-- the frame was exchanged for one of the node, or it is told why not
abbrev pub Migrates : Frame → ℕ → Option Seated → Option Seated → Result Frame ExchangeRefusal
    → Type 0
Migrates frame node old new answer = (before : Seated) → old ≡ Some before →
    (after : Seated) × (new ≡ Some after) × Exchanges frame node before after answer

-- a seat at the same pools, which holds nothing, was split off
abbrev pub Splits : Option Seated → Option Seated → Option Seated → Type 0
Splits old new other = (before : Seated) → old ≡ Some before →
    (new ≡ Some (seat_after_split before)) × (other ≡ Some (newcomer before))

-- the seat holds what it held, and took and gave back nothing
abbrev pub Stays : Option Seated → Option Seated → Type 0
Stays old new = (before : Seated) → old ≡ Some before → (after : Seated) × (new ≡ Some after)
    × (after.frames ≡ before.frames) × (after.seat.table ≡ before.seat.table)
    × (after.seat.held ≡ before.seat.held) × (after.seat.log ≡ before.seat.log)

-- the first got what the second held
abbrev pub Joins : Option Seated → Option Seated → Option Seated → Type 0
Joins first second new = (seat other : Seated) → first ≡ Some seat → second ≡ Some other →
    new ≡ Some (seat_after_join seat other)

-- where both are kept, they are seats at the same pools
abbrev pub AreTogether : Option Seated → Option Seated → Type 0
AreTogether first second = (seat other : Seated) → first ≡ Some seat → second ≡ Some other →
    other.seat.table ≡ seat.seat.table
