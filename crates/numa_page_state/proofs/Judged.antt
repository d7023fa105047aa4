-- Which cause a change of pages is refused for.
use Rattle.std.proofs.Common.{◌≡◌, ℕ, Option, Some, None, refl, sym, ap}
use Rattle.numa_placed.specs.Refusals.{IsLack, IsRefusal, IsMoveLack, IsMoveRefusal}
use Rattle.numa_placed.specs.Shifts.{first_of as first_move}
use Rattle.numa_requests.specs.declared.page_refusal.MoveRefusal.{MoveRefusal}
use Rattle.numa_requests.specs.declared.page_refusal.MoveRefusal.TheVariants as move
use Rattle.numa_requests.specs.declared.page_refusal.PlacedRefusal.{PlacedRefusal}
use Rattle.numa_requests.specs.declared.page_refusal.PlacedRefusal.TheVariants as cause
use Rattle.numa_placed.specs.declared.spot.Spot.{Spot}
use Rattle.numa_page_state.specs.Outcomes.{Enough, cause_by, lack_of, lack_told, move_lack_of}
use Rattle.numa_page_state.specs.Outcomes.{move_lack_told}

-- nothing stands against a call
pub cause-none : (first : Option PlacedRefusal) (after : ℕ → Spot) → first ≡ None
    → cause_by Enough first after ≡ None
cause-none first after none = rw none refl

pub lack-told : (after : ℕ → Spot) (refusal : PlacedRefusal) → IsLack after refusal
    → lack_of (lack_told refusal) after ≡ Some refusal
lack-told after cause.Unaligned lack = absurd lack
lack-told after cause.OutOfSpace lack = absurd lack
lack-told after cause.NoSuchNode lack = absurd lack
lack-told after cause.Occupied lack = absurd lack
lack-told after cause.NodesNotAllowed lack = absurd lack
lack-told after cause.Astray lack = absurd lack
lack-told after cause.BadCpu lack = absurd lack
lack-told after cause.Unmapped lack = absurd lack
lack-told after cause.NoRoom lack = absurd lack
lack-told after cause.TooManyRuns lack = rw lack refl
lack-told after cause.NoMemory lack = refl

-- the refusal is the first cause of all
pub cause-told : (first : Option PlacedRefusal) (after : ℕ → Spot) (refusal : PlacedRefusal)
    → IsRefusal first after refusal → cause_by (lack_told refusal) first after ≡ Some refusal
cause-told None after refusal lack = lack-told after refusal lack
cause-told (Some first) after refusal is = ap Some (sym is)

move-lack-told : (after : ℕ → Spot) (refusal : MoveRefusal) → IsMoveLack after refusal
    → move_lack_of (move_lack_told refusal) after ≡ Some refusal
move-lack-told after move.NoSuchNode lack = absurd lack
move-lack-told after move.NodesNotAllowed lack = absurd lack
move-lack-told after move.Unmapped lack = absurd lack
move-lack-told after move.NotPlaced lack = absurd lack
move-lack-told after move.NoRoom lack = absurd lack
move-lack-told after move.TooManyRuns lack = rw lack refl
move-lack-told after move.NoMemory lack = refl

pub move-told : (first : Option MoveRefusal) (after : ℕ → Spot) (refusal : MoveRefusal)
    → IsMoveRefusal first after refusal
    → first_move first (move_lack_of (move_lack_told refusal) after) ≡ Some refusal
move-told None after refusal lack = move-lack-told after refusal lack
move-told (Some first) after refusal is = ap Some (sym is)

pub move-none : (first : Option MoveRefusal) (after : ℕ → Spot) → first ≡ None
    → first_move first (move_lack_of Enough after) ≡ None
move-none first after none = rw none refl
