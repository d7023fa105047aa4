-- The states of the pools, and what each kind of step does to them.
use Rattle.std.specs.Prelude.{◌≡◌, ◌≢◌, ℕ, ◌+◌, ◌*◌, ◌/◌, ◌%◌, ◌^◌, ◌<◌, List, [], ◌∷◌}
use Rattle.std.specs.Prelude.{◌++◌, length, slice_index, slice_set, bit_or, bit_and}
use Rattle.std.specs.Int.{bit_not}
use mathlib.Core.Option.{some, none}
use mir.Syntax.{w64}
use lib.ListN.{get_elem?}
use Rattle.atomic_table.specs.Table.{Me, Step, step}
use Rattle.numa_machine.specs.declared.frame.Frame.{Frame}
use Rattle.numa_pool.specs.declared.view.Entry.{Entry}
use Rattle.numa_pool.specs.declared.view.Entry.TheVariants.{Load, Won, Lost, Gave}
use Rattle.numa_pool.specs.declared.view.View.{View}
use Rattle.numa_pool.specs.Frames.{Holds, bit_in}
use Rattle.numa_pool.specs.Steps.{newborn, newcomer, spent, after_split, after_join}
use Rattle.numa_pool.specs.Steps.{IsLook, IsAttempt, IsReturn}

-- a state of the pools: the frame words, and what each seat shows
pub record PoolState : Type 0 where
  pub words : List ℕ
  pub views : List View

-- a kind of step of a table without slots: what the seat shows before, the number found in the
-- word, what it shows after
abbrev pub Kind : Type 1
Kind = Step (Unit {0}) → Me (Unit {0}) View → ℕ → Me (Unit {0}) View → Type 0

-- Seat id makes a step of this kind on word i with this operand: the word becomes `change` of what
-- it was, and the seat shows what the kind says
pub record Moves (kind : Kind) (i operand : ℕ) (change : ℕ → ℕ) (id : ℕ) (old new : PoolState) :
    Type 0 where
  pub before : View
  pub after : View
  pub shown : get_elem? old.views id ≡ some before
  pub told : kind (step 0 i operand 0 none) (before, []) (slice_index old.words i) (after, [])
  pub words : new.words ≡ slice_set old.words i (change (slice_index old.words i))
  pub views : new.views ≡ slice_set old.views id after

-- the word of a frame, and the mask of its bit there
abbrev pub word_of : Frame → ℕ
word_of f = 64 * f.node + f.number / 64

abbrev pub mask_of : Frame → ℕ
mask_of f = 2 ^ (f.number % 64)

-- a load of a word of a node
abbrev pub Loads : ℕ → ℕ → ℕ → PoolState → PoolState → Type 0
Loads n w = Moves IsLook (64 * n + w) 0 (λ x. x)

-- a fetch_or of the bit of a frame
abbrev pub Tries : Frame → ℕ → PoolState → PoolState → Type 0
Tries f = Moves IsAttempt (word_of f) (mask_of f) (λ x. bit_or x (mask_of f))

-- a fetch_and of all bits but that of a frame
abbrev pub Clears : Frame → ℕ → PoolState → PoolState → Type 0
Clears f =
    Moves IsReturn (word_of f) (bit_not w64 (mask_of f)) (λ x. bit_and x (bit_not w64 (mask_of f)))

-- seat id holds the frame
abbrev pub SeatHolds : Frame → ℕ → PoolState → Type 0
SeatHolds f id state = (v : View) × (get_elem? state.views id ≡ some v) × Holds v.held f

-- Seat id makes the step that its log shows so: a load finds the word's number, a try wins where
-- the bit is clear and is lost where it is set, and a frame that is given up is one that the seat
-- holds
abbrev pub Makes : Entry → ℕ → PoolState → PoolState → Type 0
Makes (Load n w x) id old new =
    (w < 64) × (x ≡ slice_index old.words (64 * n + w)) × Loads n w id old new
Makes (Won f) id old new = (bit_in old.words f.node f.number ≡ 0) × Tries f id old new
Makes (Lost f) id old new = (bit_in old.words f.node f.number ≢ 0) × Tries f id old new
Makes (Gave f) id old new = SeatHolds f id old × Clears f id old new

-- the pools are opened: each bit is clear, and there is one seat, which holds nothing
pub record IsOpening (frames : List ℕ) (state : PoolState) : Type 0 where
  pub wide : length state.words ≡ 64 * length frames
  pub clear : (i : ℕ) → slice_index state.words i ≡ 0
  pub first : state.views ≡ newcomer ∷ []

-- the pools with these words and the first seat
abbrev pub opened : List ℕ → PoolState
opened words = record { words = words; views = newcomer ∷ [] }

-- seat id splits: there is one seat more, which holds nothing
pub record Splits (id : ℕ) (old new : PoolState) : Type 0 where
  pub view : View
  pub shown : get_elem? old.views id ≡ some view
  pub words : new.words ≡ old.words
  pub views : new.views ≡ slice_set old.views id (after_split view) ++ newborn view ∷ []

-- seat `other` is joined into seat id, and is spent
pub record Joins (id other : ℕ) (old new : PoolState) : Type 0 where
  pub first : View
  pub second : View
  pub apart : other ≢ id
  pub first_shown : get_elem? old.views id ≡ some first
  pub second_shown : get_elem? old.views other ≡ some second
  pub words : new.words ≡ old.words
  pub views : new.views
      ≡ slice_set (slice_set old.views id (after_join first second)) other spent
