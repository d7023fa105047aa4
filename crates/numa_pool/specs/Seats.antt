-- What contracts see of pools and seats, and what the end of the pools tells.
use Rattle.std.specs.Prelude.{◌≡◌, ℕ, ◌*◌, ◌<◌, ◌≤◌, min, Bool, List}
use Rattle.std.specs.Prelude.{length, slice_index, IsTrue, ◌↔◌}
use mathlib.Core.Option.{some}
use lib.ListN.{get_elem?}
use Rattle.atomic_table.specs.Seated.{TableId}
use Rattle.numa_machine.specs.declared.frame.Frame.{Frame}
use Rattle.numa_pool.specs.declared.view.Entry.{Entry}
use Rattle.numa_pool.specs.declared.view.Unlogged.{Unlogged}
use Rattle.numa_pool.specs.declared.view.View.{View}
use Rattle.numa_pool.specs.Frames.{times, bit_in, set_below}
use Rattle.numa_pool.specs.Rule.{PoolRule}

-- which pools they are, and how many frames each node of the machine has
pub record PoolsView : Type 0 where
  pub table : TableId
  pub frames : List ℕ

-- the pools that a seat belongs to, the frames that it holds, its own steps, the newest first,
-- and what the log leaves out: splits, joins and checks, and the logs of seats that were joined
pub record SeatView : Type 0 where
  pub table : TableId
  pub held : List Frame
  pub log : List Entry
  pub unlogged : Unlogged

-- which words a token steps on, and what its seat shows
pub record TokenView : Type 0 where
  pub table : TableId
  pub view : View

-- a table has 64 words for each node, and no slots
pub record IsShaped (table : TableId) (frames : List ℕ) : Type 0 where
  pub some : 0 < length frames
  pub most : length frames ≤ 256
  pub words : table.words ≡ 64 * length frames
  pub slots : table.slots ≡ 0
  pub low : (n : ℕ) → slice_index frames n ≤ 4096

-- these bits, in this many words, mark these frames
pub record Marks (wide : ℕ) (bits : List ℕ) (held : List Frame) : Type 0 where
  pub words : length bits ≡ wide
  pub exact : (n k : ℕ) → k < 4096 → bit_in bits n k ≡ min 1 (times n k held)
  pub low : (n k : ℕ) → 4096 ≤ k → times n k held ≡ 0

-- these words stand in a state that keeps the rule, in which a seat holds these frames
abbrev pub IsLast : List ℕ → List Frame → List ℕ → Type 0
IsLast frames held words =
    (views : List View) × (id : ℕ) × (v : View)
    × PoolRule frames words views × (get_elem? views id ≡ some v) × (v.held ≡ held)

-- each frame whose bit is set is among these
abbrev pub IsAllOf : List ℕ → List ℕ → List Frame → Type 0
IsAllOf frames words held =
    (n k : ℕ) → k < slice_index frames n → bit_in words n k ≡ 1 → 0 < times n k held

-- The end, of the last words: the bits of the seat's frames are set, how many bits of each node are
-- set, and whether each set bit is that of a frame of the seat
abbrev pub Closes : List ℕ → List Frame → List ℕ → Bool → Type 0
Closes frames held taken alone =
    (words : List ℕ) × IsLast frames held words
    × ((n k : ℕ) → 0 < times n k held → (k < slice_index frames n) × (bit_in words n k ≡ 1))
    × ((n : ℕ) → slice_index taken n ≡ set_below words n (slice_index frames n))
    × (IsTrue alone ↔ IsAllOf frames words held)
