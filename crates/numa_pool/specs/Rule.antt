-- The rule that holds between any two steps of any threads.
use Rattle.std.specs.Prelude.{◌≡◌, ℕ, ◌+◌, ◌*◌, ◌<◌, ◌≤◌, List, [], ◌∷◌, length, slice_index, ◌↔◌}
use mathlib.Core.Option.{some}
use lib.ListN.{get_elem?}
use Rattle.numa_pool.specs.declared.view.View.{View}
use Rattle.numa_pool.specs.Frames.{times, bit_in}

-- one of the seats holds frame k of node n
abbrev pub IsHeld : List View → ℕ → ℕ → Type 0
IsHeld views n k = (id : ℕ) × (v : View) × (get_elem? views id ≡ some v) × (0 < times n k v.held)

-- A bit is set exactly where a seat holds its frame. No two seats hold one frame, and no seat holds
-- one twice. A frame that is held is one of its node's, and the bits past these are clear. A seat
-- that was joined into another shows no frame, so it counts no more
pub record PoolRule (frames words : List ℕ) (views : List View) : Type 0 where
  pub set_where_held : (n k : ℕ) → k < 4096 → bit_in words n k ≡ 1 ↔ IsHeld views n k
  pub one_holder : (n k i j : ℕ) (v w : View)
      → get_elem? views i ≡ some v → get_elem? views j ≡ some w → 0 < times n k v.held →
      0 < times n k w.held → i ≡ j
  pub held_once : (n k i : ℕ) (v : View) → get_elem? views i ≡ some v → times n k v.held ≤ 1
  pub held_in_range : (n k : ℕ) → IsHeld views n k → k < slice_index frames n
  pub clear_past : (n k : ℕ) → slice_index frames n ≤ k → k < 4096 → bit_in words n k ≡ 0

-- a number of each view, added up
abbrev pub total : (View → ℕ) → List View → ℕ
total h [] = 0
total h (v ∷ vs) = h v + total h vs

-- how often all seats together hold the frame
abbrev pub holdings : ℕ → ℕ → List View → ℕ
holdings n k views = total (λ v. times n k v.held) views

-- The same rule as counts, which steps keep one by one: a bit is how often the seats hold its
-- frame, and what is past a node's frames is held by none
pub record Counted (frames words : List ℕ) (views : List View) : Type 0 where
  pub wide : length words ≡ 64 * length frames
  pub exact : (n k : ℕ) → k < 4096 → bit_in words n k ≡ holdings n k views
  pub past : (n k : ℕ) → slice_index frames n ≤ k → holdings n k views ≡ 0
