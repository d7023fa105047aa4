-- The page up to which the lowest pages of a node go, looked for by halving.
use Rattle.std.specs.Prelude.{◌≡◌, ℕ, ◌+◌, ◌-◌, ◌≤◌, min, ◌^◌}
use Rattle.numa_placed.specs.Moves.{moved_spot}
use Rattle.numa_placed.specs.Spots.{is_on, pages_within}
use Rattle.numa_placed.specs.declared.cut.Part.{Part}
use Rattle.numa_placed.specs.declared.spot.Spot.{Spot}
use Rattle.numa_placed.specs.declared.turn.Slot.{Slot}
use Rattle.numa_placed.specs.declared.turn.Slot.TheVariants.{Lies, InTurn}

-- a part of the pages from one on up to another: so many of the node's are below it, and the others
-- of so many are in it
pub record IsPart (spots : ℕ → Spot) (node first end pages : ℕ) (part : Part) : Type 0 where
  pub low : first ≤ part.low
  pub rises : part.low ≤ part.high
  pub high : part.high ≤ end
  pub below : pages_within (is_on node) spots first (part.low - first) + part.left ≡ pages
  pub few : part.left ≤ pages_within (is_on node) spots part.low (part.high - part.low)

-- what is kept of a page once the pages of each node went to another: a page in turn goes with the
-- nodes of its cycle, which are so far behind in the list
abbrev pub shifted_slot : (ℕ → ℕ) → ℕ → Slot → Slot
shifted_slot go behind (Lies spot) = Lies (moved_spot go spot)
shifted_slot go behind (InTurn turn) =
    InTurn (record { from = min (turn.from + behind) (2 ^ 32 - 1); count = turn.count })
