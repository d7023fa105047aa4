-- Where pages lie, as it is kept: runs of pages of which the same is kept, and the nodes of all
-- cycles.
use Rattle.std.specs.Prelude.{ℕ, ◌+◌, ◌%◌, List, Option, Some, None, slice_index}
use Rattle.numa_ranges.specs.Runs.{page_at}
use Rattle.numa_ranges.specs.declared.run.Run.{Run}
use Rattle.numa_placed.specs.declared.spot.Spot.{Spot}
use Rattle.numa_placed.specs.declared.spot.Spot.TheVariants.{Nowhere, Stated}
use Rattle.numa_placed.specs.declared.turn.Slot.{Slot}
use Rattle.numa_placed.specs.declared.turn.Slot.TheVariants.{Lies, InTurn}
use Rattle.numa_placed.specs.declared.turn.Turn.{Turn}

pub record Laid : Type 0 where
  pub runs : List (Run Slot)
  pub nodes : List ℕ

-- the node of a page, by the list that has the nodes of all cycles
abbrev pub turn_node : List ℕ → Turn → ℕ → ℕ
turn_node nodes turn page = slice_index nodes (turn.from + page % turn.count)

-- where a page lies of which this is kept
abbrev pub slot_spot : List ℕ → ℕ → Slot → Spot
slot_spot nodes page (Lies spot) = spot
slot_spot nodes page (InTurn turn) = Stated (turn_node nodes turn page)

-- where a page lies, by its number and what a map keeps of it
abbrev pub kept_spot : List ℕ → Option (ℕ × Slot) → Spot
kept_spot nodes None = Nowhere
kept_spot nodes (Some p) = slot_spot nodes p.0 p.1

-- where each page lies
abbrev pub spot_at : Laid → ℕ → Spot
spot_at laid page = kept_spot laid.nodes (page_at laid.runs page)
