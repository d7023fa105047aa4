-- The cycles of pages kept in other nodes, page by page.
use Rattle.std.specs.Prelude.{◌≡◌, ℕ, ◌<◌, ◌≤◌, IfSome, List, Option}
use Rattle.numa_ranges.specs.Runs.{page_at}
use Rattle.numa_placed.specs.Turns.{HaveAll, IsNamed, slot_at, spots_of, turn_node}
use Rattle.numa_placed.specs.declared.places.Places.{Places}
use Rattle.numa_placed.specs.declared.turn.Slot.TheVariants.{InTurn}
use Rattle.numa_placed.specs.declared.turn.Turn.{Turn}

-- a cycle in other nodes, by which each page lies as by the old one
pub record IsRenamed (nodes made : List ℕ) (old new : Turn) : Type 0 where
  pub named : IsNamed made new
  pub same : (page : ℕ) → turn_node made new page ≡ turn_node nodes old page

-- the cycles of the pages below one are kept in other nodes, the last of them so; of the pages from
-- it on is kept what was
pub record IsTidied (old next : Places) (said : Option (Turn × Turn)) (low : ℕ) : Type 0 where
  pub whole : HaveAll next.map.runs
  pub done : (page : ℕ) → page < low → spots_of next page ≡ spots_of old page
  pub named : (page : ℕ) (turn : Turn) → page < low → slot_at next.map.runs page ≡ InTurn turn
      → IsNamed next.nodes.items turn
  pub ahead : (page : ℕ) → low ≤ page → page_at next.map.runs page ≡ page_at old.map.runs page
  pub last : IfSome said (λ p. IsRenamed old.nodes.items next.nodes.items p.0 p.1)
