-- What was told of the processes so far, and what is to be told of those that are left, are all.
use Rattle.std.proofs.Common.{◌≡◌, ℕ, ◌++◌, drop, take}
use Rattle.std.specs.Prelude.{map}
use Rattle.numa_host.proofs.Following.{ArePartly}
use Rattle.numa_placed.specs.Shifts.{AreRooms}
use Rattle.numa_moves.specs.Moving.{AreCounted, Sends, left_by, moves_in, nodes_by, nodes_in}
use Rattle.numa_moves.specs.Moving.{rooms_by, shares_in, told_by}
use Rattle.numa_moves.specs.declared.holding.Holding.{Holding}
use Rattle.numa_moves.proofs.holding.act_on_each.Given as goal

abbrev pub invariant-loop-holding : goal.invariant-loop-holding
invariant-loop-holding l = record {
  partly : ArePartly (λ (p q : Holding). Unit {0}) l.holding-index l.fn.holdings l.holdings;
  told : (from to : Holding → ℕ) (room : ℕ → ℕ) → Sends l.act from to
      → AreRooms l.fn.rooms room → AreCounted l.fn.holdings
      → (rest : ℕ → ℕ) × AreRooms l.rooms rest
      × (map moves_in l.told.items
      ++ told_by from to (drop l.holding-index l.fn.holdings) rest
      ≡ told_by from to l.fn.holdings room)
      × (rooms_by from to (drop l.holding-index l.fn.holdings) rest
      ≡ rooms_by from to l.fn.holdings room);
  left : map shares_in (take l.holding-index l.holdings) ≡ map left_by l.told.items;
  nodes : map nodes_in (take l.holding-index l.holdings)
      ≡ map (nodes_by l.act) (take l.holding-index l.fn.holdings);
}
