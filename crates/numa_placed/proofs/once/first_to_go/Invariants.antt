-- None of the pages so far is to go.
use Rattle.std.proofs.Common.{◌≡◌, ℕ, ◌-◌, ◌<◌, ◌≤◌, false}
use Rattle.numa_placed.specs.Binds.{wants_of}
use Rattle.numa_placed.specs.Turns.{spots_of}
use Rattle.numa_placed.proofs.once.first_to_go.Given as goal

abbrev pub invariant-loop-next : goal.invariant-loop-next
invariant-loop-next l = record {
  low : l.page ≤ l.next;
  high : l.next ≤ l.end;
  stay : (p : ℕ) → l.page ≤ p → p < l.next
      → wants_of l.wants p (spots_of l.places p) ≡ false;
}

abbrev pub decreases-loop-next : goal.decreases-loop-next
decreases-loop-next l = l.end - l.next
