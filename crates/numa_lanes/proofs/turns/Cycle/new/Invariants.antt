use Rattle.std.proofs.Common.{◌≡◌, ◌<◌, ◌≤◌, ◌%◌, ℕ, get_or, length}
use Rattle.std.specs.Prelude.{vec_capacity, vec_len}
use Rattle.numa_lanes.proofs.turns.Cycle.new.Given as goal

abbrev pub invariant-loop-turn : goal.invariant-loop-turn
invariant-loop-turn l = record {
  long : length l.table.items ≡ l.turn;
  size : vec_len l.table ≡ l.turn;
  room : l.size ≤ vec_capacity l.table;
  same : (j : ℕ) → j < l.turn → get_or l.table.items j 0 ≡ get_or l.entries (j % l.len) 0;
}
