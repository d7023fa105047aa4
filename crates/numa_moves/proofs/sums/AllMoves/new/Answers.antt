use Rattle.std.proofs.Common.{ℕ, ◌+◌, ◌*◌, arith, refl}
use Rattle.std.proofs.lemmas.Simd.{get_or-replicate}
use Rattle.numa_moves.proofs.sums.AllMoves.new.Goals as goal

pub returns : goal.returns
returns c = record {
  placed = refl;
  moved = refl;
  flows = λ from to f t. c.in_ok-table.ensures.1 (from * 256 + to) (omega (arith, f, t));
  stays = λ node small. get_or-replicate {A = ℕ} 256 node 0 0 small;
  lacking = λ node small. get_or-replicate {A = ℕ} 256 node 0 0 small;
  whole = c.in_ok-table.ensures.0;
}
