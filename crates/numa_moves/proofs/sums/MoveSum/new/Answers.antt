use Rattle.std.proofs.Common.{ℕ, refl}
use Rattle.std.proofs.lemmas.Simd.{get_or-replicate}
use Rattle.numa_moves.proofs.sums.MoveSum.new.Goals as goal

pub returns-clause-none : goal.returns-clause-none
returns-clause-none c = record {
  placed = refl;
  moved = refl;
  at = λ node low small. record {
    gone = get_or-replicate {A = ℕ} 256 node 0 0 small;
    stays = get_or-replicate {A = ℕ} 256 node 0 0 small;
    lacking = get_or-replicate {A = ℕ} 256 node 0 0 small;
  };
}

pub returns-clause-to : goal.returns-clause-to
returns-clause-to c = λ node small. get_or-replicate {A = ℕ} 256 node 0 0 small
