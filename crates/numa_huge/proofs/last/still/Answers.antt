use Rattle.std.proofs.Common.{ℕ, refl, replicate}
use Rattle.std.proofs.lemmas.Simd.{get_or-replicate}
use Rattle.numa_huge.proofs.Flowing.{flow-still}
use Rattle.numa_huge.proofs.last.still.Goals as goal

pub returns : goal.returns
returns c = record {
  moved = refl;
  left = refl;
  flow = λ from to small near. flow-still (replicate 256 0) (replicate 256 0) from to
      (get_or-replicate {A = ℕ} 256 from 0 0 small);
}
