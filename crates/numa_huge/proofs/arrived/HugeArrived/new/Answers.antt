use Rattle.std.proofs.Common.{ℕ, refl}
use Rattle.std.proofs.lemmas.Simd.{get_or-replicate}
use Rattle.numa_huge.proofs.arrived.HugeArrived.new.Goals as goal

pub returns : goal.returns
returns c huge = record {
  placed = refl;
  exhausted = refl;
  on = λ node small. get_or-replicate {A = ℕ} 256 node 0 0 small;
}
