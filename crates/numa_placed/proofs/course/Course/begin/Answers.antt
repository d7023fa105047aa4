use Rattle.std.proofs.Common.{ℕ, refl}
use Rattle.std.proofs.lemmas.Simd.{get_or-replicate}
use Rattle.numa_placed.proofs.course.Course.begin.Goals as goal

pub returns : goal.returns
returns c room are = record {
  waits = c.waiting-waits.ensures;
  room = are;
  gone = λ node small. get_or-replicate {A = ℕ} 256 node 0 0 small;
  full = refl;
}
