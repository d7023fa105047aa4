use Rattle.std.proofs.Common.{ℕ}
use Rattle.std.proofs.lemmas.Simd.{get_or-replicate}
use Rattle.numa_placed.proofs.in_turn.nothing.Goals as goal

pub returns : goal.returns
returns c node small = get_or-replicate {A = ℕ} 256 node 0 0 small
