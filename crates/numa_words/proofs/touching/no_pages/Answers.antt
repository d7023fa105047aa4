use Rattle.std.proofs.Common.{ℕ}
use Rattle.std.proofs.lemmas.Simd.{get_or-replicate}
use Rattle.numa_words.proofs.touching.no_pages.Goals as goal

pub returns-clause-on : goal.returns-clause-on
returns-clause-on c = λ node small. get_or-replicate {A = ℕ} 256 node 0 0 small
