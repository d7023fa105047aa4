use Rattle.std.proofs.Common.{refl}
use Rattle.numa_command_line.proofs.words.moves.word.Goals as goal

-- the names lie where the word has them
pub returns : goal.returns
returns c = (_, refl, (refl, refl, refl))
