use Rattle.std.proofs.Common.{refl}
use Rattle.numa_command_line.proofs.words.rules.argument.Goals as goal

-- the names lie where the option has them
pub returns : goal.returns
returns c = (_, refl, refl)
