use Rattle.std.proofs.Common.{◌∙◌}
use Rattle.numa_mode.proofs.Words.{flag_test}
use Rattle.numa_mode.proofs.flags.PolicyFlags.is_static.Goals as goal

pub returns : goal.returns
returns c = c.contains.ensures tt ∙ flag_test c.args.self.0 15
