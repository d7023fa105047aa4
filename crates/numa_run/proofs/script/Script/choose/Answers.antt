use Rattle.numa_run.proofs.LineLemmas.{first_rules}
use Rattle.numa_run.proofs.script.Script.choose.Goals as goal

pub returns : goal.returns
returns c = rw c.requires (first_rules c.args.self.now.settings c.args.rules)
