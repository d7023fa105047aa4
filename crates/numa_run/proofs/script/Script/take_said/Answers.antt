use Rattle.numa_run.proofs.Taking.{malformed-taken}
use Rattle.numa_run.proofs.script.Script.take_said.Goals as goal

pub returns-in-Some : goal.returns-in-Some
returns-in-Some c = rw c.in-Some.is (malformed-taken c.args.self.now)

pub returns : goal.returns
returns c = rw c.in_default.is c.take.ensures
