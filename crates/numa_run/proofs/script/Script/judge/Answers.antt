use Rattle.numa_run.proofs.Faults.{judged}
use Rattle.numa_run.proofs.script.Script.judge.Goals as goal

pub returns : goal.returns
returns c =
    judged c.args.self.now c.take-taken.new.self c.fault.new.self c.args.line.now
    c.take-taken.result c.fault.result c.take-taken.ensures c.fault.ensures
