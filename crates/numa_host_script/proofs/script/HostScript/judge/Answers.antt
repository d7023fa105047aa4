use Rattle.numa_host_script.specs.Standing.{unboxed}
use Rattle.numa_host_script.proofs.Decided.{judged-line}
use Rattle.numa_host_script.proofs.script.HostScript.judge.Goals as goal

pub returns : goal.returns
returns c = λ session stands.
    judged-line c.take-taken.new.self.script c.take-taken.new.self.limits
    (unboxed c.take-taken.new.self.host) c.fault.new.self.script c.fault.new.self.limits
    (unboxed c.fault.new.self.host) c.args.said.now c.take-taken.result c.fault.result session
    (c.take-taken.ensures session stands) c.fault.ensures
