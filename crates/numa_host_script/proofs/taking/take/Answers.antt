use Rattle.numa_host_script.proofs.Taken.{in-taken, unnamed-taken}
use Rattle.numa_host_script.proofs.taking.take.Goals as goal

pub returns-in-Some : goal.returns-in-Some
returns-in-Some c =
    in-taken c.args.running.now c.take_in.new.running c.args.said.now c.in-Some.process
    c.take_in.result c.in-Some.is c.take_in.ensures

pub returns-in-None : goal.returns-in-None
returns-in-None c =
    unnamed-taken c.args.running.now c.take_own.new.running c.args.said.now c.take_own.result
    c.in-None.is c.take_own.ensures
