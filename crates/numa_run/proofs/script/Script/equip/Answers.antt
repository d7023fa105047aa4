use Rattle.numa_run.proofs.LineLemmas.{first_cpus, first_no_cpus}
use Rattle.numa_run.proofs.script.Script.equip.Goals as goal

pub returns-in-Ok : goal.returns-in-Ok
returns-in-Ok c =
    rw c.requires (first_cpus c.args.self.now.settings c.args.said.now c.in-Ok.cpus c.in-Ok.is)

pub returns-in-Err : goal.returns-in-Err
returns-in-Err c =
    rw c.requires (first_no_cpus c.args.self.now.settings c.args.said.now c.in-Err.fault
    c.in-Err.is)
