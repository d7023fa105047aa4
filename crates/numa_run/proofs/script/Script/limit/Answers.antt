use Rattle.std.proofs.Common.{refl}
use Rattle.numa_run.proofs.LineLemmas.{first_limits, first_no_limits}
use Rattle.numa_run.proofs.Limiting.{fit, exceed}
use Rattle.numa_run.proofs.script.Script.limit.Goals as goal

pub returns-in-Some : goal.returns-in-Some
returns-in-Some c =
    let few = c.in-Some.ensures.exists.0 refl in
    rw (c.requires, c.in-Some.ensures.value)
    (first_limits c.args.self.now.settings c.args.ranges c.args.tasks c.args.commands
    (fit c.args.ranges c.args.tasks few.0 few.1))

pub returns-in-None : goal.returns-in-None
returns-in-None c =
    rw c.requires (first_no_limits c.args.self.now.settings c.args.ranges c.args.tasks
    c.args.commands (exceed c.args.ranges c.args.tasks c.in-None.ensures.exists.1))
