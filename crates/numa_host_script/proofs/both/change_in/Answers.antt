use Rattle.numa_host_script.proofs.Acted.{small-acts}
use Rattle.numa_host_script.proofs.Shared.{none-there}
use Rattle.numa_host_script.proofs.both.change_in.Goals as goal

pub returns-clause-runs : goal.returns-clause-runs
returns-clause-runs c =
    small-acts c.args.running.now c.change_small.new.running c.change_small.result c.args.process
    c.args.line.now c.requires.moved
    (λ at stands. none-there c.args.process at c.is_sharer.result
    (c.is_sharer.ensures.sharer at.lying.huge stands.lies.huge) c.if-is_sharer.false)
    c.change_small.ensures.runs
