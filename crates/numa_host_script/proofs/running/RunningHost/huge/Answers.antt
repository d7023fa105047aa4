use Rattle.numa_host_script.specs.Pooling.{huge_outcome}
use Rattle.numa_host_script.proofs.Resizes.{comes-told}
use Rattle.numa_host_script.proofs.running.RunningHost.huge.Goals as goal

pub returns : goal.returns
returns c =
    rw c.reply_taken.ensures
    (comes-told c.args.self.now c.huge_in-taken.new.running c.huge_in-taken.result
    (λ lack at. huge_outcome lack.lacked at c.args.process c.args.line.now)
    c.huge_in-taken.ensures)
