use Rattle.numa_host_script.specs.Pooling.{own_huge_outcome}
use Rattle.numa_host_script.proofs.Resizes.{comes-told}
use Rattle.numa_host_script.proofs.running.RunningHost.own_huge.Goals as goal

pub returns : goal.returns
returns c =
    rw c.reply_taken.ensures
    (comes-told c.args.self.now c.own_huge-taken.new.running c.own_huge-taken.result
    (λ lack at. own_huge_outcome at c.args.line.now) c.own_huge-taken.ensures)
