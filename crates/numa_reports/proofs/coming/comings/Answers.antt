use Rattle.numa_reports.proofs.Reaching.{comings-next}
use Rattle.numa_reports.proofs.coming.comings.Goals as goal

pub loop-cpu-preserved : goal.loop-cpu-preserved
loop-cpu-preserved c history stands =
    comings-next c.args.space.now.machine history c.args.task c.args.page c.args.node
    c.loop-cpu.cpu c.loop-cpu.comings.items c.push_coming.new.comings.items
    (c.loop-cpu.invariant history stands) (c.in_ok-push_coming.ensures history stands)
