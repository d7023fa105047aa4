use Rattle.numa_lines.proofs.Fronts.{front_more}
use Rattle.numa_lines.proofs.watched.write_all.Goals as goal

pub loop-rest-preserved : goal.loop-rest-preserved
loop-rest-preserved g c = front_more _ _ _ c.in-Ok.count c.args.bytes.now c.loop-rest.invariant.0
    c.loop-rest.rest.now c.loop-rest.invariant.1 c.loop-rest.invariant.2 c.in-Ok.ensures.bytes
