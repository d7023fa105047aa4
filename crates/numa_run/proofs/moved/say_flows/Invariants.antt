use Rattle.std.proofs.Common.{slice_index}
use Rattle.numa_lines.specs.Written.{Said}
use Rattle.numa_run.proofs.Flows.{flows_below}
use Rattle.numa_run.proofs.moved.say_flows.Given as goal

abbrev pub invariant-loop-node : goal.invariant-loop-node
invariant-loop-node g l = Said g.W.Write.contents l.fn.output l.output
    (flows_below (slice_index l.from) (slice_index l.to) l.node)
