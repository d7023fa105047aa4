use Rattle.std.proofs.Common.{◌+◌, slice_index}
use Rattle.numa_lines.specs.Written.{Said}
use Rattle.numa_run.proofs.Telling.{flow_from, texts_below}
use Rattle.numa_run.proofs.moved.say_both_flows_from.Given as goal

abbrev pub invariant-loop-to : goal.invariant-loop-to
invariant-loop-to g l = Said g.W.Write.contents l.fn.output l.output
    (texts_below (flow_from l.from (λ to. slice_index l.small to + slice_index l.huge to)) l.to)
