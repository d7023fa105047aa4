use Rattle.std.proofs.Common.{◌+◌}
use Rattle.numa_lines.specs.Written.{Said}
use Rattle.numa_huge.specs.Tallies.{flow_of}
use Rattle.numa_run.specs.MovedTexts.{flow_of_last, last_of}
use Rattle.numa_run.proofs.Telling.{flows_of, texts_below}
use Rattle.numa_run.proofs.moved.say_added_flows.Given as goal

abbrev pub invariant-loop-from : goal.invariant-loop-from
invariant-loop-from g l = Said g.W.Write.contents l.fn.output l.output
    (texts_below (flows_of (λ from to. flow_of_last (last_of l.last) from to
    + flow_of l.huge from to)) l.from)
