use Rattle.numa_lines.specs.Written.{Said}
use Rattle.numa_placed.specs.Spots.{spot_at}
use Rattle.numa_page_state.specs.Sending.{flow_between}
use Rattle.numa_run.proofs.Telling.{flows_of, texts_below}
use Rattle.numa_run.proofs.moved.say_all_flows.Given as goal

abbrev pub invariant-loop-from : goal.invariant-loop-from
invariant-loop-from g l = Said g.W.Write.contents l.fn.output l.output
    (texts_below (flows_of (flow_between (spot_at l.before) (spot_at l.after))) l.from)
