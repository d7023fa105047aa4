use Rattle.std.proofs.Common.{◌≡◌, ◌++◌}
use Rattle.numa_page_state.specs.Sending.{flow_between}
use Rattle.numa_placed.specs.Spots.{spot_at}
use Rattle.numaplan_handles.specs.Hosted.{each_below, flows_from}
use Rattle.numaplan_handles.proofs.flows.add_departed.Given as goal

abbrev pub invariant-loop-from : goal.invariant-loop-from
invariant-loop-from l = l.flows.items ≡ l.fn.flows.items ++ each_below (λ from.
    flows_from from (flow_between (spot_at l.gone.before) (spot_at l.gone.after) from)) l.from
