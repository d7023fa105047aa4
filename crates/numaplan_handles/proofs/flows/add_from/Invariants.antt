use Rattle.std.proofs.Common.{◌≡◌, ◌++◌}
use Rattle.std.specs.Prelude.{slice_index}
use Rattle.numaplan_handles.specs.Hosted.{each_below, flow_at}
use Rattle.numaplan_handles.proofs.flows.add_from.Given as goal

abbrev pub invariant-loop-to : goal.invariant-loop-to
invariant-loop-to l = l.flows.items
    ≡ l.fn.flows.items ++ each_below (λ to. flow_at l.from to (slice_index l.went to)) l.to
