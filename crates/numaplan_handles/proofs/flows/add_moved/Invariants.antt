-- The nodes so far are told, whatever move they stand for.
use Rattle.std.proofs.Common.{◌≡◌, ◌++◌}
use Rattle.numa_host_pages.specs.Summed.{flow_told}
use Rattle.numa_page_state.specs.Lying.{Told}
use Rattle.numa_page_state.specs.Standing.{TellsOf}
use Rattle.numaplan_handles.specs.Hosted.{each_below, flows_from}
use Rattle.numaplan_handles.proofs.flows.add_moved.Given as goal

abbrev pub invariant-loop-from : goal.invariant-loop-from
invariant-loop-from l = (told : Told) → TellsOf l.moved told → l.flows.items
    ≡ l.fn.flows.items ++ each_below (λ from. flows_from from (flow_told told from)) l.from
