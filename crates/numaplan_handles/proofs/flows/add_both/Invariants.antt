-- The nodes so far are told, whatever moves they stand for.
use Rattle.std.proofs.Common.{◌≡◌, ◌++◌, Some}
use Rattle.numa_host_pages.specs.Summed.{sent_last}
use Rattle.numa_huge.specs.Moves.{HugeMemory}
use Rattle.numa_huge.specs.Tallies.{HasTold}
use Rattle.numa_page_state.specs.Lying.{LastMove}
use Rattle.numa_page_state.specs.Standing.{LastAs}
use Rattle.numaplan_handles.specs.Hosted.{each_below, flows_from, sent_with}
use Rattle.numaplan_handles.proofs.flows.add_both.Given as goal

abbrev pub invariant-loop-from : goal.invariant-loop-from
invariant-loop-from l = (done : LastMove) (memory : HugeMemory) → LastAs l.last done
    → HasTold l.huge memory.told → l.flows.items ≡ l.fn.flows.items ++ each_below
    (λ from. flows_from from ((sent_with (Some memory) (sent_last done)).flow from)) l.from
