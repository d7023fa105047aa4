-- The nodes so far are told, whatever homes the pages stand for.
use Rattle.std.proofs.Common.{◌≡◌, ◌++◌}
use Rattle.numa_host_pages.specs.Homes.{HostLying}
use Rattle.numa_host_pages.specs.Standing.{HostLies}
use Rattle.numa_host_pages.specs.Summed.{sum_in}
use Rattle.numaplan_handles.specs.Hosted.{each_below, flows_from}
use Rattle.numaplan_handles.proofs.flows.add_sums.Given as goal

abbrev pub invariant-loop-from : goal.invariant-loop-from
invariant-loop-from l = (at : HostLying) → HostLies l.pages at → l.flows.items
    ≡ l.fn.flows.items ++ each_below (λ from. flows_from from ((sum_in at).flow from)) l.from
