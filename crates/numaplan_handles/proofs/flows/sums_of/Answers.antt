use Rattle.numa_host_pages.specs.Summed.{sum_in}
use Rattle.numaplan_handles.proofs.Flowing.{flows-told}
use Rattle.numaplan_handles.proofs.flows.sums_of.Goals as goal

pub returns : goal.returns
returns c = λ at lies.
    flows-told (sum_in at) c.with_flows.result c.add_sums-added.result
    c.add_sums-added.new.flows.items c.new-flows.result.items c.last-all.result.moved
    c.last-all.result.left c.new-flows.ensures.items c.with_flows.ensures (c.add_sums-added.ensures at lies) (c.last-all.ensures at lies).0
    (c.last-all.ensures at lies).1
