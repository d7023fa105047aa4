use Rattle.numaplan_handles.proofs.host_pools.own_done.Goals as goal

pub returns : goal.returns
returns c = record { comes = c.own_huge.ensures }
