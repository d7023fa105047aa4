use Rattle.numaplan_handles.proofs.host_pools.done.Goals as goal

pub returns : goal.returns
returns c = record { comes = c.huge.ensures }
