use Rattle.numaplan_handles.proofs.host_pages.bound.Goals as goal

pub returns : goal.returns
returns c = record { replies = c.bind.ensures }
