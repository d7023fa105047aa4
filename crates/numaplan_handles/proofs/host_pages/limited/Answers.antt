use Rattle.numaplan_handles.proofs.host_pages.limited.Goals as goal

pub returns : goal.returns
returns c = record { host = c.limit.ensures.host; pages = c.limit.ensures.pages }
