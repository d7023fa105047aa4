use Rattle.numaplan_handles.proofs.host_pages.changed.Goals as goal

pub returns : goal.returns
returns c = record { host = c.change.ensures.host; runs = c.change.ensures.runs }
