use Rattle.numaplan_handles.proofs.host_handle.commanded.Goals as goal

pub returns : goal.returns
returns c = record { host = c.command.ensures.host; runs = c.command.ensures.runs }
