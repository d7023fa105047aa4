use Rattle.numaplan_handles.proofs.host_places.last_of_all.Goals as goal

pub returns : goal.returns
returns c = λ at runs. c.sums_of.ensures at.lying runs.lies
