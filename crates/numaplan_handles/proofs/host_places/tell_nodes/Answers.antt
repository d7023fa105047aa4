use Rattle.numaplan_handles.proofs.host_places.tell_nodes.Goals as goal

pub returns-in_default-clause-told : goal.returns-in_default-clause-told
returns-in_default-clause-told c = λ at runs. c.in_default.ensures at.history runs.stands
