use Rattle.numa_traces.proofs.host_reading.HostTrace.new.Goals as goal

pub returns-clause-met : goal.returns-clause-met
returns-clause-met c room plans was = record { replay = was; marks = c.new.ensures.items }
