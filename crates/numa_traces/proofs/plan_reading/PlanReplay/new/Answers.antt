use Rattle.std.proofs.Common.{refl}
use Rattle.numa_traces.proofs.plan_reading.PlanReplay.new.Goals as goal

pub returns : goal.returns
returns c = record { plan = refl; before = refl; state = c.new.ensures }
