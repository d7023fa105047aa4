use Rattle.std.proofs.Common.{◌*◌, ◌-◌}
use Rattle.numa_examples.proofs.pools.+taking.Given as goal

abbrev pub decreases-join+arg2 : goal.decreases-join+arg2
decreases-join+arg2 g l = 2 * l.levels - 1

abbrev pub decreases-join+arg3 : goal.decreases-join+arg3
decreases-join+arg3 g l = 2 * l.levels - 1

abbrev pub decreases-take_by : goal.decreases-take_by
decreases-take_by g l = 2 * l.levels
