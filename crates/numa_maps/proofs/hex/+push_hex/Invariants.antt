use Rattle.std.proofs.Common.{◌+◌}
use Rattle.numa_maps.proofs.hex.+push_hex.Given as goal

abbrev pub decreases-push_hex : goal.decreases-push_hex
decreases-push_hex l = l.number + l.least
