use Rattle.std.proofs.Common.{length}
use Rattle.numa_host_huge.specs.declared.sharer.Sharer.{Sharer}
use Rattle.numa_host_huge.proofs.sharer.+add_again.Given as goal

abbrev pub decreases-add_again : goal.decreases-add_again
decreases-add_again l = length {A = Sharer} l.sharers.now
