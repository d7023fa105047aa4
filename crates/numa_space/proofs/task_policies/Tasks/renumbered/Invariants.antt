-- The tasks so far have their policies, in the same order.
use Rattle.std.proofs.Common.{◌≡◌, take}
use Rattle.numa_space.proofs.task_policies.Tasks.renumbered.Given as goal

abbrev pub invariant-loop-k : goal.invariant-loop-k
invariant-loop-k l = l.fresh ≡ take l.k l.fn.self
