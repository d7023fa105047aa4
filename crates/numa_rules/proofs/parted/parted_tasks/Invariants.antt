-- No task so far has one.
use Rattle.std.proofs.Common.{◌≡◌, drop}
use Rattle.numa_rules.specs.Otherwise.{parted_tasks}
use Rattle.numa_rules.proofs.parted.parted_tasks.Given as goal

abbrev pub invariant-loop-place : goal.invariant-loop-place
invariant-loop-place l = parted_tasks l.before l.after (drop l.place l.space.tasks)
    ≡ parted_tasks l.before l.after l.space.tasks
