-- There is nothing to keep.
use Rattle.numa_space.proofs.task_records.TaskRecords.found.Given as goal

abbrev pub invariant-loop-place : goal.invariant-loop-place
invariant-loop-place l = Unit {0}
