use Rattle.std.proofs.Common.{ltb, ltb-true, ltb-false, arith, rules, tests}
use Rattle.std.proofs.lemmas.List.Sorted.{IsPartitionPoint-from_clause, IsPartitionedBy-ltb}
use Rattle.numa_plan.proofs.TaskPlaces.{place-from_point, tasks-rise}
use Rattle.numa_plan.proofs.task_numbers.place_of.Goals as goal

pub returns-clause-place : goal.returns-clause-place
returns-clause-place c =
    let point = IsPartitionPoint-from_clause (λ entry. ltb entry.0 c.args.task) c.args.entries.now
    c.partition_point.result c.partition_point.ensures.partitioned
    (IsPartitionedBy-ltb (λ entry. entry.0) c.args.entries.now c.args.task
    (tasks-rise c.args.entries.now c.requires))
    (λ a r q k. search (rules, tests)) in
    place-from_point c.args.task c.args.entries.now c.partition_point.result
    c.partition_point.ensures.bound
    (λ k d lt. ltb-true _ _ (point.0 k d (omega arith) lt))
    (λ k d le lt. ltb-false _ _ (point.1 k d le lt))
