use Rattle.std.proofs.Common.{ℕ, leb, of_calls, rules, arith, sym}
use Rattle.std.proofs.lemmas.List.Sorted.{IsPartitionPoint-from_clause, IsPartitionedBy-leb}
use Rattle.std.proofs.lemmas.List.Sums.{prefix_len_is}
use Rattle.numa_traces.proofs.ranges.count_to.Goals as goal

pub returns : goal.returns
returns c rising =
    let test = λ (first : ℕ). leb first c.args.page in
    let count = c.partition_point.result in
    let point = IsPartitionPoint-from_clause test c.args.firsts.now count
    c.partition_point.ensures.partitioned
    (IsPartitionedBy-leb (λ first. first) c.args.firsts.now c.args.page rising)
    (λ a r f k. search (rules, of_calls)) in
    sym (prefix_len_is test c.args.firsts.now count 0 c.partition_point.ensures.bound
    (λ k below. point.0 k 0 (omega arith) below) (λ inside. point.1 count 0 (omega arith) inside))
