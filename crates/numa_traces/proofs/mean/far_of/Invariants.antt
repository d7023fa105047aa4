use Rattle.std.proofs.Common.{◌≡◌, ◌≤◌, ◌+◌, ◌*◌, ◌^◌, drop, sum}
use Rattle.numa_traces.specs.Means.{all_far, far_from}
use Rattle.numa_traces.proofs.mean.far_of.Given as goal

abbrev pub invariant-loop-count : goal.invariant-loop-count
invariant-loop-count l = record {
  place : l.distance ≡ l.count-index;
  accesses : l.far.accesses + sum (drop l.count-index l.counts) ≡ sum l.counts;
  all : l.far.all + far_from l.count-index (drop l.count-index l.counts) ≡ all_far l.counts;
  few : l.far.accesses ≤ l.count-index * 2 ^ 64;
  near : l.far.all ≤ 255 * l.far.accesses;
}
