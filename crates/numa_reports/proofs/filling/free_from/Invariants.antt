use Rattle.std.proofs.Common.{◌≡◌, length}
use Rattle.std.specs.Prelude.{replicate}
use Rattle.numa_reports.specs.Filled.{with_named}
use Rattle.numa_reports.proofs.filling.free_from.Given as goal

abbrev pub invariant-loop-one : goal.invariant-loop-one
invariant-loop-one l = record {
  same : with_named l.free l.rest ≡ with_named (replicate 256 l.fn.others) l.fn.named;
  long : length l.free ≡ 256;
}

abbrev pub decreases-loop-one : goal.decreases-loop-one
decreases-loop-one l = length l.rest
