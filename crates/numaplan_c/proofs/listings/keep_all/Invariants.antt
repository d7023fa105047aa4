use Rattle.std.specs.Prelude.{drop}
use Rattle.numa_maps.specs.Residents.{IsRising}
use Rattle.numaplan_c.proofs.Placing.{KeepsSoFar}
use Rattle.numaplan_c.proofs.listings.keep_all.Given as goal

abbrev pub invariant-loop-placed : goal.invariant-loop-placed
invariant-loop-placed l = record {
  rising : IsRising l.kept;
  kept : KeepsSoFar l.fn.placements l.kept (drop l.placed-index l.fn.placements);
}
