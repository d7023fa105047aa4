-- The items up to the loop's place are changed, the others as they were.
use Rattle.std.proofs.Common.{◌≡◌, ◌++◌, map, take, drop, length}
use Rattle.numa_rows.specs.Changes.{Makes}
use Rattle.numa_rows.proofs.items.update_items.Given as goal

abbrev pub invariant-loop-i : goal.invariant-loop-i
invariant-loop-i g l = record {
  size : length l.items.items ≡ length l.initial.items.items;
  made : (change : g.row.T.Denot → g.row.T.Denot) → Makes g.F.Fn l.f change
      → l.items.items ≡ map change (take l.i l.initial.items.items)
      ++ drop l.i l.initial.items.items;
}
