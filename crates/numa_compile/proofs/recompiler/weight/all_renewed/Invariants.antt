use Rattle.std.proofs.Common.{◌≡◌, ◌≤◌, ◌^◌, length}
use Rattle.numa_compile.specs.Recompiling.{AreRenewed}
use Rattle.numa_compile.proofs.recompiler.weight.all_renewed.Given as goal

abbrev pub invariant-loop-place : goal.invariant-loop-place
invariant-loop-place l = record {
  all : length l.rules.items ≡ l.place;
  few : l.place ≤ 2 ^ 32;
  renewed : AreRenewed l.space l.plan.slots l.rules.items;
}
