use Rattle.std.proofs.Common.{◌≡◌, ◌≤◌, ◌+◌, ℕ, drop}
use Rattle.numa_plan.specs.Slots.{rule_in, uses_in}
use Rattle.numa_plan.specs.Editing.{with_uses}
use Rattle.numa_plan.proofs.slots.use_all.Given as goal

abbrev pub invariant-loop-run : goal.invariant-loop-run
invariant-loop-run l = record {
  rest : with_uses l.slots.items (drop l.run-index l.runs) ≡ with_uses l.fn.slots.items l.runs;
  there : (k : ℕ) → rule_in l.slots.items k ≡ rule_in l.fn.slots.items k;
  few : (k : ℕ) → uses_in l.slots.items k ≤ uses_in l.fn.slots.items k + l.run-index;
}
