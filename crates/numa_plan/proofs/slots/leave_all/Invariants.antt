use Rattle.std.proofs.Common.{◌≡◌, ◌≤◌, ℕ, drop}
use Rattle.numa_plan.specs.Slots.{uses_in}
use Rattle.numa_plan.specs.Editing.{with_uses_less}
use Rattle.numa_plan.proofs.EditLemmas.{names}
use Rattle.numa_plan.proofs.slots.leave_all.Given as goal

abbrev pub invariant-loop-run : goal.invariant-loop-run
invariant-loop-run l = record {
  rest : with_uses_less l.slots.items (drop l.run-index l.runs) ≡ with_uses_less l.fn.slots.items
      l.runs;
  used : (k : ℕ) → names k (drop l.run-index l.runs) ≤ uses_in l.slots.items k;
}
