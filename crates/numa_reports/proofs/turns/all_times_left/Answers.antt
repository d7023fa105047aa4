use Rattle.std.proofs.Common.{◌≡◌, ℕ, arith, inl, inr, get_or, subst}
use Rattle.std.proofs.lemmas.Bool.{cases_lt}
use Rattle.numa_reports.specs.Turns.{Lasts}
use Rattle.numa_reports.proofs.Repeating.{lasts-fewer}
use Rattle.numa_reports.proofs.turns.all_times_left.Goals as goal

pub loop-node-preserved : goal.loop-node-preserved
loop-node-preserved c = record {
  few = omega (arith, c.loop-node.invariant.few, c.times_left-times.ensures.few);
  last = λ n lt. elim (cases_lt n c.loop-node.node) [
    | inl early ↦ lasts-fewer (get_or c.args.before.now n 0) (get_or c.args.after.now n 0)
        c.times_left-times.result c.loop-node.times c.times_left-times.ensures.few
        (c.loop-node.invariant.last n early)
    | inr late ↦
        let same : c.loop-node.node ≡ n = omega (arith, lt, late) in
        subst (λ (k : ℕ). Lasts (get_or c.args.before.now k 0) (get_or c.args.after.now k 0)
        c.times_left-times.result) same c.times_left-times.ensures.lasts
  ];
}

pub returns-clause-last : goal.returns-clause-last
returns-clause-last c node small = c.loop-node.invariant.last node (omega arith)
