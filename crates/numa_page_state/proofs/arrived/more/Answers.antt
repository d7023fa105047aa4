use Rattle.std.proofs.Common.{◌≡◌, ℕ, ◌-◌, ◌<◌, get_or, length, arith, ◌∙◌, ap, sym, set}
use Rattle.std.proofs.Common.{inl, inr, length-set}
use Rattle.std.proofs.lemmas.Bool.{cases_eq}
use Rattle.std.proofs.lemmas.List.{get_or-set_same, get_or-set_other}
use Rattle.numa_page_state.proofs.arrived.more.Goals as goal

pub loop-node-preserved : goal.loop-node-preserved
loop-node-preserved c =
    let at = c.loop-node.node in
    let rest = c.saturating_sub.result in
    let here : at < length c.loop-node.came = omega (
      arith,
      c.loop-node.invariant.long,
      c.loop-node-test.true,
    ) in
    let is : rest ≡ get_or c.args.after at 0 - get_or c.args.before.now at 0 =
    c.saturating_sub.ensures
    ∙ ap (λ (k : ℕ). k - get_or c.args.before.now at 0)
    (c.loop-node.invariant.ahead at (omega arith)) in
    record {
      long = length-set _ _ _ ∙ c.loop-node.invariant.long;
      done = λ node lt. elim (cases_eq node at) [
        | inl e ↦ ap (λ (k : ℕ). get_or (set c.loop-node.came at rest) k 0) e
            ∙ get_or-set_same c.loop-node.came at rest 0 here ∙ is
            ∙ ap (λ (k : ℕ). get_or c.args.after k 0 - get_or c.args.before.now k 0) (sym e)
        | inr ne ↦ get_or-set_other c.loop-node.came at node rest 0 ne
            ∙ c.loop-node.invariant.done node (omega (arith, lt, ne))
      ];
      ahead = λ node le.
          get_or-set_other c.loop-node.came at node rest 0 (λ e. omega (arith, le, e))
          ∙ c.loop-node.invariant.ahead node (omega (arith, le));
    }

pub returns : goal.returns
returns c node small =
    c.loop-node.invariant.done node
    (omega (arith, small, c.loop-node.auto.node-end, c.loop-node-test.false))
