use Rattle.std.proofs.Common.{◌≡◌, ℕ, ◌<◌, rules, get_or, length, arith, ◌∙◌, ap, sym, set}
use Rattle.std.proofs.Common.{inl, inr, length-set}
use Rattle.std.proofs.lemmas.Bool.{cases_eq}
use Rattle.std.proofs.lemmas.List.{get_or-set_same, get_or-set_other}
use Rattle.numa_host_pages.specs.Summed.{both_pages}
use Rattle.numaplan_handles.proofs.flows.both_rows.Goals as goal

pub loop-node-preserved : goal.loop-node-preserved
loop-node-preserved c =
    let at = c.loop-node.node in
    let all : ℕ = c.saturating_add.result in
    let is : all ≡ both_pages (get_or c.loop-node.sum at 0) (get_or c.args.other.now at 0) =
    search rules in
    let here : at < length c.loop-node.sum = omega (
      arith,
      c.loop-node.invariant.long,
      c.loop-node-test.true,
    ) in
    record {
      long = length-set _ _ _ ∙ c.loop-node.invariant.long;
      done = λ node lt. elim (cases_eq node at) [
        | inl same ↦ ap (λ (k : ℕ). get_or (set c.loop-node.sum at all) k 0) same
            ∙ get_or-set_same c.loop-node.sum at all 0 here ∙ is
            ∙ ap (λ (k : ℕ). both_pages k (get_or c.args.other.now at 0))
            (c.loop-node.invariant.ahead at (omega arith))
            ∙ ap (λ (k : ℕ). both_pages (get_or c.args.one k 0)
            (get_or c.args.other.now k 0)) (sym same)
        | inr ne ↦ get_or-set_other c.loop-node.sum at node all 0 ne
            ∙ c.loop-node.invariant.done node (omega (arith, lt, ne))
      ];
      ahead = λ node le.
          get_or-set_other c.loop-node.sum at node all 0 (λ e. omega (arith, le, e))
          ∙ c.loop-node.invariant.ahead node (omega (arith, le));
    }

pub returns : goal.returns
returns c node small =
    c.loop-node.invariant.done node
    (omega (arith, small, c.loop-node.auto.node-end, c.loop-node-test.false))
