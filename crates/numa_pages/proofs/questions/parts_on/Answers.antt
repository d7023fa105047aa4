use Rattle.std.proofs.Common.{ℕ, ◌*◌, ◌<◌, get_or, length, arith, ◌∙◌, ap, sym, set, inl, inr}
use Rattle.std.proofs.Common.{length-set}
use Rattle.std.proofs.lemmas.Bool.{cases_eq}
use Rattle.std.proofs.lemmas.List.{get_or-set_same, get_or-set_other}
use Rattle.numa_pages.proofs.questions.parts_on.Goals as goal

pub overflow_mul-parts : goal.overflow_mul-parts
overflow_mul-parts c =
    omega (
      arith,
      c.loop-node.invariant.ahead c.loop-node.node (omega arith),
      c.requires c.loop-node.node c.loop-node-test.true,
    )

pub loop-node-preserved : goal.loop-node-preserved
loop-node-preserved c =
    let at = c.loop-node.node in
    let more : ℕ = get_or c.loop-node.parts at 0 * 512 in
    let here : at < length c.loop-node.parts = omega (
      arith,
      c.loop-node.invariant.long,
      c.loop-node-test.true,
    ) in
    record {
      long = length-set _ _ _ ∙ c.loop-node.invariant.long;
      done = λ node lt. elim (cases_eq node at) [
        | inl is ↦ ap (λ (k : ℕ). get_or (set c.loop-node.parts at more) k 0) is
            ∙ get_or-set_same c.loop-node.parts at more 0 here
            ∙ omega (arith, c.loop-node.invariant.ahead at (omega arith))
            ∙ ap (λ (k : ℕ). 512 * get_or c.args.pages k 0) (sym is)
        | inr ne ↦ get_or-set_other c.loop-node.parts at node more 0 ne
            ∙ c.loop-node.invariant.done node (omega (arith, lt, ne))
      ];
      ahead = λ node le.
          get_or-set_other c.loop-node.parts at node more 0 (λ e. omega (arith, le, e))
          ∙ c.loop-node.invariant.ahead node (omega (arith, le));
    }

pub returns : goal.returns
returns c node small =
    c.loop-node.invariant.done node
    (omega (arith, small, c.loop-node.auto.node-end, c.loop-node-test.false))
