use Rattle.std.proofs.Common.{◌≡◌, ℕ, ◌∙◌, inl, inr, get_or, length-set, subst, arith}
use Rattle.std.proofs.lemmas.Bool.{cases_lt}
use Rattle.std.proofs.Math.ListN.{set}
use Rattle.std.proofs.lemmas.List.{get_or-set_same, get_or-set_other}
use Rattle.numa_placed.proofs.targets.own.Goals as goal

pub loop-node-preserved : goal.loop-node-preserved
loop-node-preserved c =
    let before = c.loop-node.nodes in
    let at = c.loop-node.node in
    record {
      done = λ n lt. elim (cases_lt n at) [
        | inl early ↦ get_or-set_other before at n at 0 (λ e. omega arith)
            ∙ c.loop-node.invariant.done n early
        | inr late ↦
            let same : at ≡ n = omega arith in
            subst (λ (k : ℕ). get_or (set before at at) k 0 ≡ k) same
            (get_or-set_same before at at 0 (omega (arith, c.loop-node.invariant.long)))
      ];
      long = length-set _ _ _ ∙ c.loop-node.invariant.long;
    }

pub returns : goal.returns
returns c node small = c.loop-node.invariant.done node (omega arith)
