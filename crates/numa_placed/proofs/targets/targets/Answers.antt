use Rattle.std.proofs.Common.{◌≡◌, ℕ, ◌∙◌, inl, inr, get_or, length, length-set, ap, sym, subst}
use Rattle.std.proofs.Common.{Contains, ◌∷◌, arith, false}
use Rattle.std.proofs.lemmas.Bool.{cases_eq}
use Rattle.std.proofs.Math.ListN.{set}
use Rattle.std.proofs.lemmas.List.{get_or-set_same, get_or-set_other}
use Rattle.numa_mask.specs.NodeSet.{has, members}
use Rattle.numa_placed.specs.Moves.{moved_node}
use Rattle.numa_placed.proofs.MovedNodes.{absent, not-in, outside}
use Rattle.numa_placed.proofs.targets.targets.Goals as goal

pub loop-node-init : goal.loop-node-init
loop-node-init c =
    let start : c.into_iter-node-iterator.result ≡ c.args.old.now =
    c.into_iter-node-iterator.ensures.into_iter_gives ∙ c.iter-node-items.ensures.members in
    record {
      done = λ n small out.
          let lacks : has c.args.old.now n ≡ false = absent c.args.old.now n small
          (subst (λ (s : ℕ). Contains (members s) n → ⊥) start out) in
          c.own-targets.ensures n small ∙ sym (outside c.args.old.now c.args.new.now n lacks);
      long = omega arith;
    }

pub loop-node-preserved : goal.loop-node-preserved
loop-node-preserved c =
    let before = c.loop-node.targets in
    let at = c.number-number.result in
    let target = c.moved_node.result in
    let node : at ≡ c.in-Some.node = c.number-number.ensures.number in
    record {
      done = λ n small out. elim (cases_eq n at) [
        | inl same ↦
            let here = get_or-set_same before at target 0
            (omega (arith, c.loop-node.invariant.long)) ∙ c.moved_node.ensures in
            subst (λ (k : ℕ). get_or (set before at target) k 0
            ≡ moved_node c.args.old.now c.args.new.now k) (sym same) here
        | inr other ↦ get_or-set_other before at n target 0 other
            ∙ c.loop-node.invariant.done n small
            (not-in c.in-Some.node n (members c.next.new.self) (members c.loop-node.node-iterator)
            c.in-Some.ensures.steps out (λ e. other (e ∙ sym node)))
      ];
      long = length-set _ _ _ ∙ c.loop-node.invariant.long;
    }

pub returns : goal.returns
returns c node small = c.loop-node.invariant.done node small
    (λ there. absurd (omega (arith, there.1, ap (length {A = ℕ}) c.in-None.ensures.steps.0)))
