use Rattle.std.proofs.Common.{◌≡◌, ℕ, ◌∙◌, inl, inr, get_or, length-set, subst, arith, ap}
use Rattle.std.proofs.Common.{Bool}
use Rattle.std.specs.Prelude.{if◌then◌else◌}
use Rattle.std.proofs.lemmas.Bool.{cases_lt}
use Rattle.std.proofs.Math.ListN.{set}
use Rattle.std.proofs.lemmas.List.{get_or-set_same, get_or-set_other}
use Rattle.numa_mask.specs.NodeSet.{has}
use Rattle.numa_placed.proofs.course.waiting.Goals as goal

pub loop-node-preserved : goal.loop-node-preserved
loop-node-preserved c =
    let before = c.loop-node.waits in
    let at = c.loop-node.node in
    let flag = c.flag.result in
    record {
      done = λ n lt. elim (cases_lt n at) [
        | inl early ↦ get_or-set_other before at n flag 0 (λ e. omega arith)
            ∙ c.loop-node.invariant.done n early
        | inr late ↦
            let same : at ≡ n = omega arith in
            let here = get_or-set_same before at flag 0
            (omega (arith, c.loop-node.invariant.long)) ∙ c.flag.ensures
            ∙ ap (λ (b : Bool). if b then 1 else 0) c.has.ensures in
            subst (λ (k : ℕ). get_or (set before at flag) k 0
            ≡ (if has c.args.set.now k then 1 else 0)) same here
      ];
      long = length-set _ _ _ ∙ c.loop-node.invariant.long;
    }

pub returns : goal.returns
returns c node small = c.loop-node.invariant.done node (omega arith)
