use Rattle.std.proofs.Common.{◌≡◌, ℕ, ◌-◌, ◌*◌, arith, ◌∙◌, inl, inr, length-set, get_or, subst}
use Rattle.std.proofs.lemmas.Bool.{cases_lt}
use Rattle.std.proofs.Math.ListN.{set}
use Rattle.std.proofs.lemmas.List.{get_or-set_same, get_or-set_other}
use Rattle.numa_reports.proofs.turns.all_left_behind.Goals as goal

pub left_behind-requires : goal.left_behind-requires
left_behind-requires c = c.requires c.loop-node.node (omega arith)

pub loop-node-preserved : goal.loop-node-preserved
loop-node-preserved c =
    let old = c.loop-node.left in
    let at = c.loop-node.node in
    let fewer = c.left_behind.result in
    record {
      done = λ n lt. elim (cases_lt n at) [
        | inl early ↦ get_or-set_other old at n fewer 0 (λ e. omega arith)
            ∙ c.loop-node.invariant.done n early
        | inr late ↦
            let same : at ≡ n = omega arith in
            let here = get_or-set_same old at fewer 0 (omega (arith, c.loop-node.invariant.long))
            ∙ c.left_behind.ensures in
            subst (λ (k : ℕ). get_or (set old at fewer) k 0 ≡ get_or c.args.after.now k 0
            - c.args.times * (get_or c.args.before.now k 0 - get_or c.args.after.now k 0)) same
            here
      ];
      long = length-set _ _ _ ∙ c.loop-node.invariant.long;
    }

pub returns-clause-left : goal.returns-clause-left
returns-clause-left c node small = c.loop-node.invariant.done node (omega arith)
