use Rattle.std.proofs.Common.{◌≡◌, ℕ, ◌∙◌, inl, inr, get_or, length-set, slice_index, subst, arith}
use Rattle.std.proofs.lemmas.Bool.{cases_lt}
use Rattle.std.proofs.Math.ListN.{set}
use Rattle.std.proofs.lemmas.List.{get_or-set_same, get_or-set_other}
use Rattle.numa_placed.specs.Tallies.{leave_on}
use Rattle.numa_placed.proofs.tally.leaving.Goals as goal

pub loop-node-preserved : goal.loop-node-preserved
loop-node-preserved c =
    let before = c.loop-node.sent in
    let at = c.loop-node.node in
    let target = c.leave_on.result in
    record {
      done = λ n lt. elim (cases_lt n at) [
        | inl early ↦ get_or-set_other before at n target 0 (λ e. omega arith)
            ∙ c.loop-node.invariant.done n early
        | inr late ↦
            let same : at ≡ n = omega arith in
            let here = get_or-set_same before at target 0
            (omega (arith, c.loop-node.invariant.long)) ∙ c.leave_on.ensures in
            subst (λ (k : ℕ). get_or (set before at target) k 0
            ≡ leave_on (slice_index c.args.targets.now) (slice_index c.args.counts.now) k) same here
      ];
      long = length-set _ _ _ ∙ c.loop-node.invariant.long;
    }

pub returns : goal.returns
returns c node small = c.loop-node.invariant.done node (omega arith)
