use Rattle.std.proofs.Common.{◌≡◌, ℕ, ◌+◌, ◌<◌, ◌^◌, arith, ◌∙◌, inl, inr, length-set, get_or}
use Rattle.std.proofs.Common.{subst}
use Rattle.std.proofs.lemmas.Bool.{cases_lt}
use Rattle.std.proofs.Math.ListN.{set}
use Rattle.std.proofs.lemmas.List.{get_or-set_same, get_or-set_other}
use Rattle.numa_reports.proofs.absent.add_counts.Goals as goal

pub loop-node-preserved : goal.loop-node-preserved
loop-node-preserved c =
    let old = c.loop-node.all in
    let at = c.loop-node.node in
    let both = c.saturating_add.result in
    record {
      done = λ n lt. elim (cases_lt n at) [
        | inl early ↦ λ room. get_or-set_other old at n both 0 (λ e. omega arith)
            ∙ c.loop-node.invariant.done n early room
        | inr late ↦
            let same : at ≡ n = omega arith in
            let put = get_or-set_same old at both 0 (omega (arith, c.loop-node.invariant.long)) in
            let left = c.loop-node.invariant.left at (omega arith) in
            subst (λ (k : ℕ). get_or c.args.all.now k 0 + get_or c.args.counts.now k 0 < 2 ^ 64
            → get_or (set old at both) k 0
            ≡ get_or c.args.all.now k 0 + get_or c.args.counts.now k 0) same
            (λ room. omega (arith, put, left, c.saturating_add.ensures, room))
      ];
      left = λ n from. get_or-set_other old at n both 0 (λ e. omega arith)
          ∙ c.loop-node.invariant.left n (omega arith);
      long = length-set _ _ _ ∙ c.loop-node.invariant.long;
    }

pub returns : goal.returns
returns c node small room = c.loop-node.invariant.done node (omega arith) room
