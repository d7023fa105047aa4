use Rattle.std.proofs.Common.{◌≡◌, ◌+◌, ℕ, List, Bool, true, false, cond, sym, ap, ◌∙◌, arith}
use Rattle.numa_mask.specs.NodeSet.{has}
use Rattle.numa_lanes.specs.Spans.{node_count}
use Rattle.numa_lanes.proofs.WithinLemmas.{passed_below, passed_more, passed_none, passed_all}
use Rattle.numa_lanes.proofs.within.count_between_in.Goals as goal
use Rattle.numa_lanes.proofs.within.count_between_in.Goals.{then-has, else-has}

pub loop-number-init : goal.loop-number-init
loop-number-init c = passed_none (has c.args.set.now) c.from-number.result c.args.block.now
    (λ k lt. omega (arith, c.requires.ends k lt))

pub loop-number-preserved : goal.loop-number-preserved
loop-number-preserved c =
    let test : ℕ → Bool = has c.args.set.now in
    let n : ℕ = c.loop-number.number in
    let span : List ℕ = c.args.block.now in
    let more : passed_below test (n + 1) span ≡ passed_below test n span + cond (test n)
    (node_count n span) 0 = passed_more test n span in
    elim c.if-has.branch [
      | then-has w ↦
          let yes : test n ≡ true = sym c.has.ensures ∙ w.if-has.true in
          let step : passed_below test (n + 1) span ≡ passed_below test n span + node_count n span =
          more ∙ ap (λ b. passed_below test n span + cond b (node_count n span) 0) yes in
          omega (arith, step, w.count_block-total.ensures, w.total-is, c.loop-number.invariant)
      | else-has w ↦
          let no : test n ≡ false = sym c.has.ensures ∙ w.if-has.false in
          let step : passed_below test (n + 1) span ≡ passed_below test n span + 0 = more
          ∙ ap (λ b. passed_below test n span + cond b (node_count n span) 0) no in
          omega (arith, step, w.total-is, c.loop-number.invariant)
    ]

pub returns : goal.returns
returns c =
    c.loop-number.invariant ∙ passed_all (has c.args.set.now) c.loop-number.number c.args.block.now
    (λ k lt. omega (arith, c.requires.ends k lt))
