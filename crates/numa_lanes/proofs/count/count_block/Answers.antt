use Rattle.std.proofs.Common.{◌≡◌, ◌*◌, ◌+◌, ◌==◌, ℕ, Bool, List, take, count_by, arith, ◌∙◌, ap}
use Rattle.std.proofs.Common.{sym}
use Rattle.std.specs.Simd.Lanes.{sum_l}
use Rattle.numa_lanes.proofs.LaneLemmas.{count_by-more}
use Rattle.numa_lanes.proofs.count.count_block.Goals as goal

pub loop-round-preserved : goal.loop-round-preserved
loop-round-preserved c =
    let p : ℕ → Bool = λ x. x == c.args.node in
    let xs : List ℕ = c.args.block.now in
    let more = count_by-more p xs (c.loop-round.round * 32) 32 in
    let next : c.loop-round.round * 32 + 32 ≡ (c.loop-round.round + 1) * 32 = omega arith in
    record {
      sum = c.add_lanes-sums.ensures.sum ∙ ap (λ n. n + sum_l c.hits.result)
          c.loop-round.invariant.sum
          ∙ ap (λ n. count_by p (take (c.loop-round.round * 32) xs) + n) c.hits.ensures.count
          ∙ sym more ∙ ap (λ n. count_by p (take n xs)) next;
      most = c.add_lanes-sums.ensures.most;
      long = c.add_lanes-sums.ensures.long;
    }
