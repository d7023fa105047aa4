use Rattle.std.proofs.Common.{◌≡◌, ◌*◌, ◌+◌, ℕ, Bool, List, take, drop, count_by, cond, arith, ◌∙◌}
use Rattle.std.proofs.Common.{ap}
use Rattle.std.proofs.lemmas.List.Sums.{sum_by-take-drop}
use Rattle.numa_mask.specs.NodeSet.{has}
use Rattle.numa_lanes.proofs.within.count_in.Goals as goal

pub loop-rest-preserved : goal.loop-rest-preserved
loop-rest-preserved c =
    let test : ℕ → Bool = has c.args.set.now in
    let pages : ℕ = c.min-rounds.result * 32 in
    let rest : List ℕ = c.loop-rest.rest.now in
    let front : c.count_block_in-total.result ≡ count_by test (take pages rest) =
    c.count_block_in-total.ensures ∙ ap (count_by test) c.split_at.ensures.front in
    let back : count_by test c.split_at.result.1.now ≡ count_by test (drop pages rest) =
    ap (count_by test) c.split_at.ensures.back in
    let both : count_by test (take pages rest) + count_by test (drop pages rest)
    ≡ count_by test rest = sum_by-take-drop (λ x. cond (test x) 1 0) rest pages in
    omega (arith, c.loop-rest.invariant)
