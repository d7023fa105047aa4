use Rattle.std.proofs.Common.{◌≡◌, ◌*◌, ◌+◌, ◌==◌, ℕ, Bool, List, take, drop, count_by, cond, arith}
use Rattle.std.proofs.Common.{◌∙◌, ap}
use Rattle.std.proofs.lemmas.List.Sums.{sum_by-take-drop}
use Rattle.numa_lanes.proofs.count.count_node.Goals as goal

pub loop-rest-preserved : goal.loop-rest-preserved
loop-rest-preserved c =
    let p : ℕ → Bool = λ x. x == c.args.node in
    let n : ℕ = c.min-rounds.result * 32 in
    let xs : List ℕ = c.loop-rest.rest.now in
    let front : c.count_block-total.result ≡ count_by p (take n xs) = c.count_block-total.ensures
    ∙ ap (count_by p) c.split_at.ensures.front in
    let back : count_by p c.split_at.result.1.now ≡ count_by p (drop n xs) =
    ap (count_by p) c.split_at.ensures.back in
    let both : count_by p (take n xs) + count_by p (drop n xs) ≡ count_by p xs =
    sum_by-take-drop (λ x. cond (p x) 1 0) xs n in
    omega (arith, c.loop-rest.invariant)
