use Rattle.std.proofs.Common.{◌≤◌, ◌+◌, ◌*◌, ◌<◌, ◌^◌, length, ◌∙◌, sym, ap, subst, arith, w16}
use Rattle.std.proofs.Common.{Fits, zero-add}
use Rattle.std.specs.Simd.Lanes.{sum_l, fold_l}
use lib.Lanes.{Steps}
use Rattle.std.proofs.lemmas.Simd.{sum_fits, sum_bound, bytes_below, fold-sum}
use Rattle.numa_lanes.proofs.LaneLemmas.{map_same}
use Rattle.numa_lanes.proofs.lanes.sum_of_lanes.Goals as goal

pub overflow_add-sums : goal.overflow_add-sums
overflow_add-sums c =
    let bound : sum_l c.args.sums ≤ 255 * length c.args.sums =
    sum_bound 255 c.args.sums (bytes_below c.args.sums c.fits-sums.1) in
    let small : 0 + sum_l c.args.sums < 2 ^ 16 = omega (arith, c.requires) in
    subst (λ l. Steps (λ s x. Fits w16 (s + x)) (λ s x. s + x) 0 l) (sym (map_same c.args.sums))
    (sum_fits w16 0 c.args.sums small)

pub returns : goal.returns
returns c = c.from.ensures ∙ ap (fold_l (λ s x. s + x) 0) (map_same c.args.sums)
    ∙ fold-sum 0 c.args.sums ∙ zero-add (sum_l c.args.sums)
