use Rattle.std.proofs.Common.{◌≡◌, ◌≤◌, List, ℕ, length, replicate, map, Bool, eqb, ap, subst, sym}
use Rattle.std.proofs.Common.{◌∙◌, w8}
use Rattle.std.specs.Simd.Lanes.{sum_l, Each1, chunk, sel_l}
use Rattle.std.proofs.lemmas.Simd.{tops_compared, zip2_splat, length-chunk}
use Rattle.numa_lanes.proofs.LaneLemmas.{sel_ones, sel_ones-le, length-sel_ones}
use Rattle.numa_lanes.proofs.lanes.hits.Goals as goal

pub returns-clause-count : goal.returns-clause-count
returns-clause-count c =
    let xs : List ℕ = chunk c.args.at 32 c.args.block.now in
    let p : ℕ → Bool = λ x. eqb x c.args.node in
    let long : length xs ≡ 32 = length-chunk c.args.at 32 c.args.block.now c.requires in
    let is = tops_compared w8 eqb xs (replicate 32 c.args.node)
    ∙ zip2_splat eqb xs 32 c.args.node long in
    ap (λ ms. sum_l (sel_l ms (replicate 32 1) (replicate 32 0))) is
    ∙ ap (λ n. sum_l (sel_l (map p xs) (replicate n 1) (replicate n 0))) (sym long) ∙ sel_ones p xs

pub returns-clause-ones : goal.returns-clause-ones
returns-clause-ones c =
    let xs : List ℕ = chunk c.args.at 32 c.args.block.now in
    let p : ℕ → Bool = λ x. eqb x c.args.node in
    let long : length xs ≡ 32 = length-chunk c.args.at 32 c.args.block.now c.requires in
    let is = tops_compared w8 eqb xs (replicate 32 c.args.node)
    ∙ zip2_splat eqb xs 32 c.args.node long in
    let same = ap (λ ms. sel_l ms (replicate 32 1) (replicate 32 0)) is
    ∙ ap (λ n. sel_l (map p xs) (replicate n 1) (replicate n 0)) (sym long) in
    subst (λ l. Each1 (λ a. a ≤ 1) l) (sym same) (sel_ones-le p xs)

pub returns-clause-long : goal.returns-clause-long
returns-clause-long c =
    let xs : List ℕ = chunk c.args.at 32 c.args.block.now in
    let p : ℕ → Bool = λ x. eqb x c.args.node in
    let long : length xs ≡ 32 = length-chunk c.args.at 32 c.args.block.now c.requires in
    let is = tops_compared w8 eqb xs (replicate 32 c.args.node)
    ∙ zip2_splat eqb xs 32 c.args.node long in
    let same = ap (λ ms. sel_l ms (replicate 32 1) (replicate 32 0)) is
    ∙ ap (λ n. sel_l (map p xs) (replicate n 1) (replicate n 0)) (sym long) in
    ap length same ∙ length-sel_ones p xs ∙ long
