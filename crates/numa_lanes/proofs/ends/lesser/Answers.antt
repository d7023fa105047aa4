use Rattle.std.proofs.Common.{◌≡◌, ◌≤◌, ◌+◌, ℕ, List, length, get_or, ltb, ap, sym, ◌∙◌, subst}
use Rattle.std.proofs.Common.{arith, w8}
use Rattle.std.specs.Simd.Lanes.{sel_l, zip2, chunk}
use Rattle.std.proofs.lemmas.Simd.{tops_compared, length-chunk, get_or-chunk, length-zip2}
use Rattle.std.proofs.lemmas.Simd.{length-sel_l}
use Rattle.numa_lanes.proofs.EndLemmas.{lesser_lanes}
use Rattle.numa_lanes.proofs.ends.lesser.Goals as goal

pub returns-clause-lanes : goal.returns-clause-lanes
returns-clause-lanes c j lt =
    let xs : List ℕ = c.args.lanes in
    let ys : List ℕ = chunk c.args.at 32 c.args.block.now in
    let long : length ys ≡ 32 = length-chunk c.args.at 32 c.args.block.now c.requires.room in
    subst (λ ms. get_or (sel_l ms xs ys) j 0 ≤ get_or xs j 0) (sym (tops_compared w8 ltb xs ys))
    (lesser_lanes xs ys j (c.requires.long ∙ sym long) (omega arith)).0

pub returns-clause-entries : goal.returns-clause-entries
returns-clause-entries c j lt =
    let xs : List ℕ = c.args.lanes in
    let ys : List ℕ = chunk c.args.at 32 c.args.block.now in
    let long : length ys ≡ 32 = length-chunk c.args.at 32 c.args.block.now c.requires.room in
    let entry : get_or ys j 0 ≡ get_or c.args.block.now (c.args.at + j) 0 =
    get_or-chunk c.args.at 32 c.args.block.now j 0 lt in
    subst (λ ms. get_or (sel_l ms xs ys) j 0 ≤ get_or c.args.block.now (c.args.at + j) 0)
    (sym (tops_compared w8 ltb xs ys))
    (subst (λ y. get_or (sel_l (zip2 ltb xs ys) xs ys) j 0 ≤ y) entry
    (lesser_lanes xs ys j (c.requires.long ∙ sym long) (omega arith)).1)

pub returns-clause-long : goal.returns-clause-long
returns-clause-long c =
    let xs : List ℕ = c.args.lanes in
    let ys : List ℕ = chunk c.args.at 32 c.args.block.now in
    let long : length ys ≡ 32 = length-chunk c.args.at 32 c.args.block.now c.requires.room in
    let same : length xs ≡ length ys = c.requires.long ∙ sym long in
    let tests : length (zip2 ltb xs ys) ≡ length xs = length-zip2 ltb xs ys same in
    ap (λ ms. length (sel_l ms xs ys)) (tops_compared w8 ltb xs ys)
    ∙ length-sel_l (zip2 ltb xs ys) xs ys tests (tests ∙ same) ∙ tests ∙ c.requires.long
