use Rattle.std.proofs.Common.{◌≡◌, ◌∙◌, ℕ, ◌-◌, ◌++◌, List, [], ap, arith, replicate, take}
use Rattle.std.proofs.lemmas.List.{take_all}
use Rattle.std.specs.Vec.{vec_len}
use Rattle.numa_moves.proofs.Totals.{all-none}
use Rattle.numa_moves.proofs.sums.empty_table.Goals as goal

pub returns : goal.returns
returns c =
    let n : ℕ = c.args.entries in
    let all : ◌≡◌ {A = ℕ} (n - vec_len c.new-table.result) n =
    omega (arith, c.new-table.ensures.len) in
    all-none c.resize.new.self.items n (c.in_ok-resize.ensures.items
    ∙ ((λ i. take n (c.new-table.ensures.items i) ++ replicate (all i) 0)
    ∙ ap (λ (l : List ℕ). l ++ replicate n 0) (take_all {A = ℕ} n [] (omega arith))))
