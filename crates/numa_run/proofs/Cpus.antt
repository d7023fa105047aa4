-- All nodes of so many, one more at a time.
use Rattle.std.proofs.Common.{◌≡◌, ℕ, ◌+◌, [], ◌∷◌, ap, ◌∙◌}
use Rattle.std.proofs.lemmas.List.Sums.{fold-append}
use Rattle.std.specs.List.{range_with_len}
use Rattle.numa_mask.specs.NodeSet.{set_of, with_node}
use Rattle.numa_compile.proofs.RowSteps.{range-more}

pub all_nodes_more : (n : ℕ) → set_of (range_with_len 0 (n + 1))
    ≡ with_node (set_of (range_with_len 0 n)) n
all_nodes_more n = ap set_of (range-more n) ∙ fold-append with_node 0 (range_with_len 0 n) (n ∷ [])
