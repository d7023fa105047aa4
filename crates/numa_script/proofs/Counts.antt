-- Nodes with their pages, said one after the other.
use Rattle.std.proofs.Common.{◌≡◌, ℕ, ◌+◌, List, [], ◌++◌, refl, ap}
use Rattle.std.specs.List.{flat_map, range_with_len}
use Rattle.numa_machine.proofs.Nodes.{flat_map-range_more}
use Rattle.numa_requests.specs.NodeCounts.{node_text, nodes_text}

-- the nodes below a number
pub counts_below : (ℕ → ℕ) → ℕ → List ℕ
counts_below pages n = flat_map (λ node. node_text node (pages node)) (range_with_len 0 n)

pub counts-none : (pages : ℕ → ℕ) → counts_below pages 0 ≡ []
unfolding counts_below
counts-none pages = refl

pub counts-more : (pages : ℕ → ℕ) (n : ℕ) → counts_below pages (n + 1) ≡ counts_below pages n
    ++ node_text n (pages n)
unfolding counts_below
counts-more pages n = flat_map-range_more (λ node. node_text node (pages node)) n

pub counts-all : (pages : ℕ → ℕ) (n : ℕ) → n ≡ 256 → counts_below pages n ≡ nodes_text pages
unfolding counts_below nodes_text
counts-all pages n e =
    ap (λ (k : ℕ). flat_map (λ node. node_text node (pages node)) (range_with_len 0 k)) e
