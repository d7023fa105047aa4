-- A span of pages is the list of their nodes: entry k is the node of page k.
use Rattle.std.specs.Prelude.{◌≡◌, ℕ, ◌+◌, ◌%◌, ◌<◌, ◌≤◌, ◌==◌, List, length}
use Rattle.std.specs.Prelude.{count_by, slice_index, EachIndex}
use Rattle.numa_mask.specs.NodeSet.{has}

-- each page is on the node
abbrev pub IsFilled : ℕ → List ℕ → Type 0
IsFilled node span = EachIndex span (λ k. slice_index span k ≡ node)

-- page k is on the node whose turn is start + k, in a cycle that begins again after its last entry
abbrev pub IsCycled : List ℕ → ℕ → List ℕ → Type 0
IsCycled cycle start span =
    EachIndex span (λ k. slice_index span k ≡ slice_index cycle ((start + k) % length cycle))

-- how many pages are on the node
abbrev pub node_count : ℕ → List ℕ → ℕ
node_count node span = count_by (λ entry. entry == node) span

-- how many pages are on a node of the set
abbrev pub set_count : ℕ → List ℕ → ℕ
set_count set span = count_by (has set) span

-- each page is on one of the nodes from the least to the greatest
abbrev pub IsBetween : ℕ → ℕ → List ℕ → Type 0
IsBetween least greatest span = EachIndex span (λ k. (least ≤ slice_index span k)
    × (slice_index span k ≤ greatest))

-- the new count of each node is the old one with the pages of the span that are on it
abbrev pub Adds : List ℕ → List ℕ → List ℕ → Type 0
Adds span old new = (node : ℕ) → node < 256 → slice_index new node
    ≡ slice_index old node + node_count node span
