-- Counts by node.
use Rattle.std.specs.Prelude.{◌≡◌, ℕ, ◌+◌, ◌^◌, ◌<◌, List, slice_index}

-- the new count of each node is its old one and so many more
abbrev pub Adds : List ℕ → List ℕ → (ℕ → ℕ) → Type 0
Adds old new more = (node : ℕ) → node < 256 → slice_index new node
    ≡ slice_index old node + more node

-- each count has room for so many more
abbrev pub HasRoom : List ℕ → (ℕ → ℕ) → Type 0
HasRoom counts more = (node : ℕ) → node < 256 → slice_index counts node + more node < 2 ^ 64
