-- One set of nodes inside another.
use Rattle.std.specs.Prelude.{◌≡◌, ℕ, true}
use Rattle.numa_mask.specs.NodeSet.{has}

-- each member of the set is a member of the other
abbrev pub IsWithin : ℕ → ℕ → Type 0
IsWithin set other = (node : ℕ) → has set node ≡ true → has other node ≡ true

-- no two nodes are members
abbrev pub IsAtMostOne : ℕ → Type 0
IsAtMostOne set = (one other : ℕ) → has set one ≡ true → has set other ≡ true → one ≡ other
