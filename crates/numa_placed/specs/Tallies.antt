-- How many pages a move takes from each node, where it is known only how many there are.
use Rattle.std.specs.Prelude.{ℕ, ◌==◌, if◌then◌else◌}

-- how many pages of a node have another to go to
abbrev pub leave_on : (ℕ → ℕ) → (ℕ → ℕ) → ℕ → ℕ
leave_on go count node = if go node == node then 0 else count node
