-- The last turns, of at most one for each node: what the code does, node by node.
use Rattle.std.specs.Prelude.{ℕ, ◌-◌, ◌==◌, List, [], ◌∷◌, if◌then◌else◌, min, nat_lt, slice_index}
use Rattle.std.specs.List.{sum_by}
use Rattle.numa_mask.specs.NodeSet.{has}
use Rattle.numa_pools.specs.Turns.{one_less_at}

-- the room that is left, and the node that is next
pub record Round : Type 0 where
  pub room : List ℕ
  pub next : ℕ

abbrev pub round_of : List ℕ → ℕ → Round
round_of room next = record { room = room; next = next }

-- the nodes of a set among these take a turn each, if they have room, until so many did; the first
-- of all is next where nobody is left
unfoldable pub round : ℕ → List ℕ → ℕ → ℕ → List ℕ → Round
round nodes [] first left room = round_of room first
round nodes (node ∷ rest) first left room =
    if has nodes node
    then if left == 0 then round_of room node
    else if nat_lt 0 (slice_index room node)
    then round nodes rest first (left - 1) (one_less_at room node)
    else round nodes rest first left room
    else round nodes rest first left room

-- how many turns nodes take, where each takes at most so many
abbrev pub turns_within : ℕ → List ℕ → ℕ
turns_within level room = sum_by (λ pages. min pages level) room
