-- Nodes that take turns, one page at a time.
use Rattle.std.specs.Prelude.{ℕ, zero, suc, ◌+◌, ◌-◌, List, [], ◌∷◌, ◌++◌, filter}
use Rattle.std.specs.Prelude.{if◌then◌else◌, min, nat_lt, set, slice_index}
use Rattle.std.specs.List.{range_with_len}
use Rattle.numa_mask.specs.NodeSet.{has}
use Rattle.numa_pools.specs.declared.shares.Shares.{Shares}

-- all nodes from one on, and then those below it
abbrev pub around : ℕ → List ℕ
around mark = range_with_len mark (256 - mark) ++ range_with_len 0 mark

-- the nodes of a set in the order of their turns: those from the mark on, and then those below it
unfoldable pub ring : ℕ → ℕ → List ℕ
ring nodes mark = filter (has nodes) (around mark)

-- nodes that take turns: how many pages each node has room for, and the nodes in turn
pub record Turns : Type 0 where
  pub room : List ℕ
  pub ring : List ℕ

abbrev pub turns_of : List ℕ → List ℕ → Turns
turns_of room ring = record { room = room; ring = ring }

-- one page less at a node
abbrev pub one_less_at : List ℕ → ℕ → List ℕ
one_less_at room node = set room node (slice_index room node - 1)

-- a turn, when these nodes were passed over: the next node with room takes a page, and stands
-- behind those that were passed; where none has room, nothing is taken
abbrev pub turn_behind : List ℕ → List ℕ → List ℕ → Turns
turn_behind room passed [] = turns_of room passed
turn_behind room passed (node ∷ nodes) =
    if nat_lt 0 (slice_index room node)
    then turns_of (one_less_at room node) (nodes ++ (passed ++ node ∷ []))
    else turn_behind room (passed ++ node ∷ []) nodes

-- a turn
unfoldable pub turn : Turns → Turns
turn turns = turn_behind turns.room [] turns.ring

-- so many turns, one after the other
abbrev pub after_turns : ℕ → Turns → Turns
after_turns zero turns = turns
after_turns (suc times) turns = after_turns times (turn turns)

-- ---- numbers of nodes, node by node

-- the numbers of the nodes of a set, and 0 for the others, where the first number is this node's
abbrev pub on_from : ℕ → ℕ → List ℕ → List ℕ
on_from nodes first [] = []
on_from nodes first (x ∷ xs) = (if has nodes first then x else 0) ∷ on_from nodes (first + 1) xs

unfoldable pub on : ℕ → List ℕ → List ℕ
on nodes xs = on_from nodes 0 xs

-- what two numbers of each node give
abbrev pub each : (ℕ → ℕ → ℕ) → List ℕ → List ℕ → List ℕ
each f [] ys = []
each f (x ∷ xs) [] = []
each f (x ∷ xs) (y ∷ ys) = f x y ∷ each f xs ys

abbrev pub plus : List ℕ → List ℕ → List ℕ
plus = each (λ x y. x + y)

abbrev pub less : List ℕ → List ℕ → List ℕ
less = each (λ x y. x - y)

abbrev pub least : List ℕ → List ℕ → List ℕ
least = each min

-- ---- what so many turns give

-- the mark after so many turns: it stays where nobody looks for a node, and is next in turn else
abbrev pub mark_after : ℕ → ℕ → List ℕ → ℕ
mark_after zero mark ring = mark
mark_after (suc times) mark ring = slice_index ring 0

-- what each node took
abbrev pub shares_by : ℕ → ℕ → List ℕ → Turns → Shares
shares_by times mark room turns = record {
  taken = less room turns.room;
  mark = mark_after times mark turns.ring;
}

-- so many pages, which the nodes of a set take in turn from the mark on, as far as they have room
unfoldable pub in_turn : ℕ → ℕ → ℕ → List ℕ → Shares
in_turn times nodes mark room =
    shares_by times mark (on nodes room)
    (after_turns times (turns_of (on nodes room) (ring nodes mark)))
