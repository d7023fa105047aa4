-- A set of nodes is a number: node n is a member where bit n is 1. The nodes of a machine are below
-- 256. The operations are those of the Linux kernel's bitmaps; text in quotes is from the
-- comments in its lib/bitmap.c.
use Rattle.std.specs.Prelude.{ℕ, ◌%◌, ◌^◌, ◌&&◌, not, Bool, Option, List, length}
use Rattle.std.specs.Prelude.{map, filter, fold, count_by, nat_lt, ◌==◌, if◌then◌else◌}
use Rattle.std.specs.Prelude.{bit_and, bit_or, slice_get, slice_index}
use Rattle.std.specs.Int.{bit_at}
use Rattle.std.specs.List.{filter_map, range_with_len}

-- whether the node is a member
abbrev pub has : ℕ → ℕ → Bool
has set node = bit_at set node == 1

-- the members, rising
unfoldable pub members : ℕ → List ℕ
members set = filter (has set) (range_with_len 0 256)

-- how many members there are
abbrev pub weight_of : ℕ → ℕ
weight_of set = length (members set)

-- the n-th member, counted from 0: the one with exactly n smaller members
abbrev pub nth_member : ℕ → ℕ → Option ℕ
nth_member set n = slice_get (members set) n

-- how many members are smaller than the node
abbrev pub ordinal_of : ℕ → ℕ → ℕ
ordinal_of set node = count_by (λ m. nat_lt m node) (members set)

-- the set with one more node
abbrev pub with_node : ℕ → ℕ → ℕ
with_node set node = bit_or set (2 ^ node)

-- the set of the nodes of a list
abbrev pub set_of : List ℕ → ℕ
set_of nodes = fold with_node 0 nodes

-- the members of both
abbrev pub both : ℕ → ℕ → ℕ
both = bit_and

-- bitmap_fold: "For each bit oldbit in @orig, set bit oldbit mod @sz in @dst."
abbrev pub fold_set : ℕ → ℕ → ℕ
fold_set set size = set_of (map (λ m. m % size) (members set))

-- bitmap_onto: "Set the n-th bit of @dst iff there exists some m such that the n-th bit of @relmap
-- is set, the m-th bit of @orig is set, and the n-th bit of @relmap is also the m-th _set_ bit of
-- @relmap." So member m gives the m-th member of the other set, where there is one.
abbrev pub onto_set : ℕ → ℕ → ℕ
onto_set set other = set_of (filter_map (nth_member other) (members set))

-- bitmap_remap, for one node: "map the position of the n-th set bit in @old to the position of the
-- m-th set bit in @new, where m == n % w", w being the weight of new; "the positions of unset bits
-- in @old are mapped to themselves", and so are all where new is empty
abbrev pub node_after : ℕ → ℕ → ℕ → ℕ
node_after old new node = if has old node && not (new == 0)
    then slice_index (members new) (ordinal_of old node % weight_of new) else node

-- bitmap_remap: each member, moved
abbrev pub remap_set : ℕ → ℕ → ℕ → ℕ
remap_set set old new = set_of (map (node_after old new) (members set))
