-- The indexes of objects' pages. (Those below 2^37 are of other pages.)
use Rattle.std.specs.Prelude.{ℕ, ◌+◌, ◌-◌, ◌*◌, ◌/◌, ◌%◌, ◌^◌, Bool, nat_le}

-- whether an index is that of a page of an object
unfoldable pub is_shared : ℕ → Bool
is_shared index = nat_le (2 ^ 37) index

-- the index of a page with this turn, of the object in this slot; a slot has 2^36 indexes
abbrev pub index_at : ℕ → ℕ → ℕ
index_at slot turn = 2 ^ 37 + slot * 2 ^ 36 + turn

-- the slot of an index
unfoldable pub slot_of : ℕ → ℕ
slot_of index = (index - 2 ^ 37) / 2 ^ 36

-- its turn: the number of the object's inode plus the place
unfoldable pub turn_of : ℕ → ℕ
turn_of index = (index - 2 ^ 37) % 2 ^ 36
