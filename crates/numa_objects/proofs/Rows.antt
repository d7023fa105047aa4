-- Worked rows: indexes, and policies of places. A set is the number of its bits.
use Rattle.std.proofs.Common.{◌≡◌, ℕ, ◌+◌, true, Some, None, List, [], ◌∷◌, refl}
use Rattle.numa_mask.specs.NodeSet.{members}
use Rattle.numa_machine.specs.Weights.{interleave_node}
use Rattle.numa_mode.specs.Policy.{PolicyRecord}
use Rattle.numa_mode.specs.declared.modes.Mode.{Mode}
use Rattle.numa_mode.specs.declared.modes.Mode.TheVariants.{Bind, Preferred}
use Rattle.numa_mode.specs.declared.modes.NodeFlag.TheVariants.{Plain}
use Rattle.numa_ranges.specs.declared.run.Run.{Run}
use Rattle.numa_objects.specs.Changes.{add_cause}
use Rattle.numa_objects.specs.Counting.{overwritten}
use Rattle.numa_objects.specs.Objects.{ObjectData, shared_policy, slot_named}
use Rattle.numa_objects.specs.Spots.{index_at, is_shared, slot_of, turn_of}
use Rattle.numa_objects.specs.declared.fault.ObjectFault.TheVariants.{ObjectExists, BadInode}

abbrev policy : Mode → ℕ → PolicyRecord
policy mode set = record {
  spec = record { mode = mode; flag = Plain; mask = set };
  effective = set;
  home = None;
  of_object = true;
}

-- so many places from this one on with a policy
abbrev places : ℕ → ℕ → PolicyRecord → Run PolicyRecord
places first pages r = record { first = first; pages = pages; index = first; value = r }

-- an object of inode 1024, of which 3 places from the third on are bound to node 2, and one of
-- inode 1027
abbrev objects : List ObjectData
objects = record {
  name = 1;
  inode = 1024;
  policies = places 3 3 (policy Bind 0b100) ∷ [];
} ∷ record { name = 7; inode = 1027; policies = [] } ∷ []

-- ---- the index is INODE plus the place, whoever maps the object

row-turn : turn_of (index_at 0 (1024 + 1)) ≡ 1025
unfolding turn_of
row-turn = refl

row-other_turn : turn_of (index_at 1 (1027 + 13)) ≡ 1040
unfolding turn_of
row-other_turn = refl

row-slot : slot_of (index_at 1 (1027 + 13)) ≡ 1
unfolding slot_of
row-slot = refl

row-named : slot_named 7 objects ≡ Some 1
row-named = refl

-- place 1 of the first, interleaved over 0 and 1, begins with node 1
row-interleaved : interleave_node 0b11 (turn_of (index_at 0 (1024 + 1))) ≡ 1
unfolding turn_of interleave_node members
row-interleaved = refl

-- places 12 and 13 of the second, over 0 to 2, with 1 and with 2, whatever is allowed
row-twelfth : interleave_node 0b111 (turn_of (index_at 1 (1027 + 12))) ≡ 1
unfolding turn_of interleave_node members
row-twelfth = refl

row-thirteenth : interleave_node 0b111 (turn_of (index_at 1 (1027 + 13))) ≡ 2
unfolding turn_of interleave_node members
row-thirteenth = refl

-- ---- an mbind sets the object's policy, for all

row-bound : shared_policy objects (index_at 0 (1024 + 3)) ≡ Some (policy Bind 0b100)
unfolding is_shared slot_of turn_of
row-bound = refl

row-before : shared_policy objects (index_at 0 (1024 + 2)) ≡ None
unfolding is_shared slot_of turn_of
row-before = refl

row-behind : shared_policy objects (index_at 0 (1024 + 6)) ≡ None
unfolding is_shared slot_of turn_of
row-behind = refl

row-other : shared_policy objects (index_at 1 (1027 + 3)) ≡ None
unfolding is_shared slot_of turn_of
row-other = refl

-- an index of no object
row-none : shared_policy objects 1027 ≡ None
unfolding is_shared slot_of turn_of
row-none = refl

-- ---- a span gets another policy, or loses it

row-parted : overwritten 4 1 None (places 3 3 (policy Bind 0b100) ∷ [])
    ≡ places 3 1 (policy Bind 0b100) ∷ places 5 1 (policy Bind 0b100) ∷ []
row-parted = refl

row-given : overwritten 4 4 (Some (policy Preferred 0b10)) (places 3 3 (policy Bind 0b100) ∷ [])
    ≡ places 3 1 (policy Bind 0b100) ∷ places 4 4 (policy Preferred 0b10) ∷ []
row-given = refl

-- ---- refusals

row-exists : add_cause objects 7 5 None ≡ Some ObjectExists
row-exists = refl

row-inode : add_cause objects 8 34359738368 None ≡ Some BadInode
row-inode = refl

row-added : add_cause objects 8 34359738367 None ≡ None
row-added = refl
