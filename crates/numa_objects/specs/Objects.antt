-- Objects, and the policies of their places.
use Rattle.std.specs.Prelude.{◌≡◌, ℕ, ◌+◌, ◌-◌, ◌<◌, ◌≤◌, ◌^◌, ◌==◌, Bool, Option, Some, None, List}
use Rattle.std.specs.Prelude.{[], ◌∷◌, length, slice_get, option_and_then, nat_lt, if◌then◌else◌}
use Rattle.std.specs.Prelude.{◌||◌, false, All}
use Rattle.std.specs.Option.{option_map, ForSome}
use Rattle.numa_mode.specs.Policy.{PolicyRecord}
use Rattle.numa_ranges.specs.Counts.{range_count}
use Rattle.numa_ranges.specs.Runs.{in_pages, page_at}
use Rattle.numa_ranges.specs.declared.run.Run.{Run}
use Rattle.numa_objects.specs.Same.{same_policy}
use Rattle.numa_objects.specs.Spots.{is_shared, slot_of, turn_of}

-- an object: its name, the number of its inode, and its ranges of places with a policy, in rising
-- order (each index is the place itself)
pub record ObjectData : Type 0 where
  pub name : ℕ
  pub inode : ℕ
  pub policies : List (Run PolicyRecord)

-- ---- policies

-- the policy of a place
abbrev pub policy_of : ObjectData → ℕ → Option PolicyRecord
policy_of object place = option_map (λ at. at.1) (page_at object.policies place)

-- the policy of the page that has this turn; below INODE there is no place
abbrev pub policy_in_turn : ObjectData → ℕ → Option PolicyRecord
policy_in_turn object turn = if nat_lt turn object.inode then None
    else policy_of object (turn - object.inode)

-- the policy of the page with this index
abbrev pub shared_policy : List ObjectData → ℕ → Option PolicyRecord
shared_policy objects index = if is_shared index
    then option_and_then (λ object. policy_in_turn object (turn_of index))
    (slice_get objects (slot_of index))
    else None

-- ---- how many there are

-- the map from the places of an object to their policies, each with itself as its index
abbrev pub by_place : (ℕ → Option PolicyRecord) → ℕ → Option (ℕ × PolicyRecord)
by_place policy place = option_map (λ r. (place, r)) (policy place)

-- how many ranges of places with one policy there are
abbrev pub ranges_by : (ℕ → Option PolicyRecord) → ℕ
ranges_by policy = range_count same_policy (by_place policy)

-- how many ranges the objects have together
abbrev pub ranges_in : List ObjectData → ℕ
ranges_in [] = 0
ranges_in (object ∷ objects) = length object.policies + ranges_in objects

-- how many those have that aren't in this slot
abbrev pub ranges_beside : ℕ → List ObjectData → ℕ
ranges_beside slot [] = 0
ranges_beside slot (object ∷ objects) = if slot == 0 then ranges_in objects
    else length object.policies + ranges_beside (slot - 1) objects

-- ---- what is kept

-- an object: its inode's number leaves room for all places, and an index is its place
pub record IsObject (object : ObjectData) : Type 0 where
  pub inode : object.inode < 2 ^ 35
  pub places : (place : ℕ) → ForSome (page_at object.policies place) (λ at. at.0 ≡ place)

-- whether an object has this name
abbrev pub is_named : ℕ → ObjectData → Bool
is_named name object = object.name == name

abbrev pub has_named : ℕ → List ObjectData → Bool
has_named name [] = false
has_named name (object ∷ objects) = is_named name object || has_named name objects

-- the slot of the object of this name
abbrev pub slot_named : ℕ → List ObjectData → Option ℕ
slot_named name [] = None
slot_named name (object ∷ objects) = if is_named name object then Some 0
    else option_map (λ slot. slot + 1) (slot_named name objects)

pub record AreObjects (objects : List ObjectData) : Type 0 where
  pub each : All IsObject objects
  pub few : length objects ≤ 1024
  pub few_ranges : ranges_in objects ≤ 65536
