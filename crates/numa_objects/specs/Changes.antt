-- What calls make of objects, and why they are refused.
use Rattle.std.specs.Prelude.{◌≡◌, ℕ, ◌+◌, ◌-◌, ◌<◌, ◌≤◌, ◌^◌, ◌&&◌, Bool, Option, Some, None, List}
use Rattle.std.specs.Prelude.{true, false, [], ◌∷◌, ◌++◌, length, map, slice_get, nat_le, nat_lt, is_some}
use Rattle.std.specs.Prelude.{Result, Err, MatchOption, MatchResult, if◌then◌else◌}
use Rattle.numa_mode.specs.Policy.{PolicyRecord}
use Rattle.numa_ranges.specs.Maps.{with_span}
use Rattle.numa_ranges.specs.Runs.{in_pages}
use Rattle.numa_objects.specs.Objects.{ObjectData, has_named, policy_of, ranges_beside, ranges_by}
use Rattle.numa_objects.specs.Objects.{ranges_in, shared_policy}
use Rattle.numa_objects.specs.Spots.{slot_of, turn_of}
use Rattle.numa_objects.specs.declared.fault.ObjectFault.{ObjectFault}
use Rattle.numa_objects.specs.declared.fault.ObjectFault.TheVariants.{ObjectExists, BadInode}
use Rattle.numa_objects.specs.declared.fault.ObjectFault.TheVariants.{TooManyObjects, TooManyRanges}
use Rattle.numa_objects.specs.declared.fault.ObjectFault.TheVariants.{NoMemory}

abbrev pub first_of : Option ObjectFault → Option ObjectFault → Option ObjectFault
first_of None other = other
first_of (Some cause) other = Some cause

abbrev pub when : Bool → ObjectFault → Option ObjectFault
when true cause = Some cause
when false cause = None

-- an object's name and the number of its inode
abbrev pub identity : ObjectData → ℕ × ℕ
identity object = (object.name, object.inode)

-- the policies of places, once those of a span have this one, or none
abbrev pub bound_policy : ℕ → ℕ → Option PolicyRecord → (ℕ → Option PolicyRecord) → ℕ
    → Option PolicyRecord
bound_policy first pages policy old place =
    if in_pages first pages place then policy else old place

-- a map of places, where those of a span have a policy, if there is one
abbrev pub with_policy : ℕ → ℕ → Option PolicyRecord → (ℕ → Option (ℕ × PolicyRecord)) → ℕ
    → Option (ℕ × PolicyRecord)
with_policy first pages None at place = at place
with_policy first pages (Some r) at place = with_span first pages first r at place

-- ---- one object more

-- the first cause against an object more
abbrev pub add_cause : List ObjectData → ℕ → ℕ → Option PolicyRecord → Option ObjectFault
add_cause objects name inode policy =
    first_of (when (has_named name objects) ObjectExists)
    (first_of (when (nat_le (2 ^ 35) inode) BadInode)
    (first_of (when (nat_le 1024 (length objects)) TooManyObjects)
    (when (is_some policy && nat_le 65536 (ranges_in objects)) TooManyRanges)))

-- the objects as before, and one more behind them, all of whose places have this policy, or none
pub record AreAdded (old : List ObjectData) (name inode : ℕ) (policy : Option PolicyRecord)
    (new : List ObjectData) : Type 0 where
  pub object : ObjectData
  pub whole : new ≡ old ++ object ∷ []
  pub is : identity object ≡ (name, inode)
  pub policies : (place : ℕ) → policy_of object place
      ≡ bound_policy 0 (2 ^ 35) policy (λ other. None) place

-- ---- another policy for a span of places

-- so many indexes from this one on are those of places of an object
pub record AreOfObject (objects : List ObjectData) (index pages : ℕ) : Type 0 where
  pub some : 0 < pages
  pub shared : 2 ^ 37 ≤ index
  pub object : ObjectData
  pub there : slice_get objects (slot_of index) ≡ Some object
  pub from : object.inode ≤ turn_of index
  pub to : turn_of index - object.inode + pages ≤ 2 ^ 35

-- how many ranges the objects would have, of which this one is in the slot
abbrev pub ranges_after : List ObjectData → ℕ → ObjectData → ℕ → ℕ → Option PolicyRecord → ℕ
ranges_after objects slot object first pages policy = ranges_beside slot objects
    + ranges_by (bound_policy first pages policy (policy_of object))

abbrev pub bind_cause_in : List ObjectData → ℕ → ℕ → Option PolicyRecord → Option ObjectData
    → Option ObjectFault
bind_cause_in objects index pages policy None = None
bind_cause_in objects index pages policy (Some object) = when
    (nat_lt 65536 (ranges_after objects (slot_of index) object (turn_of index - object.inode) pages
    policy)) TooManyRanges

-- the cause against another policy for so many indexes from one on
abbrev pub bind_cause : List ObjectData → ℕ → ℕ → Option PolicyRecord → Option ObjectFault
bind_cause objects index pages policy = bind_cause_in objects index pages policy
    (slice_get objects (slot_of index))

-- the objects as before, but for the policy of so many indexes from one on
pub record AreBound (old : List ObjectData) (index pages : ℕ) (policy : Option PolicyRecord)
    (new : List ObjectData) : Type 0 where
  pub identities : map identity new ≡ map identity old
  pub policies : (other : ℕ) → shared_policy new other
      ≡ (if in_pages index pages other then policy else shared_policy old other)

-- the first cause is answered, or what comes of the call; lack of memory where there is no cause
abbrev pub IsChanged : Option ObjectFault → Result (List ObjectData) ObjectFault
    → (List ObjectData → Type 0) → Type 0
IsChanged cause result Holds =
    MatchOption cause (MatchResult result Holds (λ fault. fault ≡ NoMemory))
    (λ first. result ≡ Err first)
