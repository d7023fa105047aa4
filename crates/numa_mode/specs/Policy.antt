-- What a policy is, and which nodes it has.
--
-- A policy is asked for by a mode, at most one flag, and a set of nodes, the mask. That is its
-- specification. The nodes that count are those of its effective set, which follows from the mask
-- and from the nodes that the task is allowed, when the policy is set and at each change of the
-- allowed nodes. A policy with its effective set is a record; a range's record may also have a home
-- node. That of places of a shared object follows no change, and has none.
--
-- DEFAULT (0) requests no policy: it removes the current one, so no record has it. It takes no
-- nodes; one flag is taken and forgotten.
--
-- PREFERRED (1) has at most one node in its effective set, the lowest of those that its flag gives.
-- Without nodes it is LOCAL, and then takes no flag.
--
-- BIND (2) has the nodes that its flag gives, and no page may come from another. It needs nodes.
-- Its record may have a home node.
--
-- INTERLEAVE (3) spreads pages over the nodes that its flag gives, one page each in turn. It needs
-- nodes.
--
-- LOCAL (4) has an empty effective set, and is live all the same. It takes neither nodes nor a
-- flag.
--
-- PREFERRED_MANY (5) has the nodes that its flag gives before all others. It needs nodes. Its
-- record may have a home node.
--
-- WEIGHTED_INTERLEAVE (6) is INTERLEAVE with as many pages in turn as a node's weight. It needs
-- nodes.
--
-- Which nodes a flag gives: with STATIC_NODES those of the mask that are allowed, now and after
-- each change. With RELATIVE_NODES the mask's numbers are places among the allowed nodes, folded
-- where they pass the last place, and read again from the mask at each change. With neither, those
-- of the mask that are allowed when the policy is set; at each change the nodes that then stand
-- move to the nodes of the same places in the new set, so that a smaller set between two larger
-- ones isn't undone.
--
-- Sources: set_mempolicy(2), mbind(2), "NUMA Memory Policy" of the kernel's administration guide,
-- and the kernel's mm/mempolicy.c.
use Rattle.std.specs.Prelude.{◌≡◌, ℕ, ◌+◌, Bool, true, false, not, ◌&&◌, ◌||◌, ◌==◌, if◌then◌else◌}
use Rattle.std.specs.Prelude.{Option, Some, None, is_some, Result, Ok, Err, List, [], ◌∷◌}
use Rattle.std.specs.Prelude.{◌++◌, codes, take, slice_get, bit_and}
use Rattle.std.specs.Int.{bit_at, bit_not, w32}
use Rattle.numa_mask.specs.NodeSet.{members, weight_of, set_of, both, fold_set, onto_set, remap_set}
use Rattle.numa_mask.specs.Lists.{text_of}
use Rattle.numa_machine.specs.declared.rules.Rules.{Rules}
use Rattle.numa_machine.specs.declared.rules.Rules.TheVariants.{Document, Linux}
use Rattle.numa_mode.specs.Within.{IsAtMostOne}
use Rattle.numa_mode.specs.declared.modes.Mode.{Mode}
use Rattle.numa_mode.specs.declared.modes.Mode.TheVariants.{Default, Preferred, Bind, Interleave}
use Rattle.numa_mode.specs.declared.modes.Mode.TheVariants.{Local, PreferredMany}
use Rattle.numa_mode.specs.declared.modes.Mode.TheVariants.{WeightedInterleave}
use Rattle.numa_mode.specs.declared.modes.NodeFlag.{NodeFlag}
use Rattle.numa_mode.specs.declared.modes.NodeFlag.TheVariants.{Plain, Static, Relative}
use Rattle.numa_mode.specs.declared.specification.SpecError.{SpecError}
use Rattle.numa_mode.specs.declared.specification.SpecError.TheVariants.{UnknownMode, BothFlags}
use Rattle.numa_mode.specs.declared.specification.SpecError.TheVariants.{NodesForbidden}
use Rattle.numa_mode.specs.declared.specification.SpecError.TheVariants.{FlagsForbidden}
use Rattle.numa_mode.specs.declared.specification.SpecError.TheVariants.{NodesMissing}

-- a policy as it is asked for
pub record Specification : Type 0 where
  pub mode : Mode
  pub flag : NodeFlag
  pub mask : ℕ

-- a policy in force, of a range or a task, or of places of a shared object
pub record PolicyRecord : Type 0 where
  pub spec : Specification
  pub effective : ℕ
  pub home : Option ℕ
  pub of_object : Bool

-- ---- specifications

abbrev pub takes_no_nodes : Mode → Bool
takes_no_nodes Default = true
takes_no_nodes Local = true
takes_no_nodes _ = false

-- PREFERRED without nodes is LOCAL, which takes no flag
abbrev pub takes_no_flag : Mode → ℕ → Bool
takes_no_flag Local mask = true
takes_no_flag Preferred mask = mask == 0
takes_no_flag _ mask = false

abbrev pub needs_nodes : Mode → Bool
needs_nodes Bind = true
needs_nodes Interleave = true
needs_nodes PreferredMany = true
needs_nodes WeightedInterleave = true
needs_nodes _ = false

-- the first fault of a mode, its two flags and its mask
abbrev pub fault_of : Mode → Bool → Bool → ℕ → Option SpecError
fault_of mode static relative mask =
    if static && relative then Some BothFlags
    else if takes_no_nodes mode && not (mask == 0) then Some NodesForbidden
    else if takes_no_flag mode mask && (static || relative) then Some FlagsForbidden
    else if needs_nodes mode && mask == 0 then Some NodesMissing
    else None

-- the bit of a flag in a mode word
abbrev pub flag_bits : NodeFlag → ℕ
flag_bits Plain = 0
flag_bits Static = 0x8000
flag_bits Relative = 0x4000

abbrev pub is_static : NodeFlag → Bool
is_static Static = true
is_static _ = false

abbrev pub is_relative : NodeFlag → Bool
is_relative Relative = true
is_relative _ = false

abbrev pub flag_of : Bool → Bool → NodeFlag
flag_of static relative = if static then Static else if relative then Relative else Plain

-- what a mode, a flag and a mask without fault ask for
abbrev pub asked_for : Mode → NodeFlag → ℕ → Specification
asked_for Default flag mask = record { mode = Default; flag = Plain; mask = mask }
asked_for Preferred flag mask = record {
  mode = if mask == 0 then Local else Preferred;
  flag = flag;
  mask = mask;
}
asked_for mode flag mask = record { mode = mode; flag = flag; mask = mask }

abbrev pub unless_fault : Option SpecError → Specification → Result Specification SpecError
unless_fault None spec = Ok spec
unless_fault (Some fault) spec = Err fault

-- the answer to a mode, whether STATIC_NODES and RELATIVE_NODES are given, and a mask
abbrev pub specification_of : Mode → Bool → Bool → ℕ → Result Specification SpecError
specification_of mode static relative mask =
    unless_fault (fault_of mode static relative mask)
    (asked_for mode (flag_of static relative) mask)

-- a specification that asked for again gives itself
abbrev pub IsAccepted : Specification → Type 0
IsAccepted spec = specification_of spec.mode (is_static spec.flag) (is_relative spec.flag)
    spec.mask ≡ Ok spec

-- a mode's number
abbrev pub number_of : Mode → ℕ
number_of Default = 0
number_of Preferred = 1
number_of Bind = 2
number_of Interleave = 3
number_of Local = 4
number_of PreferredMany = 5
number_of WeightedInterleave = 6

-- the mode of a number
abbrev pub mode_numbered : ℕ → Option Mode
mode_numbered = slice_get (Default ∷ Preferred ∷ Bind ∷ Interleave ∷ Local ∷ PreferredMany
    ∷ WeightedInterleave ∷ [])

-- the mode word of a mode and its two flags
abbrev pub word_of : Mode → Bool → Bool → ℕ
word_of mode static relative = number_of mode + (if static then 0x8000 else 0) + (if relative
    then 0x4000 else 0)

-- a mode word without its bits 14 and 15
abbrev pub without_flags : ℕ → ℕ
without_flags word = bit_and word (bit_not w32 0xc000)

abbrev pub specification_if : Option Mode → Bool → Bool → ℕ → Result Specification SpecError
specification_if None static relative mask = Err UnknownMode
specification_if (Some mode) static relative mask = specification_of mode static relative mask

-- the answer to a mode word, with STATIC_NODES at bit 15 and RELATIVE_NODES at bit 14, and a mask
abbrev pub raw_specification : ℕ → ℕ → Result Specification SpecError
raw_specification word mask = specification_if (mode_numbered (without_flags word))
    (bit_at word 15 == 1) (bit_at word 14 == 1) mask

abbrev pub is_default_mode : Mode → Bool
is_default_mode Default = true
is_default_mode _ = false

abbrev pub is_local_mode : Mode → Bool
is_local_mode Local = true
is_local_mode _ = false

abbrev pub is_preferred_mode : Mode → Bool
is_preferred_mode Preferred = true
is_preferred_mode _ = false

abbrev pub is_default : Specification → Bool
is_default spec = is_default_mode spec.mode

abbrev pub is_local : Specification → Bool
is_local spec = is_local_mode spec.mode

abbrev pub is_preferred : Specification → Bool
is_preferred spec = is_preferred_mode spec.mode

-- ---- effective sets

-- the lowest member alone
abbrev pub lowest : ℕ → ℕ
lowest set = set_of (take 1 (members set))

-- PREFERRED has one node, LOCAL none
abbrev pub kept_nodes : Mode → ℕ → ℕ
kept_nodes Preferred set = lowest set
kept_nodes Local set = 0
kept_nodes _ set = set

-- the nodes that a flag gives to a mask, within the allowed nodes
abbrev pub given_nodes : NodeFlag → ℕ → ℕ → ℕ
given_nodes Plain mask allowed = both mask allowed
given_nodes Static mask allowed = both mask allowed
given_nodes Relative mask allowed = onto_set (fold_set mask (weight_of allowed)) allowed

-- the effective set of a policy that is set where these nodes are allowed
abbrev pub effect_when_set : Specification → ℕ → ℕ
effect_when_set spec allowed = kept_nodes spec.mode (given_nodes spec.flag spec.mask allowed)

-- with a flag the mask is read again, without one the nodes that stand move
abbrev pub effect_by_flag : NodeFlag → Specification → ℕ → ℕ → ℕ → ℕ
effect_by_flag Plain spec effective old new = remap_set effective old new
effect_by_flag Static spec effective old new = effect_when_set spec new
effect_by_flag Relative spec effective old new = effect_when_set spec new

-- by the documents a policy follows every change of the allowed nodes. The kernel leaves the nodes
-- of PREFERRED and PREFERRED_MANY as they were set; LOCAL has none
abbrev pub stays : Rules → Mode → Bool
stays Document mode = false
stays Linux Preferred = true
stays Linux PreferredMany = true
stays Linux Local = true
stays Linux _ = false

-- by the documents a set without nodes stays so, and the policy rests. The kernel takes all that
-- are allowed in its place
abbrev pub never_empty : Rules → ℕ → ℕ → ℕ
never_empty Document set allowed = set
never_empty Linux set allowed = if set == 0 then allowed else set

-- the effective set once the allowed nodes changed from old to new
abbrev pub effect_after : Rules → Specification → ℕ → ℕ → ℕ → ℕ
effect_after rules spec effective old new =
    if stays rules spec.mode then effective
    else never_empty rules (effect_by_flag spec.flag spec effective old new) new

-- ---- records

abbrev pub record_when_set : Specification → ℕ → PolicyRecord
record_when_set spec allowed =
    record {
      spec = spec;
      effective = effect_when_set spec allowed;
      home = None;
      of_object = false;
    }

-- an object's policy is never rebound
abbrev pub set_after : Rules → PolicyRecord → ℕ → ℕ → ℕ
set_after rules r old new = if r.of_object then r.effective
    else effect_after rules r.spec r.effective old new

abbrev pub record_after : Rules → PolicyRecord → ℕ → ℕ → PolicyRecord
record_after rules r old new = record r { effective = set_after rules r old new }

-- the policy as one of places of a shared object
abbrev pub for_object : PolicyRecord → PolicyRecord
for_object r = record { spec = r.spec; effective = r.effective; home = None; of_object = true }

-- whether a policy counts: it has nodes, or needs none
abbrev pub is_live : PolicyRecord → Bool
is_live r = not (r.effective == 0) || is_local r.spec

abbrev pub mode_takes_home : Mode → Bool
mode_takes_home Bind = true
mode_takes_home PreferredMany = true
mode_takes_home _ = false

-- whether a home node can be given
abbrev pub takes_home : PolicyRecord → Bool
takes_home r = not r.of_object && mode_takes_home r.spec.mode

abbrev pub with_home : PolicyRecord → ℕ → PolicyRecord
with_home r node = record r { home = Some node }

-- what is true of each record: its policy isn't DEFAULT, PREFERRED has at most one node, LOCAL has
-- none, and a home is only where one can be given
pub record IsStanding (r : PolicyRecord) : Type 0 where
  pub policy : is_default r.spec ≡ false
  pub preferred : is_preferred r.spec ≡ true → IsAtMostOne r.effective
  pub local : is_local r.spec ≡ true → r.effective ≡ 0
  pub home : is_some r.home ≡ true → takes_home r ≡ true

-- ---- text

abbrev pub mode_text : Mode → List ℕ
mode_text Default = codes "default"
mode_text Preferred = codes "prefer"
mode_text Bind = codes "bind"
mode_text Interleave = codes "interleave"
mode_text Local = codes "local"
mode_text PreferredMany = codes "prefer (many)"
mode_text WeightedInterleave = codes "weighted interleave"

abbrev pub flag_text : NodeFlag → List ℕ
flag_text Plain = []
flag_text Static = codes "=static"
flag_text Relative = codes "=relative"

abbrev pub nodes_text : ℕ → List ℕ
nodes_text set = if set == 0 then [] else codes ":" ++ text_of set

-- a policy as numa_maps shows it: its mode, its flag, and after a colon the nodes that stand, where
-- there are any
abbrev pub policy_text : PolicyRecord → List ℕ
policy_text r = mode_text r.spec.mode ++ flag_text r.spec.flag ++ nodes_text r.effective
