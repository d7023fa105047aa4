-- What a mount's policy asks for, and what it gives a file.
use Rattle.std.specs.Prelude.{ℕ, ◌==◌, ◌&&◌, ◌||◌, not, Bool, true, false, Option, Some, None}
use Rattle.std.specs.Prelude.{Result, Ok, Err, if◌then◌else◌}
use Rattle.numa_mask.specs.NodeSet.{both}
use Rattle.numa_mode.specs.Flags.{has_relative, has_static}
use Rattle.numa_mode.specs.Policy.{PolicyRecord, Specification, is_default, is_live}
use Rattle.numa_mode.specs.Policy.{record_when_set, specification_of}
use Rattle.numa_mode.specs.declared.modes.Mode.{Mode}
use Rattle.numa_mode.specs.declared.modes.Mode.TheVariants.{Default, Preferred, Interleave, Local}
use Rattle.numa_mode.specs.declared.modes.Mode.TheVariants.{WeightedInterleave}
use Rattle.numa_mode.specs.declared.specification.SpecError.{SpecError}
use Rattle.numa_mount.specs.declared.mount.Mount.{Mount}
use Rattle.numa_mount.specs.declared.mount.MountNodes.{MountNodes}
use Rattle.numa_mount.specs.declared.mount.MountNodes.TheVariants.{Unsaid, Number, List}

-- whether the nodes of a mode take turns
abbrev pub takes_turns : Mode → Bool
takes_turns Interleave = true
takes_turns WeightedInterleave = true
takes_turns _ = false

-- without a list, all nodes with memory where they take turns
abbrev pub unsaid_mask : ℕ → Mode → ℕ
unsaid_mask memory mode = if takes_turns mode then memory else 0

abbrev pub mask_of : ℕ → Mode → MountNodes → ℕ
mask_of memory mode Unsaid = unsaid_mask memory mode
mask_of memory mode (Number mask) = mask
mask_of memory mode (List mask) = mask

-- modes that take no list
abbrev pub takes_no_list : Mode → Bool
takes_no_list Default = true
takes_no_list Local = true
takes_no_list _ = false

-- modes that take no list but one number
abbrev pub takes_no_range : Mode → Bool
takes_no_range Preferred = true
takes_no_range mode = takes_no_list mode

abbrev pub lists_wrong : Mode → MountNodes → Bool
lists_wrong mode Unsaid = false
lists_wrong mode (Number mask) = takes_no_list mode
lists_wrong mode (List mask) = takes_no_range mode

-- whether each node of a set has memory
abbrev pub is_within : ℕ → ℕ → Bool
is_within mask memory = both mask memory == mask

abbrev pub when_taken : Result Specification SpecError → Option Specification
when_taken (Ok spec) = Some spec
when_taken (Err fault) = None

-- what a mode, whether STATIC_NODES and RELATIVE_NODES are given, and nodes ask for; none where that
-- is refused
abbrev pub asked_of : ℕ → Mode → Bool → Bool → MountNodes → Option Specification
asked_of memory mode static relative nodes =
    if lists_wrong mode nodes || not (is_within (mask_of memory mode nodes) memory) then None
    else when_taken (specification_of mode static relative (mask_of memory mode nodes))

-- what a mount asks for
abbrev pub mount_specification : ℕ → Mount → Option Specification
mount_specification memory mount = asked_of memory mount.mode (has_static mount.flags)
    (has_relative mount.flags) mount.nodes

abbrev pub where_live : PolicyRecord → Option PolicyRecord
where_live r = if is_live r then Some r else None

-- the policy of a file that is made where these nodes are allowed: none, where it has no node
abbrev pub file_policy : ℕ → Specification → Option PolicyRecord
file_policy allowed spec = if is_default spec then None
    else where_live (record_when_set spec allowed)
