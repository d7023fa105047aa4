-- The tree of the control groups, and the nodes that each allows (cgroups(7); cpuset.mems and
-- cpuset.mems.effective of "Control ControlGroup v2").
use Rattle.std.specs.Prelude.{ℕ, ◌&&◌, ◌||◌, ◌==◌, Bool, Option, Some, None, List, [], ◌∷◌, map}
use Rattle.std.specs.Prelude.{is_some}
use Rattle.std.specs.Prelude.{if◌then◌else◌}
use Rattle.std.specs.List.{list_any}
use Rattle.numa_mask.specs.NodeSet.{both}
use Rattle.numa_requests.specs.declared.host_command.HostCommand.{HostCommand}
use Rattle.numa_requests.specs.declared.host_command.HostCommand.TheVariants.{NewGroup}
use Rattle.numa_requests.specs.declared.host_command.HostCommand.TheVariants.{SetGroupMems}
use Rattle.numa_host.specs.declared.group.ControlGroup.{ControlGroup}

-- the group with a list of its own, or with none, where it has this name
abbrev pub with_mems : ℕ → Option ℕ → ControlGroup → ControlGroup
with_mems name mems group = if group.name == name then record group { mems = mems } else group

-- the groups below the root, the newest first; so the parent of each is the root or comes later
abbrev pub groups_of : List HostCommand → List ControlGroup
groups_of [] = []
groups_of (NewGroup name parent ∷ history) =
    record { name = name; parent = parent; mems = None } ∷ groups_of history
groups_of (SetGroupMems name mems ∷ history) = map (with_mems name mems) (groups_of history)
groups_of (_ ∷ history) = groups_of history

-- whether there is such a group: the root, or one of these
abbrev pub is_group : List ControlGroup → ℕ → Bool
is_group groups name =
    (name == 0) || list_any (λ (group : ControlGroup). group.name == name) groups

-- whether the group has a list of its own
abbrev pub has_own_mems : List ControlGroup → ℕ → Bool
has_own_mems groups name =
    list_any (λ (group : ControlGroup). group.name == name && is_some group.mems) groups

-- whether a group is this one or below it
abbrev pub is_within : List ControlGroup → ℕ → ℕ → Bool
is_within [] name above = name == above
is_within (group ∷ older) name above =
    if group.name == name then (name == above) || is_within older group.parent above
    else is_within older name above

-- the nodes of a list of its own that the parent's effective nodes have, where there are any;
-- else
-- the parent's
abbrev pub narrowed : Option ℕ → ℕ → ℕ
narrowed None above = above
narrowed (Some mems) above = if both mems above == 0 then above else both mems above

-- the effective nodes of a group; those of the root are all nodes with memory
abbrev pub effective_mems : ℕ → List ControlGroup → ℕ → ℕ
effective_mems memory [] name = memory
effective_mems memory (group ∷ older) name =
    if group.name == name then narrowed group.mems (effective_mems memory older group.parent)
    else effective_mems memory older name
