-- The first cause that refuses a command of a host.
use Rattle.std.specs.Prelude.{ℕ, ◌==◌, ◌&&◌, nat_le, not, Bool, true, false, Option, Some, None}
use Rattle.std.specs.Prelude.{List}
use Rattle.std.specs.Prelude.{length, is_some}
use Rattle.std.specs.List.{list_any}
use Rattle.std.specs.Option.{option_map, option_map_or}
use Rattle.numa_mask.specs.NodeSet.{members}
use Rattle.numa_machine.specs.Machine.{Hardware}
use Rattle.numa_space.specs.Limited.{Bounds}
use Rattle.numa_space.specs.Refusals.{refusal_of}
use Rattle.numa_requests.specs.declared.command.Command.{Command}
use Rattle.numa_requests.specs.declared.command.Command.TheVariants as own
use Rattle.numa_requests.specs.declared.host_command.HostCommand.{HostCommand}
use Rattle.numa_requests.specs.declared.host_command.HostCommand.TheVariants.{NewGroup}
use Rattle.numa_requests.specs.declared.host_command.HostCommand.TheVariants.{SetGroupMems}
use Rattle.numa_requests.specs.declared.host_command.HostCommand.TheVariants.{NewProcess, Exit}
use Rattle.numa_requests.specs.declared.host_command.HostCommand.TheVariants.{Attach}
use Rattle.numa_requests.specs.declared.host_command.HostCommand.TheVariants.{Fork}
use Rattle.numa_requests.specs.declared.host_command.HostCommand.TheVariants.{In, SetWeight}
use Rattle.numa_requests.specs.declared.host_refusal.HostRefusal.{HostRefusal}
use Rattle.numa_requests.specs.declared.host_refusal.HostRefusal.TheVariants.{CommandsSpent}
use Rattle.numa_requests.specs.declared.host_refusal.HostRefusal.TheVariants.{NoSuchGroup}
use Rattle.numa_requests.specs.declared.host_refusal.HostRefusal.TheVariants.{RootGroup, NoSuchNode}
use Rattle.numa_requests.specs.declared.host_refusal.HostRefusal.TheVariants.{Populated}
use Rattle.numa_requests.specs.declared.host_refusal.HostRefusal.TheVariants.{GroupExists}
use Rattle.numa_requests.specs.declared.host_refusal.HostRefusal.TheVariants.{NoSuchProcess}
use Rattle.numa_requests.specs.declared.host_refusal.HostRefusal.TheVariants.{ProcessExists}
use Rattle.numa_requests.specs.declared.host_refusal.HostRefusal.TheVariants.{GroupMems}
use Rattle.numa_requests.specs.declared.host_refusal.HostRefusal.TheVariants.{TooManyGroups}
use Rattle.numa_requests.specs.declared.host_refusal.HostRefusal.TheVariants.{TooManyProcesses}
use Rattle.numa_requests.specs.declared.host_refusal.HostRefusal.TheVariants.{OfSpace}
use Rattle.numa_host.specs.Groups.{groups_of, is_group, has_own_mems}
use Rattle.numa_host.specs.Processes.{members_of, is_there, has_process, commands_of}
use Rattle.numa_host.specs.Processes.{weights_of}

abbrev pub first_of : Option HostRefusal → Option HostRefusal → Option HostRefusal
first_of None other = other
first_of (Some cause) other = Some cause

abbrev pub when : Bool → HostRefusal → Option HostRefusal
when true cause = Some cause
when false cause = None

-- a command that a process can't give: the allowed nodes are the groups', the weights the host's
abbrev pub is_the_host_s : Command → Bool
is_the_host_s (own.SetMems mask) = true
is_the_host_s (own.SetWeight node weight) = true
is_the_host_s _ = false

-- the cause for which a process's space refuses a command
abbrev pub cause_in : Hardware → Bounds → List HostCommand → ℕ → Command → Option HostRefusal
cause_in machine bounds history process command =
    option_map OfSpace (refusal_of machine bounds (commands_of machine history process) command)

-- a list is to be unset that the group has, and a process is in the group or below it
abbrev pub is_populated : List HostCommand → ℕ → Bool
is_populated history name = has_own_mems (groups_of history) name
    && has_process (groups_of history) name (members_of history)

-- the causes of each command, in order
abbrev pub cause_of : Hardware → Bounds → List HostCommand → HostCommand → Option HostRefusal
cause_of machine bounds history (NewGroup name parent) =
    first_of (when (is_group (groups_of history) name) GroupExists)
    (first_of (when (not (is_group (groups_of history) parent)) NoSuchGroup)
    (when (nat_le 1024 (length (groups_of history))) TooManyGroups))
cause_of machine bounds history (SetGroupMems name mems) =
    first_of (when (not (is_group (groups_of history) name)) NoSuchGroup)
    (first_of (when (name == 0) RootGroup)
    (first_of (when (option_map_or
    (λ mask. list_any (λ node. nat_le machine.nodes node) (members mask)) mems false) NoSuchNode)
    (when (not (is_some mems) && is_populated history name) Populated)))
cause_of machine bounds history (NewProcess process group) =
    first_of (when (is_there (members_of history) process) ProcessExists)
    (first_of (when (not (is_group (groups_of history) group)) NoSuchGroup)
    (when (nat_le 4096 (length (members_of history))) TooManyProcesses))
cause_of machine bounds history (Exit process) =
    when (not (is_there (members_of history) process)) NoSuchProcess
cause_of machine bounds history (Attach process group) =
    first_of (when (not (is_there (members_of history) process)) NoSuchProcess)
    (when (not (is_group (groups_of history) group)) NoSuchGroup)
cause_of machine bounds history (Fork parent child from task) =
    first_of (when (is_there (members_of history) child) ProcessExists)
    (first_of (when (not (is_there (members_of history) parent)) NoSuchProcess)
    (first_of (when (nat_le 4096 (length (members_of history))) TooManyProcesses)
    (cause_in machine bounds history parent (own.Inherit task from))))
cause_of machine bounds history (In process command) =
    first_of (when (not (is_there (members_of history) process)) NoSuchProcess)
    (first_of (when (is_the_host_s command) GroupMems)
    (cause_in machine bounds history process command))
cause_of machine bounds history (SetWeight node weight) = option_map OfSpace
    (refusal_of machine bounds (weights_of history) (own.SetWeight node weight))

-- the first cause, that of the number of commands before all others
abbrev pub host_refusal_of : Hardware → Bounds → List HostCommand → HostCommand
    → Option HostRefusal
host_refusal_of machine bounds history command = first_of
    (when (nat_le bounds.max_commands (length history)) CommandsSpent)
    (cause_of machine bounds history command)
