-- The processes of a host, and the commands that each has accepted.
use Rattle.std.specs.Prelude.{ℕ, ◌==◌, Bool, not, Option, List, [], ◌∷◌, ◌++◌, filter}
use Rattle.std.specs.Prelude.{map, is_some, unwrap_or, nat_eq, if◌then◌else◌}
use Rattle.std.specs.List.{list_any}
use Rattle.std.specs.Map.{lookup}
use Rattle.std.specs.Option.{option_map_or}
use Rattle.numa_machine.specs.Machine.{Hardware}
use Rattle.numa_requests.specs.declared.command.Command.{Command}
use Rattle.numa_requests.specs.declared.command.Command.TheVariants as own
use Rattle.numa_requests.specs.declared.host_command.HostCommand.{HostCommand}
use Rattle.numa_requests.specs.declared.host_command.HostCommand.TheVariants.{NewProcess, Exit}
use Rattle.numa_requests.specs.declared.host_command.HostCommand.TheVariants.{Attach}
use Rattle.numa_requests.specs.declared.host_command.HostCommand.TheVariants.{Fork}
use Rattle.numa_requests.specs.declared.host_command.HostCommand.TheVariants.{In, SetWeight}
use Rattle.numa_host.specs.declared.group.ControlGroup.{ControlGroup}
use Rattle.numa_host.specs.Groups.{groups_of, effective_mems, is_within}

-- ---- which processes there are, and in which group each is

-- a process and its group
abbrev pub Member : Type 0
Member = ℕ × ℕ

-- the group of a process, if it is there
abbrev pub group_in : List Member → ℕ → Option ℕ
group_in members process = lookup (nat_eq process) members

abbrev pub is_there : List Member → ℕ → Bool
is_there members process = is_some (group_in members process)

-- the member in another group, where it is this process
abbrev pub moved_member : ℕ → ℕ → Member → Member
moved_member process group member = if member.0 == process then (process, group) else member

-- the processes, the first born first; a child begins in the group of its parent
abbrev pub members_of : List HostCommand → List Member
members_of [] = []
members_of (NewProcess process group ∷ history) = members_of history ++ (process, group) ∷ []
members_of (Exit process ∷ history) =
    filter (λ member. not (member.0 == process)) (members_of history)
members_of (Attach process group ∷ history) =
    map (moved_member process group) (members_of history)
members_of (Fork parent child from task ∷ history) =
    members_of history ++ (child, unwrap_or (group_in (members_of history) parent) 0) ∷ []
members_of (_ ∷ history) = members_of history

-- whether one of the processes is in the group or below it
abbrev pub has_process : List ControlGroup → ℕ → List Member → Bool
has_process groups name members =
    list_any (λ (member : Member). is_within groups member.1 name) members

-- the nodes that a process is allowed: its group's, all with memory where it isn't there
abbrev pub nodes_of : Hardware → List HostCommand → ℕ → ℕ
nodes_of machine history process =
    option_map_or (effective_mems machine.memory (groups_of history))
    (group_in (members_of history) process) machine.memory

-- ---- what a process has accepted

-- the weights that were set, as commands of a space
abbrev pub weights_of : List HostCommand → List Command
weights_of [] = []
weights_of (SetWeight node weight ∷ history) = own.SetWeight node weight ∷ weights_of history
weights_of (_ ∷ history) = weights_of history

-- the commands, and behind them one for a change of the allowed nodes, if they have changed
abbrev pub when_moved : ℕ → ℕ → List Command → List Command
when_moved old new commands = if old == new then commands else own.SetMems new ∷ commands

-- the commands that the space of a process has accepted, the newest first, as in every history:
-- a
-- new process has the weights, and the nodes of its group; a child has those of its parent, and
-- one
-- that ended the weights alone. When a group is made or gets its nodes, and when a process
-- moves, it
-- may be allowed other nodes.
abbrev pub commands_of : Hardware → List HostCommand → ℕ → List Command
commands_of machine [] process = []
commands_of machine (In other command ∷ history) process =
    if other == process then command ∷ commands_of machine history process
    else commands_of machine history process
commands_of machine (SetWeight node weight ∷ history) process =
    own.SetWeight node weight ∷ commands_of machine history process
commands_of machine (NewProcess born group ∷ history) process =
    if born == process then when_moved machine.memory
    (effective_mems machine.memory (groups_of history) group) (weights_of history)
    else commands_of machine history process
commands_of machine (Fork parent child from task ∷ history) process =
    if child == process then own.Inherit task from ∷ commands_of machine history parent
    else commands_of machine history process
commands_of machine (Exit other ∷ history) process =
    if other == process then weights_of history else commands_of machine history process
commands_of machine (command ∷ history) process =
    when_moved (nodes_of machine history process) (nodes_of machine (command ∷ history) process)
    (commands_of machine history process)
