-- What a host shows, which histories it stands for, and what comes of a command.
use Rattle.std.specs.Prelude.{◌≡◌, ◌≤◌, ℕ, true, None, List, [], ◌∷◌, map, length, All, AllPairs}
use Rattle.std.specs.Prelude.{◌≢◌}
use Rattle.std.specs.Prelude.{Result, MatchOption, OnOk, OnErr, IfErr}
use Rattle.numa_machine.specs.Machine.{Hardware}
use Rattle.numa_space.specs.Limited.{Bounds}
use Rattle.numa_space.specs.Standing.{SpaceState, StandsFor}
use Rattle.numa_space.specs.Steps.{MayNeedRoom}
use Rattle.numa_requests.specs.declared.command.Command.{Command}
use Rattle.numa_requests.specs.declared.host_command.HostCommand.{HostCommand}
use Rattle.numa_requests.specs.declared.host_command.HostCommand.TheVariants.{NewGroup}
use Rattle.numa_requests.specs.declared.host_command.HostCommand.TheVariants.{SetGroupMems}
use Rattle.numa_requests.specs.declared.host_command.HostCommand.TheVariants.{NewProcess, Exit}
use Rattle.numa_requests.specs.declared.host_command.HostCommand.TheVariants.{Attach}
use Rattle.numa_requests.specs.declared.host_command.HostCommand.TheVariants.{Fork}
use Rattle.numa_requests.specs.declared.host_command.HostCommand.TheVariants.{In, SetWeight}
use Rattle.numa_host.specs.declared.group.ControlGroup.{ControlGroup}
use Rattle.numa_host.specs.declared.process.Process.{Process}
use Rattle.numa_requests.specs.declared.host_refusal.HostRefusal.{HostRefusal}
use Rattle.numa_requests.specs.declared.host_refusal.HostRefusal.TheVariants.{NoMemory}
use Rattle.numa_host.specs.Groups.{groups_of, effective_mems, is_group}
use Rattle.numa_host.specs.Processes.{Member, members_of, commands_of, weights_of}
use Rattle.numa_host.specs.Causes.{host_refusal_of}

-- a host: the space with which a process begins (its machine and limits are the host's), the
-- number
-- of accepted commands, the groups, the newest first, and the processes, the first born first
pub record HostState : Type 0 where
  pub blank : SpaceState
  pub version : ℕ
  pub groups : List ControlGroup
  pub processes : List Process

abbrev pub member_of : Process → Member
member_of process = (process.id, process.group)

-- a space of the machine and within the limits that stands for the commands
pub record IsSpaceOf (hardware : Hardware) (limits : Bounds) (commands : List Command)
    (space : SpaceState) : Type 0 where
  pub machine : space.machine ≡ hardware
  pub bounds : space.bounds ≡ limits
  pub stands : StandsFor space commands

-- the host stands for the history: each process's space stands for the commands of that process
pub record HostStandsFor (host : HostState) (history : List HostCommand) : Type 0 where
  pub version : host.version ≡ length history
  pub groups : host.groups ≡ groups_of history
  pub members : map member_of host.processes ≡ members_of history
  pub blank : StandsFor host.blank (weights_of history)
  pub spaces : All (λ (p : Process). IsSpaceOf host.blank.machine host.blank.bounds
      (commands_of host.blank.machine history p.id) p.space) host.processes

-- against no command of the history did a cause stand when it came
abbrev pub IsHostAccepted : Hardware → Bounds → List HostCommand → Type 0
IsHostAccepted machine bounds [] = Unit {0}
IsHostAccepted machine bounds (command ∷ history) =
    (host_refusal_of machine bounds history command ≡ None)
    × IsHostAccepted machine bounds history

pub record HasHostHistory (host : HostState) : Type 0 where
  pub history : List HostCommand
  pub accepted : IsHostAccepted host.blank.machine host.blank.bounds history
  pub stands : HostStandsFor host history

-- what holds of every host: each process is there once, in a group that is there, and is allowed
-- the
-- nodes of that group; the number of accepted commands is within the limits
pub record IsHostSound (host : HostState) : Type 0 where
  pub each_once : AllPairs (λ (a b : Process). a.id ≢ b.id) host.processes
  pub memory : host.blank.allowed ≡ host.blank.machine.memory
  pub allowed : All (λ (p : Process). p.space.allowed
      ≡ effective_mems host.blank.machine.memory host.groups p.group) host.processes
  pub grouped : All (λ (p : Process). is_group host.groups p.group ≡ true) host.processes
  pub version_limit : host.version ≤ host.blank.bounds.max_commands

-- the command may need room for a group or a process, or its process may; the others never want
-- memory, however many processes they concern
abbrev pub HostMayNeedRoom : HostCommand → Type 0
HostMayNeedRoom (NewGroup name parent) = Unit {0}
HostMayNeedRoom (NewProcess process group) = Unit {0}
HostMayNeedRoom (Fork parent child from task) = Unit {0}
HostMayNeedRoom (In process command) = MayNeedRoom command
HostMayNeedRoom (SetGroupMems name mems) = ⊥
HostMayNeedRoom (Exit process) = ⊥
HostMayNeedRoom (Attach process group) = ⊥
HostMayNeedRoom (SetWeight node weight) = ⊥

-- what comes of a command: it is added to each history that the host stands for, where no cause
-- stands against it; else the first cause is answered, or that memory lacked, and all is as it
-- was
pub record IsHostApplied (old : HostState) (command : HostCommand)
    (result : Result (Unit {0}) HostRefusal) (new : HostState) : Type 0 where
  pub ok : (history : List HostCommand) → HostStandsFor old history → OnOk result
      ((host_refusal_of old.blank.machine old.blank.bounds history command ≡ None)
      × HostStandsFor new (command ∷ history))
  pub err : (history : List HostCommand) → HostStandsFor old history
      → IfErr result (λ refusal. MatchOption
      (host_refusal_of old.blank.machine old.blank.bounds history command)
      (refusal ≡ NoMemory) (λ first. refusal ≡ first))
  pub unchanged : OnErr result (new ≡ old)
  pub room : IfErr result (λ refusal. refusal ≡ NoMemory → HostMayNeedRoom command)
  pub machine : new.blank.machine ≡ old.blank.machine
  pub bounds : new.blank.bounds ≡ old.blank.bounds
