-- What is told of a process is told of the commands that it has accepted.
use Rattle.std.proofs.Common.{◌≡◌, ℕ, true, List, subst}
use Rattle.numa_host.specs.Processes.{commands_of, is_there, members_of}
use Rattle.numa_host.specs.Standing.{HostState}
use Rattle.numa_requests.specs.declared.host_command.HostCommand.{HostCommand}
use Rattle.numa_machine.specs.Machine.{Hardware}
use Rattle.numa_space.specs.Standing.{SpaceState, StandsFor}
use Rattle.numa_requests.specs.declared.command.Command.{Command}

module _ {A : Type 0} (told : Hardware → List Command → A → Type 0) where
  -- what a space says that stands for the commands of a process
  pub told-in : (host : HostState) (history : List HostCommand) (process : ℕ) (space : SpaceState)
      (answer : A)
      → (is_there (members_of history) process ≡ true) × (space.machine ≡ host.blank.machine)
      × StandsFor space (commands_of host.blank.machine history process)
      → ((commands : List Command) → StandsFor space commands
      → told space.machine commands answer)
      → (is_there (members_of history) process ≡ true)
      × told host.blank.machine (commands_of host.blank.machine history process) answer
  told-in host history process space answer found says = (
    found.0,
    subst (λ (machine : Hardware). told machine
        (commands_of host.blank.machine history process) answer) found.1
        (says (commands_of host.blank.machine history process) found.2),
  )
