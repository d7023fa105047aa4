-- Processes that have nothing to do with others.
use Rattle.std.specs.Prelude.{◌≡◌, ℕ, Bool, false, not, List, [], ◌∷◌, filter}
use Rattle.numa_requests.specs.declared.host_command.HostCommand.{HostCommand}
use Rattle.numa_requests.specs.declared.host_command.HostCommand.TheVariants.{NewProcess, Exit}
use Rattle.numa_requests.specs.declared.host_command.HostCommand.TheVariants.{Attach}
use Rattle.numa_requests.specs.declared.host_command.HostCommand.TheVariants.{Fork}
use Rattle.numa_requests.specs.declared.host_command.HostCommand.TheVariants.{In}

-- whether a command makes, ends, moves or changes one of these processes
abbrev pub is_of : (ℕ → Bool) → HostCommand → Bool
is_of these (NewProcess process group) = these process
is_of these (Exit process) = these process
is_of these (Attach process group) = these process
is_of these (Fork parent child from task) = these child
is_of these (In process command) = these process
is_of these _ = false

-- the commands, without those of these processes
abbrev pub without : (ℕ → Bool) → List HostCommand → List HostCommand
without these history = filter (λ command. not (is_of these command)) history

-- no fork made one of these processes of another, nor another of one of them
abbrev pub NeverMet : (ℕ → Bool) → List HostCommand → Type 0
NeverMet these [] = Unit {0}
NeverMet these (Fork parent child from task ∷ history) =
    (these parent ≡ these child) × NeverMet these history
NeverMet these (_ ∷ history) = NeverMet these history
