-- No process has accepted more commands than the host.
use Rattle.std.proofs.Common.{◌≤◌, ℕ, Bool, true, false, List, [], ◌∷◌, length, eqb, arith, inl}
use Rattle.std.proofs.Common.{inr, if◌then◌else◌, suc}
use Rattle.std.proofs.lemmas.Bool.{cases_Bool}
use Rattle.numa_machine.specs.Machine.{Hardware}
use Rattle.numa_requests.specs.declared.command.Command.{Command}
use Rattle.numa_requests.specs.declared.host_command.HostCommand.{HostCommand}
use Rattle.numa_requests.specs.declared.host_command.HostCommand.TheVariants.{NewGroup}
use Rattle.numa_requests.specs.declared.host_command.HostCommand.TheVariants.{SetGroupMems}
use Rattle.numa_requests.specs.declared.host_command.HostCommand.TheVariants.{NewProcess, Exit}
use Rattle.numa_requests.specs.declared.host_command.HostCommand.TheVariants.{Attach}
use Rattle.numa_requests.specs.declared.host_command.HostCommand.TheVariants.{Fork, In, SetWeight}
use Rattle.numa_host.specs.Groups.{groups_of, effective_mems}
use Rattle.numa_host.specs.Processes.{when_moved, weights_of, commands_of, nodes_of}

pub weights-few : (history : List HostCommand) → length (weights_of history) ≤ length history
weights-few [] = omega arith
weights-few (NewGroup name parent ∷ history) = omega (arith, weights-few history)
weights-few (SetGroupMems name mems ∷ history) = omega (arith, weights-few history)
weights-few (NewProcess process group ∷ history) = omega (arith, weights-few history)
weights-few (Exit process ∷ history) = omega (arith, weights-few history)
weights-few (Attach process group ∷ history) = omega (arith, weights-few history)
weights-few (Fork parent child from task ∷ history) = omega (arith, weights-few history)
weights-few (In process command ∷ history) = omega (arith, weights-few history)
weights-few (SetWeight node weight ∷ history) = omega (arith, weights-few history)

moved-few : (old new : ℕ) (commands : List Command) (n : ℕ) → length commands ≤ n
    → length (when_moved old new commands) ≤ suc n
moved-few old new commands n few =
    elim (cases_Bool (eqb old new)) [
      | inl e ↦ rw e (omega (arith, few))
      | inr e ↦
          rw e (omega (arith, few))
    ]

choice-few : (b : Bool) (xs ys : List Command) (n : ℕ) → length xs ≤ n → length ys ≤ n
    → length (if b then xs else ys) ≤ n
choice-few true xs ys n h k = h
choice-few false xs ys n h k = k

pub commands-few : (machine : Hardware) (history : List HostCommand) (process : ℕ)
    → length (commands_of machine history process) ≤ length history
commands-few machine [] process = omega arith
commands-few machine (NewGroup name parent ∷ history) process =
    moved-few (nodes_of machine history process)
    (nodes_of machine (NewGroup name parent ∷ history) process) _ _
    (commands-few machine history process)
commands-few machine (SetGroupMems name mems ∷ history) process =
    moved-few (nodes_of machine history process)
    (nodes_of machine (SetGroupMems name mems ∷ history) process) _ _
    (commands-few machine history process)
commands-few machine (NewProcess other group ∷ history) process =
    choice-few (eqb other process) _ (commands_of machine history process) (suc (length history))
    (moved-few machine.memory (effective_mems machine.memory (groups_of history) group)
    (weights_of history) (length history) (weights-few history))
    (omega (arith, commands-few machine history process))
commands-few machine (Attach other group ∷ history) process =
    moved-few (nodes_of machine history process)
    (nodes_of machine (Attach other group ∷ history) process) _ _
    (commands-few machine history process)
commands-few machine (Exit other ∷ history) process =
    choice-few (eqb other process) (weights_of history) (commands_of machine history process)
    (suc (length history)) (omega (arith, weights-few history))
    (omega (arith, commands-few machine history process))
commands-few machine (Fork parent child from task ∷ history) process =
    choice-few (eqb child process) _ (commands_of machine history process) (suc (length history))
    (omega (arith, commands-few machine history parent))
    (omega (arith, commands-few machine history process))
commands-few machine (In other command ∷ history) process =
    choice-few (eqb other process) _ (commands_of machine history process) (suc (length history))
    (omega (arith, commands-few machine history process))
    (omega (arith, commands-few machine history process))
commands-few machine (SetWeight node weight ∷ history) process =
    omega (arith, commands-few machine history process)
