-- Small hosts, and what their processes have accepted.
use Rattle.std.proofs.Common.{◌≡◌, List, [], ◌∷◌, Option, Some, None, refl}
use Rattle.numa_mask.specs.NodeSet.{members}
use Rattle.numa_machine.specs.Machine.{Hardware}
use Rattle.numa_machine.specs.declared.fallback.Fallback.TheVariants.{Nearest}
use Rattle.numa_machine.specs.declared.rules.Rules.TheVariants.{Document}
use Rattle.numa_machine.specs.declared.page_size.PageSize.TheVariants.{Small}
use Rattle.numa_requests.specs.declared.command.Command.TheVariants as own
use Rattle.numa_requests.specs.declared.host_command.HostCommand.{HostCommand}
use Rattle.numa_space.specs.Limited.{Bounds}
use Rattle.numa_requests.specs.declared.host_command.HostCommand.TheVariants.{NewGroup}
use Rattle.numa_requests.specs.declared.host_command.HostCommand.TheVariants.{SetGroupMems}
use Rattle.numa_requests.specs.declared.host_command.HostCommand.TheVariants.{NewProcess, Exit}
use Rattle.numa_requests.specs.declared.host_command.HostCommand.TheVariants.{Attach}
use Rattle.numa_requests.specs.declared.host_command.HostCommand.TheVariants.{Fork, In, SetWeight}
use Rattle.numa_requests.specs.declared.host_refusal.HostRefusal.{HostRefusal}
use Rattle.numa_requests.specs.declared.host_refusal.HostRefusal.TheVariants as cause
use Rattle.numa_host.specs.Causes.{host_refusal_of}
use Rattle.numa_host.specs.Processes.{commands_of, nodes_of}

four : Hardware
four = record {
  nodes = 4;
  memory = 15;
  distances = [];
  frames = [];
  rules = Document;
  fallback =
      Nearest;
}

-- a weight, two groups, one below the other, a process in the lower, the upper narrowed to nodes
-- 1 and 2, a fork
run : List HostCommand
run = Fork 1 2 7 9 ∷ SetGroupMems 5 (Some 6) ∷ In 1 (own.Map 0x10000 0x1000 0 Small) ∷ NewProcess 1
    8
    ∷ NewGroup 8 5 ∷ NewGroup 5 0 ∷ SetWeight 1 5 ∷ []

child-has_all : commands_of four run 2 ≡ own.Inherit 9 7 ∷ own.SetMems 6 ∷ own.Map 0x10000 0x1000
    0 Small ∷ own.SetWeight 1 5 ∷ []
unfolding run four
child-has_all = refl

-- the lower group's list has no node of the upper's: it counts no longer, and nothing changes
lower-ignored : commands_of four (SetGroupMems 8 (Some 8) ∷ run) 1 ≡ commands_of four run 1
unfolding run four
lower-ignored = refl

-- back in the root, all nodes are allowed again; the other process stays
attached : (nodes_of four (Attach 1 0 ∷ run) 1 ≡ 15) × (nodes_of four (Attach 1 0 ∷ run) 2 ≡ 6)
unfolding run four
attached = (refl, refl)

-- a process that begins in the lower group is allowed the upper's nodes
born-narrow : commands_of four (NewProcess 3 8 ∷ run) 3 ≡ own.SetMems 6 ∷ own.SetWeight 1 5 ∷ []
unfolding run four
born-narrow = refl

-- one that has the number of a process that ended begins with the weights alone
born-again : commands_of four (NewProcess 2 0 ∷ Exit 2 ∷ run) 2 ≡ own.SetWeight 1 5 ∷ []
unfolding run four
born-again = refl

-- what the parent does after the fork isn't the child's
parent-alone : commands_of four (In 1 (own.Unmap 0x10000 0x1000) ∷ run) 2
    ≡ commands_of four run 2
unfolding run four
parent-alone = refl

-- ---- first causes

few : Bounds
few = record { max_ranges = 64; max_tasks = 8; max_commands = 7 }

some : Bounds
some = record { max_ranges = 64; max_tasks = 8; max_commands = 8 }

-- all commands are spent, whatever else stands against it
spent : host_refusal_of four few run (Exit 9) ≡ Some cause.CommandsSpent
unfolding run four few
spent = refl

abbrev first : HostCommand → Option HostRefusal
first command = host_refusal_of four some run command

group-first : (first (NewGroup 5 99) ≡ Some cause.GroupExists)
    × (first (NewGroup 6 99) ≡ Some cause.NoSuchGroup) × (first (NewGroup 6 8) ≡ None)
unfolding run four some
group-first = (refl, refl, refl)

-- the upper group has a list, and both processes are below it; the lower one has none
mems-first : (first (SetGroupMems 99 None) ≡ Some cause.NoSuchGroup)
    × (first (SetGroupMems 0 None) ≡ Some cause.RootGroup)
    × (first (SetGroupMems 5 None) ≡ Some cause.Populated) × (first (SetGroupMems 8 None) ≡ None)
unfolding run four some
mems-first = (refl, refl, refl, refl)

-- the machine has no node 4
node-first : first (SetGroupMems 5 (Some 16)) ≡ Some cause.NoSuchNode
unfolding run four some members
node-first = refl

process-first : (first (NewProcess 1 99) ≡ Some cause.ProcessExists)
    × (first (NewProcess 3 99) ≡ Some cause.NoSuchGroup)
    × (first (Exit 9) ≡ Some cause.NoSuchProcess)
    × (first (Attach 9 99) ≡ Some cause.NoSuchProcess)
    × (first (Attach 1 99) ≡ Some cause.NoSuchGroup)
unfolding run four some
process-first = (refl, refl, refl, refl, refl)

fork-first : (first (Fork 9 1 7 7) ≡ Some cause.ProcessExists)
    × (first (Fork 9 3 7 7) ≡ Some cause.NoSuchProcess)
unfolding run four some
fork-first = (refl, refl)

in-first : (first (In 9 (own.SetMems 1)) ≡ Some cause.NoSuchProcess)
    × (first (In 1 (own.SetMems 1)) ≡ Some cause.GroupMems)
unfolding run four some
in-first = (refl, refl)
