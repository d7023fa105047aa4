-- How a page comes to a node when a task faults on it on a CPU of another: which nodes have to be
-- full.
use Rattle.std.specs.Prelude.{◌≡◌, ℕ, zero, suc, ◌==◌, ◌++◌, Bool, true, Option, Some, None, List}
use Rattle.std.specs.Prelude.{[], ◌∷◌, if◌then◌else◌}
use Rattle.numa_mask.specs.NodeSet.{has, with_node}
use Rattle.numa_machine.specs.Machine.{Hardware}
use Rattle.numa_machine.specs.declared.fallback.Fallback.{Fallback}
use Rattle.numa_machine.specs.declared.fallback.Fallback.TheVariants.{Kernel, Nearest}
use Rattle.numa_space.specs.Lists.{node_list}
use Rattle.numa_space.specs.Standing.{place_refusal_of}
use Rattle.numa_requests.specs.declared.command.Command.{Command}
use Rattle.numa_placed.specs.Binds.{list_unless}
use Rattle.numa_reports.specs.declared.coming.Coming.{Coming}

-- a set and the nodes of a list before a node, if the list has it
abbrev pub set_before : ℕ → List ℕ → ℕ → Option ℕ
set_before node [] set = None
set_before node (other ∷ nodes) set =
    if other == node then Some set else set_before node nodes (with_node set other)

-- the nodes that a fault of a task on a page finds before a node; none where the list lacks it, or
-- the question is refused
abbrev pub full_before : Hardware → List Command → ℕ → ℕ → ℕ → ℕ → Option ℕ
full_before machine history task page node cpu = set_before node
    (list_unless (place_refusal_of machine history page cpu)
    (node_list machine history task page cpu)) 0

-- whether tasks run on a node, as far as the machine says which nodes have CPUs
abbrev pub runs_on : Fallback → ℕ → Bool
runs_on (Kernel cpus) node = has cpus node
runs_on Nearest node = true

abbrev pub coming_on : Hardware → List Command → ℕ → ℕ → ℕ → ℕ → Coming
coming_on machine history task page node cpu = record {
  cpu = cpu;
  full = full_before machine history task page node cpu;
}

abbrev pub coming_if : Bool → Coming → List Coming
coming_if runs coming = if runs then coming ∷ [] else []

-- from each of so many nodes on which tasks run, rising
abbrev pub comings_from : Hardware → List Command → ℕ → ℕ → ℕ → ℕ → List Coming
comings_from machine history task page node zero = []
comings_from machine history task page node (suc cpu) =
    comings_from machine history task page node cpu
    ++ coming_if (runs_on machine.fallback cpu) (coming_on machine history task page node cpu)

-- every node of a set is full
abbrev pub AreFull : ℕ → (ℕ → ℕ) → Type 0
AreFull set room = (node : ℕ) → has set node ≡ true → room node ≡ 0
