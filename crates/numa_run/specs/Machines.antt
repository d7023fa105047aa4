-- What the lines before a machine is ready are answered.
use Rattle.std.specs.Prelude.{ℕ, ◌==◌, ◌&&◌, ◌||◌, nat_le, nat_lt, Bool, true, false, Option}
use Rattle.std.specs.Prelude.{Some, None, if◌then◌else◌}
use Rattle.std.specs.List.{range_with_len}
use Rattle.numa_mask.specs.NodeSet.{set_of}
use Rattle.numa_machine.specs.Machine.{Hardware}
use Rattle.numa_machine.specs.declared.fallback.Fallback.{Fallback}
use Rattle.numa_machine.specs.declared.fallback.Fallback.TheVariants.{Nearest, Kernel}
use Rattle.numa_machine.specs.declared.rules.Rules.{Rules}
use Rattle.numa_machine.specs.Faults.{hardware_fault, has_other_node}
use Rattle.numa_machine.specs.declared.fault.MachineFault.{MachineFault}
use Rattle.numa_machine.specs.declared.fault.MachineFault.TheVariants as machine_fault
use Rattle.numa_page_state.specs.Outcomes.{Lack, is_starved}
use Rattle.numa_script.specs.Machines.{frames_for, distances_for}
use Rattle.numa_script.specs.declared.line.MachineLine.{MachineLine}

-- limits R T C: no more than 65,536 ranges and 1,024 tasks
abbrev pub limits_fit : ℕ → ℕ → Bool
limits_fit ranges tasks = nat_le ranges 65536 && nat_le tasks 1024

-- cpus LIST: the nodes with CPUs, of so many nodes; all of them where no line names any
abbrev pub nodes_with_cpus : ℕ → Option ℕ → ℕ
nodes_with_cpus nodes None = set_of (range_with_len 0 nodes)
nodes_with_cpus nodes (Some cpus) = cpus

-- the orders in which allocations fall back: a kernel's, where these nodes have CPUs, or by
-- distance alone
abbrev pub fallback_by : Bool → ℕ → Fallback
fallback_by true cpus = Kernel cpus
fallback_by false cpus = Nearest

-- the machine that a line describes, these of its nodes with memory, by rules that were chosen
-- before; and these of its nodes with CPUs
abbrev pub hardware_of : MachineLine → ℕ → Rules → ℕ → Hardware
hardware_of said memory rules cpus = record {
  nodes = said.nodes;
  memory = memory;
  distances = distances_for said.nodes said.distances;
  frames = frames_for said.nodes memory said.frames;
  rules = rules;
  fallback = fallback_by said.kernel_orders cpus;
}

-- the machine has too many nodes, or none, or lacks one that is said to have CPUs
abbrev pub has_bad_nodes : ℕ → ℕ → Bool
has_bad_nodes nodes cpus = nodes == 0 || nat_lt 256 nodes || has_other_node nodes cpus

-- the first fault, where these nodes have CPUs: the nodes are judged before the tables, the machine
-- and its core are made, and they are made before all else is judged
abbrev pub first_fault : Lack → ℕ → Hardware → Option MachineFault
first_fault lack cpus hardware =
    if has_bad_nodes hardware.nodes cpus then Some machine_fault.NodeCount
    else if is_starved lack then Some machine_fault.NoMemory
    else hardware_fault hardware
