-- What is wrong with the description of a machine.
use Rattle.std.specs.Prelude.{ℕ, ◌*◌, ◌&&◌, ◌||◌, not, Bool, List, length, nat_lt, nat_le}
use Rattle.std.specs.Prelude.{◌==◌, if◌then◌else◌, slice_index, sum, Option, Some, None}
use Rattle.std.specs.List.{range_with_len, list_any}
use Rattle.numa_mask.specs.NodeSet.{has, members}
use Rattle.numa_machine.specs.Machine.{Hardware, table_entry}
use Rattle.numa_machine.specs.declared.fallback.Fallback.{Fallback}
use Rattle.numa_machine.specs.declared.fallback.Fallback.TheVariants.{Nearest, Kernel}
use Rattle.numa_machine.specs.declared.fault.MachineFault.{MachineFault}
use Rattle.numa_machine.specs.declared.fault.MachineFault.TheVariants.{NodeCount, NoMemoryNode}
use Rattle.numa_machine.specs.declared.fault.MachineFault.TheVariants.{BadDistance, TooManyFrames}

-- whether a node below the number passes the test
abbrev pub some_node : ℕ → (ℕ → Bool) → Bool
some_node nodes test = list_any test (range_with_len 0 nodes)

-- the number of nodes is none of 1 to 256, or does not fit the table of distances or the list of
-- frames
abbrev pub has_bad_count : ℕ → List ℕ → List ℕ → Bool
has_bad_count nodes distances frames =
    nodes == 0 || nat_lt 256 nodes || not (length distances == nodes * nodes)
    || not (length frames == nodes)

-- a node of the set is none of the machine's
abbrev pub has_other_node : ℕ → ℕ → Bool
has_other_node nodes set = list_any (λ node. nat_le nodes node) (members set)

-- no node has memory, or one that is said to have some is none of the machine's
unfoldable pub has_bad_memory : ℕ → ℕ → Bool
has_bad_memory nodes memory = memory == 0 || has_other_node nodes memory

-- a node is at distance 10 from itself and farther from each other node
abbrev pub is_bad_distance : ℕ → ℕ → ℕ → Bool
is_bad_distance from to far = if from == to then not (far == 10) else nat_le far 10

unfoldable pub has_bad_distance : ℕ → List ℕ → Bool
has_bad_distance nodes distances =
    some_node nodes (λ from.
    some_node nodes (λ to. is_bad_distance from to (table_entry nodes distances from to)))

-- a node has at most 4,096 frames, and one without memory has none
abbrev pub are_bad_frames : ℕ → ℕ → ℕ → Bool
are_bad_frames memory node count = nat_lt 4096 count || (not (has memory node) && not (count == 0))

-- some node has too many frames, or all together have more than 65,536
unfoldable pub has_bad_frames : ℕ → ℕ → List ℕ → Bool
has_bad_frames nodes memory frames =
    some_node nodes (λ node. are_bad_frames memory node (slice_index frames node))
    || nat_lt 65536 (sum frames)

-- the first fault of the description of a machine, lack of memory apart
unfoldable pub machine_fault : ℕ → ℕ → List ℕ → List ℕ → Option MachineFault
machine_fault nodes memory distances frames =
    if has_bad_count nodes distances frames then Some NodeCount
    else if has_bad_memory nodes memory then Some NoMemoryNode
    else if has_bad_distance nodes distances then Some BadDistance
    else if has_bad_frames nodes memory frames then Some TooManyFrames
    else None

-- the first fault of a machine as it was described
abbrev pub hardware_fault : Hardware → Option MachineFault
hardware_fault hardware =
    machine_fault hardware.nodes hardware.memory hardware.distances hardware.frames

-- what is wrong with a machine's orders: a node that is said to have CPUs is none of the machine's
abbrev pub fallback_fault : ℕ → Fallback → Option MachineFault
fallback_fault nodes Nearest = None
fallback_fault nodes (Kernel cpus) = if has_other_node nodes cpus then Some NodeCount else None
