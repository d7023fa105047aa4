-- On which nodes a first touch looks for each order, in turn (Linux 6.12).
use Rattle.std.specs.Prelude.{ℕ, ◌==◌, ◌^◌, nat_le, Bool, false, Option, Some, None, List, []}
use Rattle.std.specs.Prelude.{◌∷◌, if◌then◌else◌, is_some, slice_index, unwrap_or}
use Rattle.std.specs.List.{flat_map}
use Rattle.numa_mask.specs.NodeSet.{has, members}
use Rattle.numa_mode.specs.Policy.{PolicyRecord}
use Rattle.numa_mode.specs.declared.modes.Mode.{Mode}
use Rattle.numa_mode.specs.declared.modes.Mode.TheVariants.{Default, Preferred, Bind, Interleave}
use Rattle.numa_mode.specs.declared.modes.Mode.TheVariants.{Local, PreferredMany}
use Rattle.numa_mode.specs.declared.modes.Mode.TheVariants.{WeightedInterleave}
use Rattle.numa_space.specs.Lists.{Setting, list_for}
use Rattle.numa_blocks.specs.Blocks.{block_index, orders_for}
use Rattle.numa_blocks.specs.Settings.{asks_others}
use Rattle.numa_blocks.specs.declared.area.Area.{Area}
use Rattle.numa_blocks.specs.declared.settings.BlockSettings.{BlockSettings}

-- ---- one node alone

-- the node, where the set has it
abbrev pub if_in : ℕ → ℕ → Option ℕ
if_in set node = if has set node then Some node else None

-- the node that a mode with this set asks first for 2 MiB, for a fault that counts as one on node
-- `from`: that node itself, the preferred one, or that node where the set of BIND has it. The other
-- modes ask no node before the others
abbrev pub node_by_mode : Mode → ℕ → ℕ → Option ℕ
node_by_mode Default set from = Some from
node_by_mode Local set from = Some from
node_by_mode Preferred set from = Some (slice_index (members set) 0)
node_by_mode Bind set from = if_in set from
node_by_mode PreferredMany set from = None
node_by_mode Interleave set from = None
node_by_mode WeightedInterleave set from = None

-- the node that is asked first for 2 MiB; a home, if the policy has one, replaces the CPU's node
abbrev pub lone_node : Option PolicyRecord → ℕ → Option ℕ
lone_node None cpu = Some cpu
lone_node (Some r) cpu = node_by_mode r.spec.mode r.effective (unwrap_or r.home cpu)

-- such a node is asked alone, and no other, for an order: where the order is 2 MiB, and other nodes
-- aren't asked in this area
abbrev pub is_alone : BlockSettings → Area → Option PolicyRecord → ℕ → ℕ → Bool
is_alone settings area policy cpu order =
    if order == 9
    then if asks_others settings area.advice then false else is_some (lone_node policy cpu)
    else false

-- ---- the nodes of an order

-- a node alone, where it is allowed
abbrev pub only_node : ℕ → Option ℕ → List ℕ
only_node allowed None = []
only_node allowed (Some node) = if has allowed node then node ∷ [] else []

-- the nodes that are asked for the block of a page, in turn: the fallback list of its index, or one
-- node alone; where that isn't allowed, none
abbrev pub asked_nodes : Setting → BlockSettings → Area → Option PolicyRecord → ℕ → ℕ → ℕ → List ℕ
asked_nodes setting settings area policy page cpu order =
    if is_alone settings area policy cpu order
    then only_node setting.allowed (lone_node policy cpu)
    else list_for setting policy cpu (block_index area order page)

-- ---- all tries of a first touch

-- an order, the nodes that are asked for it in turn, and whether one is asked alone
pub record Try : Type 0 where
  pub order : ℕ
  pub nodes : List ℕ
  pub alone : Bool

-- an order for which no node is asked isn't tried
abbrev pub some_try : Try → List Try
some_try try = some_of try.nodes
  where
    some_of : List ℕ → List Try
    some_of [] = []
    some_of (node ∷ nodes) = try ∷ []

abbrev pub try_of : Setting → BlockSettings → Area → Option PolicyRecord → ℕ → ℕ → ℕ → Try
try_of setting settings area policy page cpu order = record {
  order = order;
  nodes = asked_nodes setting settings area policy page cpu order;
  alone = is_alone settings area policy cpu order;
}

-- all that a first touch of a page by a task with this policy tries, in turn, for a fault on a CPU
-- of node `cpu`
abbrev pub tries_at : Setting → BlockSettings → Area → (ℕ → Bool) → Option PolicyRecord → ℕ → ℕ
    → List Try
tries_at setting settings area touched policy page cpu = flat_map
    (λ order. some_try (try_of setting settings area policy page cpu order))
    (orders_for settings area touched page)

-- what is answered of them: up to the first that asks all nodes which the policy may have
abbrev pub answered : List Try → List Try
answered [] = []
answered (try ∷ tries) = if try.alone then try ∷ answered tries else try ∷ []

-- ---- with rooms

-- the first of the nodes that has room for so many pages of 4 KiB
abbrev pub first_with_room : (ℕ → ℕ) → ℕ → List ℕ → Option ℕ
first_with_room room pages [] = None
first_with_room room pages (node ∷ nodes) = if nat_le pages (room node)
    then Some node else first_with_room room pages nodes

-- an order and the node that was found for it, or else another answer
abbrev pub found_or : ℕ → Option ℕ → Option (ℕ × ℕ) → Option (ℕ × ℕ)
found_or order None other = other
found_or order (Some node) other = Some (order, node)

-- the order and the node of the first try that finds room for all pages of its block
abbrev pub taken_of : (ℕ → ℕ) → List Try → Option (ℕ × ℕ)
taken_of room [] = None
taken_of room (try ∷ tries) =
    found_or try.order (first_with_room room (2 ^ try.order) try.nodes) (taken_of room tries)
