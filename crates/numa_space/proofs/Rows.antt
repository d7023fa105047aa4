-- Worked examples: the fallback lists that the definitions give.
use Rattle.std.proofs.Common.{◌≡◌, ℕ, ◌^◌, ◌-◌, Some, None, ◌*◌, ◌/◌, ◌%◌, eqb, cond, List, [], ◌∷◌}
use Rattle.std.proofs.Common.{map, take, replicate, refl, false}
use Rattle.std.specs.List.{flat_map, range_with_len}
use Rattle.numa_mask.specs.NodeSet.{set_of, members}
use Rattle.numa_machine.specs.declared.fallback.Fallback.TheVariants.{Nearest, Kernel}
use Rattle.numa_machine.specs.declared.rules.Rules.TheVariants.{Document, Linux}
use Rattle.numa_machine.specs.Machine.{Hardware, fallback_order, loads_before}
use Rattle.numa_machine.specs.Sizes.{is_part, is_shared, turn_at}
use Rattle.numa_machine.specs.Weights.{interleave_node, weighted_node, total_weight}
use Rattle.numa_machine.specs.declared.page_size.PageSize.TheVariants.{Small}
use Rattle.numa_mode.specs.Policy.{Specification}
use Rattle.numa_mode.specs.declared.modes.Mode.{Mode}
use Rattle.numa_mode.specs.declared.modes.Mode.TheVariants.{Default, Preferred, Bind, Interleave}
use Rattle.numa_mode.specs.declared.modes.Mode.TheVariants.{Local, PreferredMany}
use Rattle.numa_mode.specs.declared.modes.Mode.TheVariants.{WeightedInterleave}
use Rattle.numa_mode.specs.declared.modes.NodeFlag.{NodeFlag}
use Rattle.numa_mode.specs.declared.modes.NodeFlag.TheVariants.{Plain, Static, Relative}
use Rattle.numa_space.specs.Policies.{mems_of}
use Rattle.numa_space.specs.Policies.{task_record}
use Rattle.numa_space.specs.Lists.{node_list}
use Rattle.numa_requests.specs.declared.command.Command.{Command}
use Rattle.numa_requests.specs.declared.command.Command.TheVariants.{Map, Unmap, Mbind, SetTask}
use Rattle.numa_requests.specs.declared.command.Command.TheVariants.{Inherit, SetHome, SetWeight}
use Rattle.numa_requests.specs.declared.command.Command.TheVariants.{SetMems}

-- ---- machines and specifications

-- a machine whose nodes all have memory, each as far from each other one
abbrev pub flat : ℕ → Hardware
flat nodes = record {
  nodes = nodes;
  memory = set_of (range_with_len 0 nodes);
  distances =
      map (λ k. cond (eqb (k / nodes) (k % nodes)) 10 20) (range_with_len 0 (nodes * nodes));
  frames =
      replicate nodes 8;
  rules = Document;
  fallback = Nearest;
}

-- three nodes in a row
abbrev pub in_a_row : Hardware
in_a_row = record {
  nodes = 3;
  memory = 7;
  distances = 10 ∷ 15 ∷ 20 ∷ 15 ∷ 10 ∷ 15 ∷ 20 ∷ 15 ∷ 10
      ∷ [];
  frames = replicate 3 8;
  rules = Document;
  fallback = Nearest;
}

-- a policy that is asked for with these nodes
abbrev pub asked : Mode → NodeFlag → List ℕ → Specification
asked mode flag nodes = record { mode = mode; flag = flag; mask = set_of nodes }

abbrev pub mems : List ℕ → Command
mems nodes = SetMems (set_of nodes)

-- the first nodes of the lists of a span of pages, for faults on node 0
firsts : Hardware → List Command → ℕ → ℕ → ℕ → List ℕ
firsts machine history task first pages =
    flat_map (λ page. take 1 (node_list machine history task page 0)) (range_with_len first pages)

-- ---- a bound page and one without a policy

first_run : List Command
first_run = Mbind 0x10000 0x1000 (asked Bind Plain (1 ∷ [])) ∷ Map 0x10000 0x2000 0 Small ∷ []

bound-page : node_list (flat 2) first_run 1 0x10 0 ≡ 1 ∷ []
unfolding members fallback_order first_run mems_of
bound-page = refl

page-without_policy : node_list (flat 2) first_run 1 0x11 0 ≡ 0 ∷ 1 ∷ []
unfolding members fallback_order first_run mems_of
page-without_policy = refl

-- ---- changes of the allowed nodes

interleaved_run : List Command
interleaved_run =
    mems (3 ∷ 4 ∷ 5 ∷ [])
    ∷ SetTask 2 (asked Interleave Static (1 ∷ 2 ∷ 3 ∷ []))
    ∷ SetTask 1 (asked Interleave Plain (1 ∷ 2 ∷ 3 ∷ []))
    ∷ mems (1 ∷ 2 ∷ 3 ∷ [])
    ∷ Map 0x10000 0x6000 0 Small
    ∷ []

plain-set_moves : firsts (flat 6) interleaved_run 1 0x10 6 ≡ 3 ∷ 4 ∷ 5 ∷ 3 ∷ 4 ∷ 5 ∷ []
unfolding members fallback_order interleave_node turn_at is_part is_shared firsts interleaved_run mems_of
plain-set_moves = refl

static-set_stays : firsts (flat 6) interleaved_run 2 0x10 6 ≡ 3 ∷ 3 ∷ 3 ∷ 3 ∷ 3 ∷ 3 ∷ []
unfolding members fallback_order interleave_node turn_at is_part is_shared firsts interleaved_run mems_of
static-set_stays = refl

relative_run : List Command
relative_run = SetTask 1 (asked Interleave Relative (2 ∷ 3 ∷ 4 ∷ 5 ∷ []))
    ∷ mems (2 ∷ 3 ∷ 4 ∷ 5 ∷ []) ∷ Map 0x10000 0x4000 0 Small ∷ []

relative-as_set : firsts (flat 8) relative_run 1 0x10 4 ≡ 2 ∷ 3 ∷ 4 ∷ 5 ∷ []
unfolding members fallback_order interleave_node turn_at is_part is_shared firsts relative_run mems_of
relative-as_set = refl

relative-more_nodes : firsts (flat 8) (mems (3 ∷ 4 ∷ 5 ∷ 6 ∷ 7 ∷ []) ∷ relative_run) 1 0x10 4 ≡ 3
    ∷ 5 ∷ 6 ∷ 7 ∷ []
unfolding members fallback_order interleave_node turn_at is_part is_shared firsts relative_run mems_of
relative-more_nodes = refl

relative-scattered_nodes :
    firsts (flat 8) (mems (0 ∷ 2 ∷ 3 ∷ 5 ∷ []) ∷ mems (3 ∷ 4 ∷ 5 ∷ 6 ∷ 7 ∷ []) ∷ relative_run) 1
    0x10 4 ≡ 0 ∷ 2 ∷ 3 ∷ 5 ∷ []
unfolding members fallback_order interleave_node turn_at is_part is_shared firsts relative_run mems_of
relative-scattered_nodes = refl

-- a mask's numbers wrap where they pass the last place: 5 is place 1 of four nodes
wrapped_machine : Hardware
wrapped_machine = record (flat 5) { memory = set_of (1 ∷ 2 ∷ 3 ∷ 4 ∷ []) }

relative-mask_wraps : node_list wrapped_machine (SetTask 1 (asked Bind Relative (5 ∷ []))
    ∷ Map 0x10000 0x1000 0 Small ∷ []) 1 0x10 0 ≡ 2 ∷ []
unfolding members fallback_order wrapped_machine mems_of
relative-mask_wraps = refl

plain_run : List Command
plain_run = SetTask 1 (asked Interleave Plain (1 ∷ 3 ∷ 5 ∷ [])) ∷ mems (1 ∷ 2 ∷ 3 ∷ 4 ∷ 5 ∷ [])
    ∷ Map 0x10000 0x3000 0 Small ∷ []

plain-as_set : firsts (flat 10) plain_run 1 0x10 3 ≡ 1 ∷ 3 ∷ 5 ∷ []
unfolding members fallback_order interleave_node turn_at is_part is_shared firsts plain_run mems_of
plain-as_set = refl

plain-moved : firsts (flat 10) (mems (7 ∷ 8 ∷ 9 ∷ []) ∷ plain_run) 1 0x10 3 ≡ 7 ∷ 8 ∷ 9 ∷ []
unfolding members fallback_order interleave_node turn_at is_part is_shared firsts plain_run mems_of
plain-moved = refl

plain-not_restored : firsts (flat 10) (mems (1 ∷ 2 ∷ 3 ∷ 4 ∷ 5 ∷ []) ∷ mems (7 ∷ 8 ∷ 9 ∷ [])
    ∷ plain_run) 1 0x10 3 ≡ 1 ∷ 2 ∷ 3 ∷ []
unfolding members fallback_order interleave_node turn_at is_part is_shared firsts plain_run mems_of
plain-not_restored = refl

-- so does a plain BIND
plain_bind_run : List Command
plain_bind_run = mems (7 ∷ 8 ∷ 9 ∷ []) ∷ SetTask 1 (asked Bind Plain (1 ∷ 3 ∷ 5 ∷ []))
    ∷ mems (1 ∷ 2 ∷ 3 ∷ 4 ∷ 5 ∷ []) ∷ Map 0x10000 0x1000 0 Small ∷ []

plain_bind-moved : node_list (flat 10) plain_bind_run 1 0x10 0 ≡ 7 ∷ 8 ∷ 9 ∷ []
unfolding members fallback_order plain_bind_run mems_of
plain_bind-moved = refl

plain_bind-not_restored : node_list (flat 10) (mems (1 ∷ 2 ∷ 3 ∷ 4 ∷ 5 ∷ []) ∷ plain_bind_run) 1
    0x10 0 ≡ 1 ∷ 2 ∷ 3 ∷ []
unfolding members fallback_order plain_bind_run mems_of
plain_bind-not_restored = refl

-- PREFERRED keeps the lowest of its nodes
preferred-lowest : task_record (flat 2) (SetTask 4 (asked Preferred Plain (0 ∷ 1 ∷ [])) ∷ []) 4
    ≡ Some
    (record {
      spec = asked Preferred Plain (0 ∷ 1 ∷ []);
      effective = set_of (0 ∷ []);
      home = None;
      of_object = false;
    })
unfolding members mems_of
preferred-lowest = refl

-- the greatest node that there can be: 255 folds to place 0 of three nodes
many_nodes : Hardware
many_nodes = record {
  nodes = 256;
  memory = 2 ^ 256 - 1;
  distances = [];
  frames = [];
  rules =
      Document;
  fallback = Nearest;
}

relative-many_nodes : task_record many_nodes
    (mems (64 ∷ 65 ∷ 66 ∷ []) ∷ SetTask 1 (asked Bind Relative (1 ∷ 255 ∷ [])) ∷ []) 1
    ≡ Some
    (record {
      spec = asked Bind Relative (1 ∷ 255 ∷ []);
      effective = set_of (64 ∷ 65 ∷ []);
      home = None;
      of_object = false;
    })
unfolding members many_nodes mems_of
relative-many_nodes = refl

-- a static policy that overlaps no allowed node makes way for the task's
static_run : List Command
static_run = Mbind 0x10000 0x1000 (asked Bind Static (1 ∷ []))
    ∷ SetTask 1 (asked Preferred Plain (3 ∷ [])) ∷ Map 0x10000 0x1000 0 Small ∷ []

static-overlaps : node_list (flat 4) static_run 1 0x10 0 ≡ 1 ∷ []
unfolding members fallback_order static_run mems_of
static-overlaps = refl

static-makes_way : node_list (flat 4) (mems (2 ∷ 3 ∷ []) ∷ static_run) 1 0x10 0 ≡ 3 ∷ 2 ∷ []
unfolding members fallback_order static_run mems_of
static-makes_way = refl

static-restored : node_list (flat 4) (mems (0 ∷ 1 ∷ 2 ∷ 3 ∷ []) ∷ mems (2 ∷ 3 ∷ []) ∷ static_run) 1
    0x10 0 ≡ 1 ∷ []
unfolding members fallback_order static_run mems_of
static-restored = refl

-- a task's plain set follows each change, and is not restored
task_run : List Command
task_run = mems (2 ∷ 3 ∷ []) ∷ Mbind 0x10000 0x1000 (asked Bind Static (1 ∷ []))
    ∷ SetTask 1 (asked Bind Plain (2 ∷ [])) ∷ Map 0x10000 0x1000 0 Small ∷ []

task_run_after : List Command
task_run_after = mems (0 ∷ 1 ∷ 2 ∷ 3 ∷ []) ∷ task_run

task-stands_in : node_list (flat 4) task_run 1 0x10 0 ≡ 2 ∷ []
unfolding members fallback_order task_run mems_of
task-stands_in = refl

range-counts_again : node_list (flat 4) task_run_after 1 0x10 0 ≡ 1 ∷ []
unfolding members fallback_order task_run_after task_run mems_of
range-counts_again = refl

task-not_restored : node_list (flat 4) (Mbind 0x10000 0x1000 (asked Default Plain [])
    ∷ task_run_after) 1 0x10 0 ≡ 0 ∷ []
unfolding members fallback_order task_run_after task_run mems_of
task-not_restored = refl

-- ---- weights

weighted_run : List Command
weighted_run = SetTask 1 (asked WeightedInterleave Plain (0 ∷ 1 ∷ [])) ∷ Map 0x10000 0x6000 3 Small
    ∷ SetWeight 1 2 ∷ SetWeight 0 5 ∷ []

weighted-blocks : firsts (flat 2) weighted_run 1 0x10 6 ≡ 0 ∷ 0 ∷ 1 ∷ 1 ∷ 0 ∷ 0 ∷ []
unfolding members fallback_order weighted_node turn_at is_part is_shared total_weight firsts weighted_run
    mems_of
weighted-blocks = refl

weighted-list : node_list (flat 2) weighted_run 1 0x12 0 ≡ 1 ∷ 0 ∷ []
unfolding members fallback_order weighted_node turn_at is_part is_shared total_weight weighted_run mems_of
weighted-list = refl

preferred_many-list : node_list (flat 2) (SetTask 2 (asked PreferredMany Plain (1 ∷ []))
    ∷ weighted_run) 2 0x10 0 ≡ 1 ∷ 0 ∷ []
unfolding members fallback_order weighted_node turn_at is_part is_shared total_weight weighted_run mems_of
preferred_many-list = refl

-- ---- a policy in the middle of a range, and its removal

split_run : List Command
split_run = Mbind 0x13000 0x3000 (asked Bind Plain (2 ∷ []))
    ∷ SetTask 1 (asked Interleave Plain (0 ∷ 1 ∷ 2 ∷ 3 ∷ [])) ∷ Map 0x10000 0xa000 0 Small ∷ []

split-keeps_indexes : firsts (flat 4) split_run 1 0x10 10 ≡ 0 ∷ 1 ∷ 2 ∷ 2 ∷ 2 ∷ 2 ∷ 2 ∷ 3 ∷ 0 ∷ 1
    ∷ []
unfolding members fallback_order interleave_node turn_at is_part is_shared firsts split_run mems_of
split-keeps_indexes = refl

default-joins_again : firsts (flat 4) (Mbind 0x13000 0x3000 (asked Default Plain []) ∷ split_run) 1
    0x10 10 ≡ 0 ∷ 1 ∷ 2 ∷ 3 ∷ 0 ∷ 1 ∷ 2 ∷ 3 ∷ 0 ∷ 1 ∷ []
unfolding members fallback_order interleave_node turn_at is_part is_shared firsts split_run mems_of
default-joins_again = refl

-- maps side by side keep their own indexes, and so does what is left of them
beside_run : List Command
beside_run = SetTask 1 (asked Interleave Plain (0 ∷ 1 ∷ 2 ∷ 3 ∷ [])) ∷ Map 0x12000 0x1000 7 Small
    ∷ Map 0x11000 0x1000 6 Small ∷ Map 0x10000 0x1000 0 Small ∷ []

beside-own_indexes : firsts (flat 4) beside_run 1 0x10 3 ≡ 0 ∷ 2 ∷ 3 ∷ []
unfolding members fallback_order interleave_node turn_at is_part is_shared firsts beside_run mems_of
beside-own_indexes = refl

unmapped-keeps_indexes : firsts (flat 4) (Unmap 0xf000 0x3000 ∷ beside_run) 1 0x12 1 ≡ 3 ∷ []
unfolding members fallback_order interleave_node turn_at is_part is_shared firsts beside_run mems_of
unmapped-keeps_indexes = refl

-- ---- nodes without memory

-- node 1 has none
gap_machine : Hardware
gap_machine = record {
  nodes = 3;
  memory = set_of (0 ∷ 2 ∷ []);
  distances = 10 ∷ 20 ∷ 255 ∷ 20 ∷ 10
      ∷ 20 ∷ 255 ∷ 20 ∷ 10 ∷ [];
  frames = 8 ∷ 0 ∷ 8 ∷ [];
  rules = Document;
  fallback = Nearest;
}

one_page : List Command
one_page = Map 0x10000 0x1000 0 Small ∷ []

no_memory-from_it : node_list gap_machine one_page 1 0x10 1 ≡ 0 ∷ 2 ∷ []
unfolding members fallback_order gap_machine one_page mems_of
no_memory-from_it = refl

no_memory-from_beside : node_list gap_machine one_page 1 0x10 2 ≡ 2 ∷ 0 ∷ []
unfolding members fallback_order gap_machine one_page mems_of
no_memory-from_beside = refl

no_memory-allowed : node_list gap_machine (mems (0 ∷ 1 ∷ []) ∷ one_page) 1 0x10 2 ≡ 0 ∷ []
unfolding members fallback_order gap_machine one_page mems_of
no_memory-allowed = refl

-- ---- which policy counts

local_run : List Command
local_run =
    Mbind 0x12000 0x1000 (asked Local Plain [])
    ∷ Mbind 0x11000 0x1000 (asked Bind Plain (1 ∷ 2 ∷ []))
    ∷ SetTask 1 (asked Bind Plain (0 ∷ 1 ∷ []))
    ∷ Map 0x10000 0x3000 0 Small
    ∷ []

task-counts : node_list in_a_row local_run 1 0x10 2 ≡ 1 ∷ 0 ∷ []
unfolding members fallback_order local_run mems_of
task-counts = refl

range-counts : node_list in_a_row local_run 1 0x11 0 ≡ 1 ∷ 2 ∷ []
unfolding members fallback_order local_run mems_of
range-counts = refl

local-counts : node_list in_a_row local_run 1 0x12 2 ≡ 2 ∷ 1 ∷ 0 ∷ []
unfolding members fallback_order local_run mems_of
local-counts = refl

-- a task that inherits has the other's policy, and keeps it when the other gets one of its own;
-- both follow the allowed nodes
heir-has_it : node_list in_a_row (SetTask 1 (asked Bind Plain (2 ∷ [])) ∷ Inherit 2 1 ∷ local_run) 2
    0x10 2 ≡ 1 ∷ 0 ∷ []
unfolding members fallback_order local_run mems_of
heir-has_it = refl

heir-follows : node_list in_a_row (mems (1 ∷ 2 ∷ []) ∷ Inherit 2 1 ∷ local_run) 2 0x10 0 ≡ 1 ∷ 2
    ∷ []
unfolding members fallback_order local_run mems_of
heir-follows = refl

-- from a task without a policy nothing is inherited, and what the heir had is gone
heir-has_none : node_list in_a_row (Inherit 1 2 ∷ local_run) 1 0x10 1 ≡ 1 ∷ 0 ∷ 2 ∷ []
unfolding members fallback_order local_run mems_of
heir-has_none = refl

none-is_local : node_list in_a_row local_run 2 0x10 1 ≡ 1 ∷ 0 ∷ 2 ∷ []
unfolding members fallback_order local_run mems_of
none-is_local = refl

default-is_no_policy : node_list in_a_row (Mbind 0x11000 0x1000 (asked Default Plain [])
    ∷ local_run) 1 0x11 2 ≡ 1 ∷ 0 ∷ []
unfolding members fallback_order local_run mems_of
default-is_no_policy = refl

default-twice : node_list in_a_row (SetTask 1 (asked Default Plain [])
    ∷ Mbind 0x11000 0x1000 (asked Default Plain []) ∷ local_run) 1 0x11 2 ≡ 2 ∷ 1 ∷ 0 ∷ []
unfolding members fallback_order local_run mems_of
default-twice = refl

-- ---- homes

bound_run : List Command
bound_run = Mbind 0x12000 0x1000 (asked Interleave Plain (0 ∷ 1 ∷ 2 ∷ []))
    ∷ Mbind 0x10000 0x2000 (asked Bind Plain (0 ∷ 1 ∷ [])) ∷ Map 0x10000 0x4000 0 Small ∷ []

home_run : List Command
home_run = SetHome 0x11000 0x1000 2 ∷ bound_run

bound-without_home : node_list in_a_row home_run 1 0x10 0 ≡ 0 ∷ 1 ∷ []
unfolding members fallback_order home_run bound_run mems_of
bound-without_home = refl

bound-with_home : node_list in_a_row home_run 1 0x11 0 ≡ 1 ∷ 0 ∷ []
unfolding members fallback_order home_run bound_run mems_of
bound-with_home = refl

bound_anew-has_no_home : node_list in_a_row (Mbind 0x11000 0x1000 (asked Bind Plain (0 ∷ 1 ∷ []))
    ∷ home_run) 1 0x11 0 ≡ 0 ∷ 1 ∷ []
unfolding members fallback_order home_run bound_run mems_of
bound_anew-has_no_home = refl

home-without_policy : node_list in_a_row (SetHome 0x13000 0x2000 2 ∷ home_run) 1 0x13 0 ≡ 0 ∷ 1 ∷ 2
    ∷ []
unfolding members fallback_order home_run bound_run mems_of
home-without_policy = refl

preferred_many-with_home :
    node_list in_a_row
    (SetHome 0x13000 0x1000 2 ∷ Mbind 0x13000 0x1000 (asked PreferredMany Plain (1 ∷ []))
    ∷ home_run) 1 0x13 0 ≡ 1 ∷ 2 ∷ 0 ∷ []
unfolding members fallback_order home_run bound_run mems_of
preferred_many-with_home = refl

-- ---- by the rules of the kernel

linux : Hardware
linux = record (flat 4) { rules = Linux }

-- PREFERRED keeps its node, from which the allowed ones are looked for
preferred-stays : node_list linux (mems (2 ∷ 3 ∷ []) ∷ SetTask 1 (asked Preferred Plain (1 ∷ []))
    ∷ Map 0x10000 0x1000 0 Small ∷ []) 1 0x10 0 ≡ 2 ∷ 3 ∷ []
unfolding members fallback_order linux mems_of
preferred-stays = refl

-- so does PREFERRED_MANY: what of its set is allowed comes first
many-stays : node_list linux (mems (0 ∷ 2 ∷ []) ∷ SetTask 1 (asked PreferredMany Plain (1 ∷ 2 ∷ []))
    ∷ Map 0x10000 0x1000 0 Small ∷ []) 1 0x10 0 ≡ 2 ∷ 0 ∷ []
unfolding members fallback_order linux mems_of
many-stays = refl

-- a static policy that overlaps no allowed node has them all
static-has_all : node_list linux (mems (2 ∷ 3 ∷ []) ∷ static_run) 1 0x10 0 ≡ 2 ∷ 3 ∷ []
unfolding members fallback_order static_run linux mems_of
static-has_all = refl

-- weight 0 puts back 1
weight-put_back : firsts linux (SetWeight 0 0 ∷ weighted_run) 1 0x10 3 ≡ 0 ∷ 1 ∷ 1 ∷ []
unfolding members fallback_order weighted_node turn_at is_part is_shared total_weight firsts weighted_run
    linux mems_of
weight-put_back = refl

-- ---- by the orders of a kernel, where all nodes have CPUs

turning : Hardware
turning = record (flat 4) { fallback = Kernel 15 }

turning-preferred : node_list turning (SetTask 1 (asked Preferred Plain (2 ∷ []))
    ∷ Map 0x10000 0x1000 0 Small ∷ []) 1 0x10 0 ≡ 2 ∷ 3 ∷ 0 ∷ 1 ∷ []
unfolding members fallback_order loads_before turning mems_of
turning-preferred = refl

turning-bound : node_list turning (Mbind 0x10000 0x1000 (asked Bind Plain (0 ∷ 1 ∷ 3 ∷ []))
    ∷ Map 0x10000 0x1000 0 Small ∷ []) 1 0x10 1 ≡ 1 ∷ 3 ∷ 0 ∷ []
unfolding members fallback_order loads_before turning mems_of
turning-bound = refl
