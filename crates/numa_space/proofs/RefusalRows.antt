-- Worked examples: what is refused, and for which cause.
use Rattle.std.proofs.Common.{◌≡◌, true, false, List, [], ◌∷◌, Some, None, Ok, Err, refl}
use Rattle.numa_mask.specs.NodeSet.{set_of, members}
use Rattle.numa_machine.specs.Sizes.{is_inside, is_part}
use Rattle.numa_machine.specs.Machine.{Hardware, fallback_order}
use Rattle.numa_machine.specs.declared.rules.Rules.TheVariants.{Linux}
use Rattle.numa_mode.specs.Policy.{specification_of}
use Rattle.numa_mode.specs.declared.modes.Mode.TheVariants.{Default, Preferred, Bind, Interleave}
use Rattle.numa_mode.specs.declared.modes.Mode.TheVariants.{Local}
use Rattle.numa_mode.specs.declared.modes.NodeFlag.TheVariants.{Plain, Relative}
use Rattle.numa_mode.specs.declared.specification.SpecError.TheVariants.{BothFlags, NodesForbidden}
use Rattle.numa_mode.specs.declared.specification.SpecError.TheVariants.{FlagsForbidden}
use Rattle.numa_mode.specs.declared.specification.SpecError.TheVariants.{NodesMissing}
use Rattle.numa_ranges.specs.Maps.{any_page}
use Rattle.numa_space.specs.Policies.{mems_of}
use Rattle.numa_space.specs.Refusals.{parts_pages}
use Rattle.numa_space.specs.Refusals.{lacks_mems}
use Rattle.numa_space.specs.Limited.{Bounds}
use Rattle.numa_space.specs.Lists.{node_list}
use Rattle.numa_space.specs.Refusals.{bad_map_span, bad_policy_span, bad_unmap_span, lacks_policy}
use Rattle.numa_space.specs.Refusals.{refusal_of, too_many_ranges}
use Rattle.numa_space.specs.Refusals.{scene_of}
use Rattle.numa_space.specs.Standing.{place_refusal_of}
use Rattle.numa_requests.specs.declared.command.Command.{Command}
use Rattle.numa_requests.specs.declared.command.Command.TheVariants.{Map, Unmap, Mbind, SetTask}
use Rattle.numa_requests.specs.declared.command.Command.TheVariants.{SetHome, SetWeight}
use Rattle.numa_requests.specs.declared.command.Command.TheVariants.{SetMems}
use Rattle.numa_requests.specs.declared.refusal.Refusal.TheVariants.{CommandsSpent, Unaligned}
use Rattle.numa_requests.specs.declared.refusal.Refusal.TheVariants.{OutOfSpace, EmptyLength}
use Rattle.numa_requests.specs.declared.refusal.Refusal.TheVariants.{BadOffset, Overlap, Hole}
use Rattle.numa_requests.specs.declared.refusal.Refusal.TheVariants.{NoSuchNode, BadWeight}
use Rattle.numa_requests.specs.declared.refusal.Refusal.TheVariants.{NodesNotAllowed, NotSupported}
use Rattle.numa_requests.specs.declared.refusal.Refusal.TheVariants.{NoPolicy, TooManyTasks}
use Rattle.numa_requests.specs.declared.refusal.Refusal.TheVariants.{BadSpan, NoNodes}
use Rattle.numa_machine.specs.declared.refusal.PlaceRefusal.TheVariants.{BadCpu, Unmapped}
use Rattle.numa_machine.specs.declared.page_size.PageSize.TheVariants.{Small}
use Rattle.numa_space.proofs.Rows.{flat, in_a_row, asked, mems}

unfoldable pub wide : Bounds
wide = record { max_ranges = 64; max_tasks = 64; max_commands = 64 }

-- ---- holes

two_maps : List Command
two_maps = Map 0x12000 0x1000 2 Small ∷ Map 0x10000 0x1000 0 Small ∷ []

bind-over_a_hole : refusal_of (flat 2) wide two_maps
    (Mbind 0x10000 0x3000 (asked Bind Plain (1 ∷ []))) ≡ Some Hole
unfolding any_page bad_policy_span bad_unmap_span bad_map_span lacks_policy parts_pages is_inside
    is_part two_maps wide mems_of
    lacks_mems
bind-over_a_hole = refl

default-over_a_hole : refusal_of (flat 2) wide two_maps
    (Mbind 0x10000 0x3000 (asked Default Plain [])) ≡ Some Hole
unfolding any_page bad_policy_span bad_unmap_span bad_map_span lacks_policy parts_pages is_inside
    is_part two_maps wide mems_of
    lacks_mems
default-over_a_hole = refl

mapped-has_a_list : node_list (flat 2) two_maps 1 0x10 0 ≡ 0 ∷ 1 ∷ []
unfolding members fallback_order two_maps mems_of lacks_mems
mapped-has_a_list = refl

hole-has_no_list : place_refusal_of (flat 2) two_maps 0x11 0 ≡ Some Unmapped
unfolding two_maps mems_of lacks_mems
hole-has_no_list = refl

node-comes_before_page : place_refusal_of (flat 2) two_maps 0x11 2 ≡ Some BadCpu
unfolding two_maps mems_of lacks_mems
node-comes_before_page = refl

-- ---- ends

last_page : List Command
last_page = Map 0x7ffffffff000 0x1000 0 Small ∷ []

-- up to address 2^47 only the number of ranges can stand against a map
map-up_to_the_end : refusal_of (flat 2) wide [] (Map 0x7ffffffff000 0x1000 0 Small) ≡
    too_many_ranges
    (scene_of (flat 2) wide [] (Map 0x7ffffffff000 0x1000 0 Small))
unfolding any_page bad_policy_span bad_unmap_span bad_map_span lacks_policy parts_pages is_inside
    is_part wide mems_of lacks_mems
map-up_to_the_end = refl

map-past_the_end : refusal_of (flat 2) wide last_page (Map 0x7ffffffff000 0x1001 0 Small)
    ≡ Some OutOfSpace
unfolding any_page bad_policy_span bad_unmap_span bad_map_span lacks_policy parts_pages is_inside
    is_part last_page wide mems_of
    lacks_mems
map-past_the_end = refl

-- a sum above every u64 is no small number
map-far_past_the_end : refusal_of (flat 2) wide [] (Map 0xfffffffffffff000 0x2000 0 Small)
    ≡ Some OutOfSpace
unfolding any_page bad_policy_span bad_unmap_span bad_map_span lacks_policy parts_pages is_inside
    is_part wide mems_of lacks_mems
map-far_past_the_end = refl

map-of_the_greatest_length : refusal_of (flat 2) wide [] (Map 0x10000 0xffffffffffffffff 0 Small)
    ≡ Some OutOfSpace
unfolding any_page bad_policy_span bad_unmap_span bad_map_span lacks_policy parts_pages is_inside
    is_part wide mems_of lacks_mems
map-of_the_greatest_length = refl

map-of_nothing : refusal_of (flat 2) wide last_page (Map 0x10000 0 0 Small) ≡ Some EmptyLength
unfolding any_page bad_policy_span bad_unmap_span bad_map_span lacks_policy parts_pages is_inside
    is_part last_page wide mems_of
    lacks_mems
map-of_nothing = refl

bind-of_nothing : refusal_of (flat 2) wide last_page (Mbind 0x20000 0 (asked Bind Plain (1 ∷ [])))
    ≡ None
unfolding any_page bad_policy_span bad_unmap_span bad_map_span lacks_policy parts_pages is_inside
    is_part last_page wide mems_of
    lacks_mems
bind-of_nothing = refl

unmap-of_nothing : refusal_of (flat 2) wide last_page (Unmap 0x20000 0) ≡ None
unfolding any_page bad_policy_span bad_unmap_span bad_map_span lacks_policy parts_pages is_inside
    is_part last_page wide mems_of
    lacks_mems
unmap-of_nothing = refl

map-between_pages : refusal_of (flat 2) wide last_page (Map 0x10001 1 0 Small) ≡ Some Unaligned
unfolding any_page bad_policy_span bad_unmap_span bad_map_span lacks_policy parts_pages is_inside
    is_part last_page wide mems_of
    lacks_mems
map-between_pages = refl

map-offset_too_large : refusal_of (flat 2) wide last_page (Map 0x30000 1 34359738368 Small)
    ≡ Some BadOffset
unfolding any_page bad_policy_span bad_unmap_span bad_map_span lacks_policy parts_pages is_inside
    is_part last_page wide mems_of
    lacks_mems
map-offset_too_large = refl

map-over_a_map : refusal_of (flat 2) wide (Map 0x10000 1 0 Small ∷ last_page) (Map 0x10000 0x2000 5
    Small)
    ≡ Some Overlap
unfolding any_page bad_policy_span bad_unmap_span bad_map_span lacks_policy parts_pages is_inside
    is_part last_page wide mems_of
    lacks_mems
map-over_a_map = refl

part_of_a_page-is_mapped : node_list (flat 2) (Map 0x10000 1 0 Small ∷ last_page) 1 0x10 0 ≡ 0 ∷ 1 ∷
    []
unfolding members fallback_order last_page mems_of lacks_mems
part_of_a_page-is_mapped = refl

-- ---- limits

narrow : Bounds
narrow = record { max_ranges = 2; max_tasks = 1; max_commands = 4 }

limited_run : List Command
limited_run = SetTask 1 (asked Local Plain []) ∷ Mbind 0x10000 0x1000 (asked Bind Plain (1 ∷ []))
    ∷ Map 0x10000 0x3000 0 Small ∷ []

second_task-too_many : refusal_of (flat 2) narrow limited_run (SetTask 2 (asked Local Plain []))
    ≡ Some TooManyTasks
unfolding limited_run narrow mems_of lacks_mems
second_task-too_many = refl

same_task-set_again : refusal_of (flat 2) narrow limited_run (SetTask 1 (asked Local Plain []))
    ≡ None
unfolding limited_run narrow mems_of lacks_mems
same_task-set_again = refl

default-takes_no_place : refusal_of (flat 2) narrow limited_run (SetTask 1 (asked Default Plain []))
    ≡ None
unfolding limited_run narrow mems_of lacks_mems
default-takes_no_place = refl

commands-spent : refusal_of (flat 2) narrow (SetTask 1 (asked Default Plain []) ∷ limited_run)
    (SetTask 1 (asked Local Plain [])) ≡ Some CommandsSpent
unfolding limited_run narrow mems_of lacks_mems
commands-spent = refl

-- ---- nodes

gap_machine : Hardware
gap_machine = record (flat 3) { memory = set_of (0 ∷ 2 ∷ []) }

one_page : List Command
one_page = Map 0x10000 0x1000 0 Small ∷ []

no_such-faulting_node : place_refusal_of gap_machine one_page 0x10 3 ≡ Some BadCpu
unfolding gap_machine one_page mems_of lacks_mems
no_such-faulting_node = refl

allowed-node_without_memory : refusal_of gap_machine wide one_page (mems (1 ∷ []))
    ≡ Some NodesNotAllowed
unfolding members gap_machine one_page wide mems_of lacks_mems
allowed-node_without_memory = refl

allowed-no_such_node : refusal_of gap_machine wide one_page (mems (3 ∷ [])) ≡ Some NoSuchNode
unfolding members gap_machine one_page wide mems_of lacks_mems
allowed-no_such_node = refl

allowed-some_with_memory : refusal_of gap_machine wide one_page (mems (0 ∷ 1 ∷ [])) ≡ None
unfolding members gap_machine one_page wide mems_of lacks_mems
allowed-some_with_memory = refl

wrapped_machine : Hardware
wrapped_machine = record (flat 5) { memory = set_of (1 ∷ 2 ∷ 3 ∷ 4 ∷ []) }

relative-mask_wraps : refusal_of wrapped_machine wide one_page
    (SetTask 1 (asked Bind Relative (5 ∷ []))) ≡ None
unfolding members wrapped_machine one_page wide mems_of lacks_mems
relative-mask_wraps = refl

plain-mask_overlaps_nothing : refusal_of wrapped_machine wide one_page
    (SetTask 1 (asked Bind Plain (5 ∷ []))) ≡ Some NodesNotAllowed
unfolding members wrapped_machine one_page wide mems_of lacks_mems
plain-mask_overlaps_nothing = refl

weight-zero : refusal_of (flat 2) wide one_page (SetWeight 1 0) ≡ Some BadWeight
unfolding one_page wide mems_of lacks_mems
weight-zero = refl

weight-too_large : refusal_of (flat 2) wide one_page (SetWeight 1 256) ≡ Some BadWeight
unfolding one_page wide mems_of lacks_mems
weight-too_large = refl

weight-no_such_node : refusal_of (flat 2) wide one_page (SetWeight 2 0) ≡ Some NoSuchNode
unfolding one_page wide mems_of lacks_mems
weight-no_such_node = refl

-- ---- homes

bound_run : List Command
bound_run = Mbind 0x12000 0x1000 (asked Interleave Plain (0 ∷ 1 ∷ 2 ∷ []))
    ∷ Mbind 0x10000 0x2000 (asked Bind Plain (0 ∷ 1 ∷ [])) ∷ Map 0x10000 0x4000 0 Small ∷ []

home-over_interleave : refusal_of in_a_row wide bound_run (SetHome 0x10000 0x3000 2)
    ≡ Some NotSupported
unfolding any_page bad_policy_span bad_unmap_span bad_map_span lacks_policy parts_pages is_inside
    is_part bound_run wide mems_of
    lacks_mems
home-over_interleave = refl

home-no_such_node : refusal_of in_a_row wide bound_run (SetHome 0x10000 0x1000 3) ≡ Some NoSuchNode
unfolding any_page bad_policy_span bad_unmap_span bad_map_span lacks_policy parts_pages is_inside
    is_part bound_run wide mems_of
    lacks_mems
home-no_such_node = refl

home-of_bound_pages : refusal_of in_a_row wide bound_run (SetHome 0x11000 0x1000 2)
    ≡ too_many_ranges (scene_of in_a_row wide bound_run (SetHome 0x11000 0x1000 2))
unfolding any_page bad_policy_span bad_unmap_span bad_map_span lacks_policy parts_pages is_inside
    is_part bound_run wide mems_of
    lacks_mems
home-of_bound_pages = refl

home-over_unmapped_pages : refusal_of in_a_row wide bound_run (SetHome 0x13000 0x2000 2)
    ≡ too_many_ranges (scene_of in_a_row wide bound_run (SetHome 0x13000 0x2000 2))
unfolding any_page bad_policy_span bad_unmap_span bad_map_span lacks_policy parts_pages is_inside
    is_part bound_run wide mems_of
    lacks_mems
home-over_unmapped_pages = refl

home-of_nothing : refusal_of in_a_row wide bound_run (SetHome 0x20000 0 2) ≡ None
unfolding any_page bad_policy_span bad_unmap_span bad_map_span lacks_policy parts_pages is_inside
    is_part bound_run wide mems_of
    lacks_mems
home-of_nothing = refl

home-of_nothing_at_no_such_node : refusal_of in_a_row wide bound_run (SetHome 0x20000 0 3)
    ≡ Some NoSuchNode
unfolding any_page bad_policy_span bad_unmap_span bad_map_span lacks_policy parts_pages is_inside
    is_part bound_run wide mems_of
    lacks_mems
home-of_nothing_at_no_such_node = refl

-- ---- specifications

preferred-without_nodes_is_local : specification_of Preferred false false 0
    ≡ Ok (asked Local Plain [])
preferred-without_nodes_is_local = refl

local-needs_no_nodes : refusal_of (flat 2) wide one_page (SetTask 1 (asked Local Plain [])) ≡ None
unfolding one_page wide mems_of lacks_mems
local-needs_no_nodes = refl

local-begins_at_the_fault : node_list (flat 2) (SetTask 1 (asked Local Plain []) ∷ one_page) 1 0x10
    1 ≡ 1 ∷ 0 ∷ []
unfolding members fallback_order one_page mems_of lacks_mems
local-begins_at_the_fault = refl

preferred_static-without_nodes : specification_of Preferred true false 0 ≡ Err FlagsForbidden
preferred_static-without_nodes = refl

both_flags : specification_of Bind true true 1 ≡ Err BothFlags
both_flags = refl

bind-without_nodes : specification_of Bind false false 0 ≡ Err NodesMissing
bind-without_nodes = refl

default-with_nodes : specification_of Default false false 1 ≡ Err NodesForbidden
default-with_nodes = refl

local-with_nodes : specification_of Local true false 1 ≡ Err NodesForbidden
local-with_nodes = refl

default-forgets_a_flag : specification_of Default true false 0 ≡ Ok (asked Default Plain [])
default-forgets_a_flag = refl

-- ---- by the rules of the kernel

linux : Hardware
linux = record (flat 2) { rules = Linux }

linux-default_passes_over_a_hole : refusal_of linux wide two_maps
    (Mbind 0x10000 0x3000 (asked Default Plain [])) ≡ too_many_ranges
    (scene_of linux wide two_maps (Mbind 0x10000 0x3000 (asked Default Plain [])))
unfolding any_page bad_policy_span bad_unmap_span parts_pages is_inside is_part two_maps wide linux
    mems_of lacks_mems
linux-default_passes_over_a_hole = refl

linux-default_where_nothing_is_mapped : refusal_of linux wide two_maps
    (Mbind 0x11000 0x1000 (asked Default Plain [])) ≡ Some Hole
unfolding any_page bad_policy_span bad_unmap_span two_maps wide linux mems_of lacks_mems
linux-default_where_nothing_is_mapped = refl

linux-hole_stays_one : place_refusal_of linux (Mbind 0x10000 0x3000 (asked Default Plain [])
    ∷ two_maps) 0x11 0 ≡ Some Unmapped
unfolding two_maps linux mems_of lacks_mems
linux-hole_stays_one = refl

linux-nodes_before_holes : refusal_of linux wide two_maps
    (Mbind 0x10000 0x3000 (asked Bind Plain (7 ∷ []))) ≡ Some NodesNotAllowed
unfolding members any_page bad_policy_span bad_unmap_span two_maps wide linux mems_of lacks_mems
linux-nodes_before_holes = refl

linux-map_of_the_last_page : refusal_of linux wide [] (Map 0x7ffffffff000 0x1000 0 Small)
    ≡ Some OutOfSpace
unfolding any_page bad_policy_span bad_unmap_span bad_map_span wide linux mems_of lacks_mems
linux-map_of_the_last_page = refl

linux-unmap_of_nothing : refusal_of linux wide last_page (Unmap 0x20000 0) ≡ Some EmptyLength
unfolding any_page bad_policy_span bad_unmap_span last_page wide linux mems_of lacks_mems
linux-unmap_of_nothing = refl

linux-weight_zero : refusal_of linux wide one_page (SetWeight 1 0) ≡ None
unfolding one_page wide linux mems_of lacks_mems
linux-weight_zero = refl

linux-home_without_policy : refusal_of linux wide one_page (SetHome 0x10000 0x1000 1)
    ≡ Some NoPolicy
unfolding any_page bad_policy_span bad_unmap_span lacks_policy parts_pages is_inside is_part
    one_page wide linux mems_of
    lacks_mems
linux-home_without_policy = refl

-- ---- at the end of the addresses

linux-map_of_nothing_there : refusal_of linux wide [] (Map 0x7ffffffff000 0 0 Small) ≡ Some
    EmptyLength
unfolding any_page bad_map_span wide linux mems_of lacks_mems
linux-map_of_nothing_there = refl

-- the end before the start, which is no page's
linux-map_between_pages_there : refusal_of linux wide [] (Map 0x7fffffffe001 1 0 Small) ≡ Some
    OutOfSpace
unfolding any_page bad_map_span wide linux mems_of lacks_mems
linux-map_between_pages_there = refl

linux-unmap_of_the_last_page : refusal_of linux wide [] (Unmap 0x7ffffffff000 0x1000)
    ≡ Some BadSpan
unfolding any_page bad_unmap_span wide linux mems_of lacks_mems
linux-unmap_of_the_last_page = refl

linux-unmap_past_the_end : refusal_of linux wide [] (Unmap 0x800000000000 0x1000) ≡ Some BadSpan
unfolding any_page bad_unmap_span wide linux mems_of lacks_mems
linux-unmap_past_the_end = refl

unmap-past_the_end : refusal_of (flat 2) wide [] (Unmap 0x800000000000 0x1000) ≡ Some OutOfSpace
unfolding any_page bad_unmap_span wide mems_of lacks_mems
unmap-past_the_end = refl

linux-bind_past_the_end : refusal_of linux wide two_maps
    (Mbind 0x800000000000 0x1000 (asked Bind Plain (1 ∷ []))) ≡ Some Hole
unfolding any_page bad_policy_span two_maps wide linux mems_of lacks_mems
linux-bind_past_the_end = refl

linux-bind_of_nothing_past_the_end : refusal_of linux wide two_maps
    (Mbind 0x800000001000 0 (asked Bind Plain (1 ∷ []))) ≡ None
unfolding any_page bad_policy_span two_maps wide linux mems_of lacks_mems
linux-bind_of_nothing_past_the_end = refl

-- a sum above every u64
linux-bind_past_all : refusal_of linux wide two_maps
    (Mbind 0xfffffffffffff000 0x1000 (asked Bind Plain (1 ∷ []))) ≡ Some BadSpan
unfolding any_page bad_policy_span two_maps wide linux mems_of lacks_mems
linux-bind_past_all = refl

bind-past_the_end : refusal_of (flat 2) wide two_maps
    (Mbind 0x800000001000 0 (asked Bind Plain (1 ∷ []))) ≡ Some OutOfSpace
unfolding any_page bad_policy_span two_maps wide mems_of lacks_mems
bind-past_the_end = refl

linux-home_past_the_end : refusal_of linux wide one_page (SetHome 0x800000000000 0x1000 1)
    ≡ Some NoPolicy
unfolding any_page bad_policy_span lacks_policy parts_pages is_inside is_part one_page wide linux
    mems_of lacks_mems
linux-home_past_the_end = refl

linux-home_of_nothing_past_the_end : refusal_of linux wide one_page (SetHome 0x800000000000 0 1)
    ≡ None
unfolding any_page bad_policy_span lacks_policy parts_pages is_inside is_part one_page wide linux
    mems_of lacks_mems
linux-home_of_nothing_past_the_end = refl

-- ---- no nodes

linux-mems_of_nothing : refusal_of linux wide one_page (SetMems 0) ≡ Some NoNodes
unfolding members one_page wide linux mems_of lacks_mems
linux-mems_of_nothing = refl

mems-of_nothing : refusal_of (flat 2) wide one_page (SetMems 0) ≡ Some NodesNotAllowed
unfolding members one_page wide mems_of lacks_mems
mems-of_nothing = refl
