-- Worked examples: what a kernel (6.12) answered of first nodes, and by rule the rest of each list.
use Rattle.std.proofs.Common.{◌≡◌, ℕ, ◌+◌, Bool, true, false, Some, None, Option, List, []}
use Rattle.std.proofs.Common.{◌∷◌, replicate, refl, nat_le, nat_lt, ◌&&◌}
use Rattle.numa_mask.specs.NodeSet.{members}
use Rattle.numa_machine.specs.Machine.{Hardware, fallback_order}
use Rattle.numa_machine.specs.Sizes.{is_part, is_shared, turn_at}
use Rattle.numa_machine.specs.Weights.{interleave_node}
use Rattle.numa_machine.specs.declared.fallback.Fallback.TheVariants.{Nearest}
use Rattle.numa_machine.specs.declared.rules.Rules.TheVariants.{Linux}
use Rattle.numa_mode.specs.Policy.{PolicyRecord}
use Rattle.numa_mode.specs.declared.modes.Mode.{Mode}
use Rattle.numa_mode.specs.declared.modes.Mode.TheVariants.{Bind, Interleave, Preferred}
use Rattle.numa_mode.specs.declared.modes.NodeFlag.TheVariants.{Plain}
use Rattle.numa_ranges.specs.Maps.{any_page}
use Rattle.numa_space.specs.Lists.{Setting}
use Rattle.numa_blocks.specs.Blocks.{block_index, orders_for}
use Rattle.numa_blocks.specs.Settings.{first_settings, with_all, with_size}
use Rattle.numa_blocks.specs.Touches.{Placing, after_touch}
use Rattle.numa_blocks.specs.Tries.{Try, answered, taken_of, tries_at}
use Rattle.numa_blocks.specs.declared.area.Area.{Area}
use Rattle.numa_blocks.specs.declared.settings.Advice.{Advice}
use Rattle.numa_blocks.specs.declared.settings.Advice.TheVariants.{Neither, Huge, NoHuge}
use Rattle.numa_blocks.specs.declared.settings.BlockSettings.{BlockSettings}
use Rattle.numa_blocks.specs.declared.settings.Enabled.TheVariants.{Always, Madvise}
use Rattle.numa_blocks.specs.declared.settings.SizeEnabled.TheVariants.{Own}

-- ---- the machine of all examples; its orders are 0 1 2 3, 1 0 2 3, 2 3 0 1, 3 2 1 0

abbrev four_nodes : Hardware
four_nodes = record {
  nodes = 4;
  memory = 15;
  distances = 10 ∷ 12 ∷ 20 ∷ 22 ∷ 12 ∷ 10 ∷ 20 ∷ 21 ∷ 20
      ∷ 20 ∷ 10 ∷ 13 ∷ 22 ∷ 21 ∷ 13 ∷ 10 ∷ [];
  frames = replicate 4 0;
  rules = Linux;
  fallback = Nearest;
}

abbrev allowing : ℕ → Setting
allowing nodes = record { machine = four_nodes; allowed = nodes; weight = λ node. 1 }

abbrev policy : Mode → ℕ → Option ℕ → Option PolicyRecord
policy mode nodes home = Some (record {
  spec = record { mode = mode; flag = Plain; mask = nodes };
  effective = nodes;
  home = home;
  of_object = false;
})

abbrev interleaved : Option PolicyRecord
interleaved = policy Interleave 11 None

abbrev area_of : ℕ → ℕ → Advice → Area
area_of first pages advice = record {
  first = first;
  pages = pages;
  index = first;
  advice = advice;
}

-- `thp always madvise`
abbrev always : BlockSettings
always = with_all Always Madvise first_settings

abbrev nowhere : ℕ → Bool
nowhere page = false

abbrev asked : ℕ → List ℕ → Bool → Try
asked order nodes alone = record { order = order; nodes = nodes; alone = alone }

-- what is answered of a page, for a fault on a CPU of a node
abbrev answer : ℕ → BlockSettings → Area → Option PolicyRecord → ℕ → ℕ → List Try
answer allowed settings area policy page cpu =
    answered (tries_at (allowing allowed) settings area nowhere policy page cpu)

-- ---- interleaved over 0, 1 and 3: the index counts blocks from the area's beginning

abbrev aligned : Area
aligned = area_of 0x200000 0xc00 Neither

whole_block : answer 15 always aligned interleaved 0x200000 2 ≡ asked 9 (1 ∷ 0 ∷ 2 ∷ 3 ∷ []) false
    ∷ []
unfolding members fallback_order any_page is_part is_shared turn_at interleave_node
whole_block = refl

abbrev unaligned : Area
unaligned = area_of 0x300005 0xc00 Neither

before_the_area : answer 15 always unaligned interleaved 0x300005 2
    ≡ asked 0 (3 ∷ 2 ∷ 1 ∷ 0 ∷ []) false ∷ []
unfolding members fallback_order any_page is_part is_shared turn_at interleave_node
before_the_area = refl

first_of_the_area : answer 15 always unaligned interleaved 0x300200 2
    ≡ asked 9 (0 ∷ 1 ∷ 2 ∷ 3 ∷ []) false ∷ []
unfolding members fallback_order any_page is_part is_shared turn_at interleave_node
first_of_the_area = refl

second_of_the_area : answer 15 always unaligned interleaved 0x300400 2
    ≡ asked 9 (1 ∷ 0 ∷ 2 ∷ 3 ∷ []) false ∷ []
unfolding members fallback_order any_page is_part is_shared turn_at interleave_node
second_of_the_area = refl

-- where the area begins elsewhere, its blocks have other indexes
third_of_the_whole : block_index unaligned 9 0x300600 ≡ 0x1802
third_of_the_whole = refl

second_of_the_rest : block_index (area_of 0x300400 0x805 Neither) 9 0x300600 ≡ 0x1803
second_of_the_rest = refl

cut_area : answer 15 always (area_of 0x300400 0x805 Neither) interleaved 0x300600 2
    ≡ asked 9 (0 ∷ 1 ∷ 2 ∷ 3 ∷ []) false ∷ []
unfolding members fallback_order any_page is_part is_shared turn_at interleave_node
cut_area = refl

-- ---- nodes 0 and 1 allowed, no policy: the CPU's node alone, or small pages

cpu_not_allowed : answer 3 always aligned None 0x200000 2 ≡ asked 0 (0 ∷ 1 ∷ []) false ∷ []
unfolding members fallback_order any_page is_part is_shared turn_at interleave_node
cpu_not_allowed = refl

cpu_alone : answer 3 always aligned None 0x200200 1
    ≡ asked 9 (1 ∷ []) true ∷ asked 0 (1 ∷ 0 ∷ []) false ∷ []
unfolding members fallback_order any_page is_part is_shared turn_at interleave_node
cpu_alone = refl

advised_elsewhere : answer 3 always (area_of 0x200800 0x200 Huge) None 0x200800 3
    ≡ asked 9 (1 ∷ 0 ∷ []) false ∷ []
unfolding members fallback_order any_page is_part is_shared turn_at interleave_node
advised_elsewhere = refl

preferred_alone : answer 15 always aligned (policy Preferred 4 None) 0x200000 0
    ≡ asked 9 (2 ∷ []) true ∷ asked 0 (2 ∷ 3 ∷ 0 ∷ 1 ∷ []) false ∷ []
unfolding members fallback_order any_page is_part is_shared turn_at interleave_node
preferred_alone = refl

-- a home counts; a CPU outside the set of BIND asks all of the set
home_alone : answer 3 always (area_of 0x200a00 0x200 Neither) (policy Bind 3 (Some 1)) 0x200a00 0
    ≡ asked 9 (1 ∷ []) true ∷ asked 0 (1 ∷ 0 ∷ []) false ∷ []
unfolding members fallback_order any_page is_part is_shared turn_at interleave_node
home_alone = refl

home_advised : answer 3 always (area_of 0x200a00 0x200 Huge) (policy Bind 3 (Some 1)) 0x200a00 0
    ≡ asked 9 (1 ∷ 0 ∷ []) false ∷ []
unfolding members fallback_order any_page is_part is_shared turn_at interleave_node
home_advised = refl

bound_elsewhere : answer 15 always aligned (policy Bind 3 None) 0x200000 2
    ≡ asked 9 (0 ∷ 1 ∷ []) false ∷ []
unfolding members fallback_order any_page is_part is_shared turn_at interleave_node
bound_elsewhere = refl

-- ---- `thp madvise madvise`, `thp 64 always`, `thp 256 madvise`; interleaved over 0 to 2

abbrev by_size : BlockSettings
by_size = with_size 6 (Own Madvise) (with_size 4 (Own Always)
    (with_all Madvise Madvise first_settings))

small_block : answer 15 by_size aligned (policy Interleave 7 None) 0x200010 0
    ≡ asked 4 (0 ∷ 1 ∷ 2 ∷ 3 ∷ []) false ∷ []
unfolding members fallback_order any_page is_part is_shared turn_at interleave_node
small_block = refl

advised_block : answer 15 by_size (area_of 0x200100 0x100 Huge) (policy Interleave 7 None) 0x200140
    0 ≡ asked 6 (1 ∷ 0 ∷ 2 ∷ 3 ∷ []) false ∷ []
unfolding members fallback_order any_page is_part is_shared turn_at interleave_node
advised_block = refl

-- ---- pages that were touched, and areas without blocks

abbrev touched_from : ℕ → ℕ → ℕ → Bool
touched_from first end page = nat_le first page && nat_lt page end

-- one touched page of 2 MiB leaves the smaller blocks that lack it
around_a_page : orders_for by_size aligned (touched_from 0x200030 0x200031) 0x200010 ≡ 4 ∷ 0 ∷ []
unfolding any_page
around_a_page = refl

beside_a_page : orders_for always aligned (touched_from 0x2001ff 0x200200) 0x200000 ≡ 0 ∷ []
unfolding any_page
beside_a_page = refl

advised_against : orders_for always (area_of 0x200000 0xc00 NoHuge) nowhere 0x200000 ≡ 0 ∷ []
unfolding any_page
advised_against = refl

beyond_the_end : orders_for always (area_of 0x200000 0x1ff Neither) nowhere 0x200000 ≡ 0 ∷ []
unfolding any_page
beyond_the_end = refl

-- pages of a pool and of a shared object
abbrev from_index : ℕ → Area
from_index index = record { first = 0x200000; pages = 0xc00; index = index; advice = Huge }

of_a_pool : orders_for always (from_index 0x1000000000) nowhere 0x200000 ≡ 0 ∷ []
unfolding any_page
of_a_pool = refl

of_an_object : orders_for always (from_index 0x2000000000) nowhere 0x200000 ≡ 0 ∷ []
unfolding any_page
of_an_object = refl

-- ---- rooms: a block needs room for all its pages on one node

abbrev rooms : ℕ → ℕ
rooms node = 511 + node

first_room : taken_of rooms (asked 9 (0 ∷ 2 ∷ []) false ∷ asked 0 (0 ∷ []) false ∷ [])
    ≡ Some (9, 2)
first_room = refl

small_room : taken_of rooms (asked 9 (0 ∷ []) true ∷ asked 0 (0 ∷ 1 ∷ []) false ∷ [])
    ≡ Some (0, 0)
small_room = refl

-- ---- touches

abbrev empty : Placing
empty = record { on = λ page. None; room = None }

abbrev by_cpu : ℕ → ℕ → (ℕ → Bool) → List Try
by_cpu cpu page touched = tries_at (allowing 15) always aligned touched None page cpu

-- the first thread's touch takes all 512 pages for its own node; another finds them there
abbrev first_touch : Placing
first_touch = after_touch (by_cpu 1) 0x200005 empty

last_of_the_block : first_touch.on 0x2001ff ≡ Some 1
unfolding members fallback_order any_page is_part is_shared turn_at interleave_node
last_of_the_block = refl

behind_the_block : first_touch.on 0x200200 ≡ None
unfolding members fallback_order any_page is_part is_shared turn_at interleave_node
behind_the_block = refl

other_thread : (after_touch (by_cpu 3) 0x200006 first_touch).on 0x200006 ≡ Some 1
unfolding members fallback_order any_page is_part is_shared turn_at interleave_node
other_thread = refl
