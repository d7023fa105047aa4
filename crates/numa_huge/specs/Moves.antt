-- Pages of 2 MiB that go to other nodes (mm/hugetlb.c, move_hugetlb_state). Each goes whole, and
-- takes no room: a free page of its new node serves, or one of the total changes nodes.
use Rattle.std.specs.Prelude.{ℕ, zero, suc, ◌+◌, ◌==◌, ◌&&◌, Bool, true, false, not, Option, Some}
use Rattle.std.specs.Prelude.{None, List, [], ◌∷◌, if◌then◌else◌}
use Rattle.numa_mask.specs.NodeSet.{has}
use Rattle.numa_mode.specs.Policy.{PolicyRecord}
use Rattle.numa_mode.specs.declared.modes.Mode.{Mode}
use Rattle.numa_mode.specs.declared.modes.Mode.TheVariants.{PreferredMany}
use Rattle.numa_space.specs.Lists.{within}
use Rattle.numa_space.specs.Standing.{SpaceState, policy_in}
use Rattle.numa_placed.specs.Binds.{nodes_in}
use Rattle.numa_placed.specs.Moves.{moved_node}
use Rattle.numa_placed.specs.Shifts.{source_from, sum_below}
use Rattle.numa_placed.specs.Tallies.{leave_on}
use Rattle.numa_pools.specs.Moves.{moving}
use Rattle.numa_pools.specs.Pools.{PoolCounts, giver, moving_one, renewing}
use Rattle.numa_huge.specs.Huge.{HugeLying, faulting, giver_for, no_huge, on_node, pages_of}
use Rattle.numa_huge.specs.Huge.{with_span}
use Rattle.numa_huge.specs.declared.spot.HugeSpot.{HugeSpot}
use Rattle.numa_huge.specs.declared.spot.HugeSpot.TheVariants.{Bare, Reserved, On}

-- ---- what is told of a move

-- how many pages moved, how many had a node to go to and stayed, and how many went from each node
-- to each other
pub record HugeTold : Type 0 where
  pub moved : ℕ
  pub left : ℕ
  pub flow : ℕ → ℕ → ℕ

-- nothing moved
abbrev pub stayed : HugeTold
stayed = record { moved = 0; left = 0; flow = λ from to. 0 }

-- one more stayed
abbrev pub with_left : HugeTold → HugeTold
with_left told = record told { left = told.left + 1 }

-- one more went from a node to another, if it is another
abbrev pub with_moved : ℕ → ℕ → HugeTold → HugeTold
with_moved from to told = if from == to then told else record {
  moved = told.moved + 1;
  left = told.left;
  flow = λ one other. told.flow one other + (if (from == one) && (to == other) then 1 else 0);
}

-- ---- node by node: when allowed nodes change, or by migrate_pages(2)

abbrev pub for_source : Option ℕ → PoolCounts → (ℕ → PoolCounts) → PoolCounts
for_source None pools rest = pools
for_source (Some source) pools rest = rest source

-- the pages of the nodes that are still to go leave for the nodes of their nodes, in the order of
-- all moves; at most so many nodes
unfoldable pub leaving : ℕ → (ℕ → ℕ) → (ℕ → ℕ) → (ℕ → Bool) → PoolCounts → PoolCounts
leaving zero go count waits pools = pools
leaving (suc n) go count waits pools = for_source (source_from go waits None 0 256) pools
    (λ source. leaving n go count (λ node. waits node && not (node == source))
    (moving pools source (go source) (count source)))

-- a page once the pages of each node went to another
abbrev pub gone_spot : (ℕ → ℕ) → Option HugeSpot → Option HugeSpot
gone_spot go (Some (On node)) = Some (On (go node))
gone_spot go (Some Bare) = Some Bare
gone_spot go (Some Reserved) = Some Reserved
gone_spot go None = None

-- how many pages lie on each node
abbrev pub count_on : (ℕ → Option HugeSpot) → ℕ → ℕ
count_on spots node = pages_of (on_node node) spots

-- the pages leave one set of nodes for another
abbrev pub following : ℕ → ℕ → HugeLying → HugeLying
following old new huge = record {
  pools = leaving 256 (moved_node old new) (count_on huge.spots) (has old) huge.pools;
  spots = λ page. gone_spot (moved_node old new) (huge.spots page);
}

-- how many leave each node then, and how many in all: none stays
abbrev pub leave_from : ℕ → ℕ → (ℕ → Option HugeSpot) → ℕ → ℕ
leave_from old new spots node = leave_on (moved_node old new) (count_on spots) node

abbrev pub leave_all : ℕ → ℕ → (ℕ → Option HugeSpot) → ℕ
leave_all old new spots = sum_below 256 (leave_from old new spots)

-- where they went
abbrev pub told_following : ℕ → ℕ → (ℕ → Option HugeSpot) → HugeTold
told_following old new spots = record {
  moved = leave_all old new spots;
  left = 0;
  flow = λ from to. if moved_node old new from == to then leave_from old new spots from else 0;
}

-- ---- page by page

-- a page that lies on a node goes to another
abbrev pub passing : ℕ → ℕ → ℕ → HugeLying → HugeLying
passing page from to huge = if from == to then huge else record {
  pools = moving_one huge.pools from to;
  spots = with_span page 1 (Some (On to)) huge.spots;
}

-- move_pages(2), of a page that lies somewhere
abbrev pub moved_to : Option HugeSpot → ℕ → ℕ → HugeLying → HugeLying
moved_to (Some (On from)) page node huge = passing page from node huge
moved_to (Some Bare) page node huge = huge
moved_to (Some Reserved) page node huge = huge
moved_to None page node huge = huge

abbrev pub told_moving : Option HugeSpot → ℕ → HugeTold
told_moving (Some (On from)) node = with_moved from node stayed
told_moving (Some Bare) node = stayed
told_moving (Some Reserved) node = stayed
told_moving None node = stayed

-- ---- mbind(2) with MPOL_MF_MOVE

abbrev pub is_many : Mode → Bool
is_many PreferredMany = true
is_many _ = false

-- the nodes of a page's list to which it may go by a policy: of many preferred ones those alone
-- (that are allowed, as all of a list are), else all
abbrev pub named_by : Option PolicyRecord → List ℕ → List ℕ
named_by None list = list
named_by (Some r) list = if is_many r.spec.mode then within r.effective list else list

-- those of a page, for a fault of the task on the node
abbrev pub named_in : SpaceState → ℕ → ℕ → ℕ → List ℕ
named_in space task cpu page = named_by (policy_in space task page) (nodes_in space task cpu page)

-- a page goes to the first of these nodes that has a free page which isn't reserved; where none
-- has, to the first of them
abbrev pub or_first : Option ℕ → List ℕ → Option ℕ
or_first (Some node) nodes = Some node
or_first None [] = None
or_first None (node ∷ nodes) = Some node

abbrev pub goal : PoolCounts → List ℕ → Option ℕ
goal pools nodes = or_first (giver pools nodes false) nodes

-- whether a page lies on a node that isn't in a list
abbrev pub is_astray : ℕ → Option HugeSpot → Bool
is_astray list (Some (On node)) = not (has list node)
is_astray list (Some Bare) = false
is_astray list (Some Reserved) = false
is_astray list None = false

-- how far such a call is: the pages, and what is told so far
pub record HugeWalk : Type 0 where
  pub huge : HugeLying
  pub told : HugeTold

abbrev pub walk_from : HugeLying → HugeWalk
walk_from huge = record { huge = huge; told = stayed }

-- a page that lies on a node goes to another; or stays, and a free page of its own node takes its
-- place, where one serves
abbrev pub replacing : ℕ → ℕ → ℕ → HugeLying → HugeLying
replacing page from to huge = if from == to
    then record huge { pools = renewing huge.pools from }
    else passing page from to huge

-- a page that lies astray goes; one that has no node to go to stays
abbrev pub sending : ℕ → ℕ → Option ℕ → HugeWalk → HugeWalk
sending page from None walk = record walk { told = with_left walk.told }
sending page from (Some to) walk = record {
  huge = replacing page from to walk.huge;
  told = with_moved from to walk.told;
}

abbrev pub sent_where : Bool → Option HugeSpot → ℕ → List ℕ → HugeWalk → HugeWalk
sent_where astray (Some (On from)) page nodes walk =
    if astray then sending page from (goal walk.huge.pools nodes) walk else walk
sent_where astray (Some Bare) page nodes walk = walk
sent_where astray (Some Reserved) page nodes walk = walk
sent_where astray None page nodes walk = walk

abbrev pub sent_page : ℕ → (ℕ → List ℕ) → ℕ → HugeWalk → HugeWalk
sent_page list nodes page walk = sent_where (is_astray list (walk.huge.spots page))
    (walk.huge.spots page) page (nodes page) walk

-- the pages from one on go, the lowest first, each to one of its own nodes
unfoldable pub sent_pages : ℕ → (ℕ → List ℕ) → ℕ → ℕ → HugeWalk → HugeWalk
sent_pages list nodes first zero walk = walk
sent_pages list nodes first (suc pages) walk =
    sent_pages list nodes (first + 1) pages (sent_page list nodes first walk)

-- ---- first touches of a span (madvise(2), MADV_POPULATE_WRITE)

-- how many pages went to a node, how many found none that gives one, and how many went to each node
pub record HugeArrival : Type 0 where
  pub placed : ℕ
  pub exhausted : ℕ
  pub on : ℕ → ℕ

-- how far such a call is
pub record HugeTouch : Type 0 where
  pub huge : HugeLying
  pub arrived : HugeArrival

abbrev pub touch_from : HugeLying → HugeTouch
touch_from huge = record {
  huge = huge;
  arrived = record { placed = 0; exhausted = 0; on = λ node. 0 };
}

abbrev pub with_given : Option ℕ → HugeArrival → HugeArrival
with_given None arrived = record arrived { exhausted = arrived.exhausted + 1 }
with_given (Some node) arrived = record {
  placed = arrived.placed + 1;
  exhausted = arrived.exhausted;
  on = λ other. arrived.on other + (if other == node then 1 else 0);
}

abbrev pub given_page : Option ℕ → ℕ → HugeTouch → HugeTouch
given_page given page touch = record {
  huge = faulting given page touch.huge;
  arrived = with_given given touch.arrived;
}

-- a page that is mapped and lies nowhere yet is touched
abbrev pub is_untouched : Option HugeSpot → Bool
is_untouched (Some Bare) = true
is_untouched (Some Reserved) = true
is_untouched (Some (On node)) = false
is_untouched None = false

abbrev pub touched_page : (ℕ → List ℕ) → ℕ → HugeTouch → HugeTouch
touched_page nodes page touch = if is_untouched (touch.huge.spots page)
    then given_page (giver_for touch.huge page (nodes page)) page touch else touch

-- the pages from one on, the lowest first, each by its own list of nodes
unfoldable pub touched_pages : (ℕ → List ℕ) → ℕ → ℕ → HugeTouch → HugeTouch
touched_pages nodes first zero touch = touch
touched_pages nodes first (suc pages) touch =
    touched_pages nodes (first + 1) pages (touched_page nodes first touch)

-- ---- beside the other pages of a process

-- the pages, what the last move did to them, and what the last first touches of a span did that had
-- some
pub record HugeMemory : Type 0 where
  pub pages : HugeLying
  pub told : HugeTold
  pub arrived : Option HugeArrival

-- before the first line about them; such pages then come from the pools of these nodes
abbrev pub memory_or : ℕ → Option HugeMemory → HugeMemory
memory_or nodes None = record { pages = no_huge nodes; told = stayed; arrived = None }
memory_or nodes (Some memory) = memory
