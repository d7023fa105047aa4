-- What a call does to the pages of a host's processes, and what it answers of them. Where pages lie
-- is told of those of 4 KiB, of which one of 2 MiB is 512; what moves or comes counts once.
use Rattle.std.specs.Prelude.{◌≡◌, ◌≢◌, ◌<◌, ℕ, Bool, true, false, Option, Some, None}
use Rattle.std.specs.Prelude.{Result, Ok, Err, List, IfOk, MatchOption, slice_index}
use Rattle.std.specs.Prelude.{[], ◌∷◌, ◌++◌, ◌==◌, if◌then◌else◌, length, EachIndex}
use Rattle.std.specs.Prelude.{suc, zero}
use Rattle.numa_host.specs.Processes.{is_there, members_of}
use Rattle.numa_host_pages.specs.Homes.{HostLying, with_room}
use Rattle.numa_host_pages.specs.Standing.{HostLies}
use Rattle.numa_host_script.specs.Acting.{bound_to, changed_outcome, taken_by}
use Rattle.numa_host_script.specs.Hosts.{Hosting}
use Rattle.numa_host_script.specs.Paging.{memory_at, pages_at}
use Rattle.numa_host_script.specs.Pooling.{huge_outcome, own_huge_outcome}
use Rattle.numa_host_script.specs.Standing.{Changes, ComesTo, Replies, RunsAs}
use Rattle.numa_host_script.specs.declared.running.RunningHost.{RunningHost}
use Rattle.numa_mode.specs.Policy.{Specification}
use Rattle.numa_host_pages.specs.Summed.{both_pages, both_sent, huge_sent, sent_last, sum_in}
use Rattle.numa_huge.specs.Moves.{HugeArrival, HugeMemory}
use Rattle.numa_page_state.specs.Lying.{Arrival, Lying, Sent}
use Rattle.numa_page_state.specs.Outcomes.{rooms_of}
use Rattle.numa_page_state.specs.Standing.{ArrivedAs}
use Rattle.numa_page_state.specs.declared.arrived.Arrived.{Arrived}
use Rattle.numa_placed.specs.Refusals.{lacks_node}
use Rattle.numa_placed.specs.Spots.{is_on, node_of, pages_where}
use Rattle.numa_placed.specs.declared.spot.Spot.{Spot}
use Rattle.numa_pages.specs.Listing.{AreListed}
use Rattle.numa_pages.specs.Sizes.{both_on, both_spots}
use Rattle.numa_pages.specs.declared.listing.PageRun.{PageRun}
use Rattle.numa_requests.specs.declared.page_refusal.PlacedRefusal.{PlacedRefusal}
use Rattle.numa_requests.specs.declared.page_refusal.PlacedRefusal.TheVariants.{NoSuchNode}
use Rattle.numa_script.specs.declared.huge_line.HugeLine.{HugeLine}
use Rattle.numa_script.specs.declared.page_line.BoundPages.{BoundPages}
use Rattle.numa_script.specs.declared.page_line.PageLine.{PageLine}
use Rattle.numa_script.specs.declared.page_line.PageLine.TheVariants as page
use Rattle.numa_script.specs.declared.reply.Reply.{Reply}
use Rattle.numaplan_handles.specs.Pages.{IsNodeOr}
use Rattle.numaplan_handles.specs.declared.flows.Flow.{Flow}
use Rattle.numaplan_handles.specs.declared.flows.LastFlows.{LastFlows}

-- ---- changes of the pages of a process

-- pages of a process were changed as the line says, beside the host; a line that has no reply isn't
-- refused
pub record ChangesPages (process : ℕ) (line : PageLine) (before : RunningHost)
    (answer : Option Reply) (after : RunningHost) : Type 0 where
  pub host : after.host ≡ before.host
  pub runs : Changes before answer after process
      (λ lacked at. changed_outcome lacked at process line)

-- the reply that refuses it, if one does
abbrev pub refusal_in : {A : Type 0} → Result A Reply → Option Reply
refusal_in (Ok done) = None
refusal_in (Err cause) = Some cause

-- first touches of pages of both sizes
pub record CameBoth (arrived : Arrived) (small : Arrival) (huge : HugeArrival) : Type 0 where
  pub placed : arrived.placed ≡ both_pages small.placed huge.placed
  pub exhausted : arrived.exhausted ≡ both_pages small.exhausted huge.exhausted
  pub on : (node : ℕ) → node < 256
      → slice_index arrived.on node ≡ both_pages (small.on node) (huge.on node)

abbrev pub CameWith : Option HugeArrival → Arrived → Arrival → Type 0
CameWith None arrived small = ArrivedAs arrived small
CameWith (Some huge) arrived small = CameBoth arrived small huge

-- those of pages of 2 MiB, if a span had some
abbrev pub arrival_of : Option HugeMemory → Option HugeArrival
arrival_of None = None
arrival_of (Some memory) = memory.arrived

-- what the last first touches of a process did
abbrev pub HasCome : ℕ → Arrived → Hosting → Type 0
HasCome process arrived at =
    CameWith (arrival_of (memory_at at process)) arrived (pages_at at process).arrived

-- a task of a process touched the pages of a span first, and what that did is told; or it is told
-- why not
pub record TouchesIn (process start bytes task cpu : ℕ) (before : RunningHost)
    (answer : Result Arrived Reply) (after : RunningHost) : Type 0 where
  pub does : ChangesPages process (page.Populate start bytes task cpu) before (refusal_in answer)
      after
  pub told : IfOk answer (λ arrived. (at : Hosting) → RunsAs after at
      → HasCome process arrived at)

-- a policy was set for a span of a process, unless pages of it lie on other nodes than it asks for;
-- or these moved
pub record Binds (process start bytes : ℕ) (spec : Specification) (pages : BoundPages)
    (before : RunningHost) (answer : Reply) (after : RunningHost) : Type 0 where
  pub replies : Replies before answer after
      (λ lack at. bound_to lack at process start bytes spec pages)

-- ---- pools and pages of 2 MiB

-- a line about them, or a first touch, was carried out for a process; its reply is told, and none
-- where pools have so many pages now
pub record DoesHuge (process : ℕ) (line : HugeLine) (before : RunningHost) (answer : Option Reply)
    (after : RunningHost) : Type 0 where
  pub comes : ComesTo before (taken_by answer) after
      (λ lack at. huge_outcome lack.lacked at process line)

-- the same for no process
pub record DoesOwnHuge (line : HugeLine) (before : RunningHost) (answer : Option Reply)
    (after : RunningHost) : Type 0 where
  pub comes : ComesTo before (taken_by answer) after (λ lack at. own_huge_outcome at line)

-- ---- rooms, and whether pages follow

-- a node was given room, whichever process takes it, or it has no memory
pub record LimitsAll (node count : ℕ) (before : RunningHost)
    (answer : Result (Unit {0}) PlacedRefusal) (after : RunningHost) : Type 0 where
  pub host : after.host ≡ before.host
  pub pages : (at : HostLying) → HostLies before.pages at
      → (answer ≡ (with_room before.host.blank.machine node count at).0)
      × HostLies after.pages (with_room before.host.blank.machine node count at).1

-- pages follow the allowed nodes of their process from now on, or don't
pub record LetsFollow (follows : Bool) (before : RunningHost) (answer : Unit {0})
    (after : RunningHost) : Type 0 where
  pub host : after.host ≡ before.host
  pub pages : (at : HostLying) → HostLies before.pages at
      → HostLies after.pages (record at { follows = follows })

-- ---- questions

-- what is told of a host and each state that it runs as
abbrev pub OfLying : Option RunningHost → (Hosting → Type 0) → Type 0
OfLying kept told = (running : RunningHost) → kept ≡ Some running →
    (at : Hosting) → RunsAs running at → told at

-- what is told of the pages of a process, those of 4 KiB and those of 2 MiB; no answer where the
-- process isn't there
abbrev pub OfPagesIn : {A : Type 0} → ℕ → (Lying → Option HugeMemory → A → Type 0) → Option A
    → Hosting → Type 0
OfPagesIn process told answer at =
    MatchOption answer (is_there (members_of at.history) process ≡ false)
    (λ it. (is_there (members_of at.history) process ≡ true)
    × told (pages_at at process) (memory_at at process) it)

-- where a page of 4 KiB lies, or the one of 2 MiB of which it is a part
abbrev pub spots_with : Option HugeMemory → (ℕ → Spot) → ℕ → Spot
spots_with None spots page = spots page
spots_with (Some memory) spots page = both_spots memory.pages spots page

-- how many pages of 4 KiB lie on a node, of which one of 2 MiB is 512
abbrev pub on_with : Option HugeMemory → (ℕ → Spot) → ℕ → ℕ
on_with None spots node = pages_where (is_on node) spots
on_with (Some memory) spots node = both_on memory.pages spots node

-- a node takes so many more pages, whichever process they are of; or it has no memory
abbrev pub HasRoomLeft : ℕ → Result ℕ PlacedRefusal → Hosting → Type 0
HasRoomLeft node (Ok pages) at = (lacks_node at.machine node ≡ false)
    × (pages ≡ rooms_of at.lying.room node)
HasRoomLeft node (Err cause) at = (lacks_node at.machine node ≡ true) × (cause ≡ NoSuchNode)

-- the node on which a page lies, if it lies on one
abbrev pub LiesOn : ℕ → Lying → Option HugeMemory → Option ℕ → Type 0
LiesOn page lying memory found = found ≡ node_of (spots_with memory lying.spots page)

-- so many pages lie on each node
abbrev pub LieOn : Lying → Option HugeMemory → List ℕ → Type 0
LieOn lying memory counts = (node : ℕ) → node < 256
    → slice_index counts node ≡ on_with memory lying.spots node

-- these are the maximal runs of pages that lie on a node, in ascending order
abbrev pub LieSo : Lying → Option HugeMemory → List PageRun → Type 0
LieSo lying memory list = AreListed (spots_with memory lying.spots) 0 list

-- of pages in whatever order: at each one's place the node on which it lies, or the mark; there are
-- as many places as pages, or nothing is told
abbrev pub LieAt : List ℕ → ℕ → List ℕ → List ℕ → Lying → Option HugeMemory → Result ℕ ℕ → Type 0
LieAt numbers mark old new lying memory (Ok count) = (count ≡ length numbers)
    × (length old ≡ count) × EachIndex new (λ k. IsNodeOr mark (spots_with memory lying.spots)
    (slice_index numbers k) (slice_index new k))
LieAt numbers mark old new lying memory (Err count) = (count ≡ length numbers)
    × (length old ≢ count) × (new ≡ old)

-- ---- the last move of a process, or of all

-- how many pages went from a node to another, if some did
abbrev pub flow_at : ℕ → ℕ → ℕ → List Flow
flow_at from to pages = if pages == 0 then [] else record {
  pages = pages;
  from = from;
  to = to;
} ∷ []

-- what is told of each node below a number, the lowest first
unfoldable pub each_below : (ℕ → List Flow) → ℕ → List Flow
each_below flows zero = []
each_below flows (suc node) = each_below flows node ++ flows node

-- from a node to each
abbrev pub flows_from : ℕ → (ℕ → ℕ) → List Flow
flows_from from flow = each_below (λ to. flow_at from to (flow to)) 256

-- from each node to each
abbrev pub all_flows : (ℕ → ℕ → ℕ) → List Flow
all_flows flow = each_below (λ from. flows_from from (flow from)) 256

-- what a move did: its flows, how many pages went, and how many had to and stayed
pub record TellsSent (sent : Sent) (told : LastFlows) : Type 0 where
  pub flows : told.flows.items ≡ all_flows sent.flow
  pub moved : told.moved ≡ sent.moved
  pub left : told.left ≡ sent.left

-- a move of pages of 4 KiB, with what it did to those of 2 MiB, if there are any
abbrev pub sent_with : Option HugeMemory → Sent → Sent
sent_with None sent = sent
sent_with (Some memory) sent = both_sent sent (huge_sent (Some memory))

-- what the last move of a process did
abbrev pub TellsLast : Lying → Option HugeMemory → LastFlows → Type 0
TellsLast lying memory told = TellsSent (sent_with memory (sent_last lying.last)) told

-- what the last move of the host did, all its processes together
abbrev pub TellsSum : LastFlows → Hosting → Type 0
TellsSum told at = TellsSent (sum_in at.lying) told
