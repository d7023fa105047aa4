-- What the exported calls of pages of a host's processes answer and do.
use Rattle.std.specs.Prelude.{◌≡◌, ℕ, Bool, true, false, Option, Some, None, Result, Ok, Err, List}
use Rattle.std.specs.Prelude.{MatchResult, Vec}
use Rattle.std.specs.Global.{Global}
use Rattle.numa_host_script.specs.declared.running.RunningHost.{RunningHost}
use Rattle.numa_pages.specs.declared.listing.PageRun.{PageRun}
use Rattle.numa_script.specs.declared.reply.Reply.{Reply}
use Rattle.numa_script.specs.declared.reply.Reply.TheVariants as reply
use Rattle.numa_mode.specs.Policy.{Specification}
use Rattle.numa_script.specs.declared.policy.WordError.{WordError}
use Rattle.numaplan_c.specs.Border.{Asked}
use Rattle.numaplan_c.specs.Bound.{bound_spec, host_rules_in}
use Rattle.numaplan_c.specs.Codes.{word_code}
use Rattle.numaplan_c.specs.Compared.{IsListed}
use Rattle.numaplan_c.specs.Hosts.{reply_code, told_code}
use Rattle.numaplan_c.specs.Placed.{TellsArrived, TellsNode, done_code}
use Rattle.numaplan_c.specs.Texts.{copy_code}
use Rattle.numaplan_c.specs.declared.moves.NpArrived.{NpArrived}
use Rattle.numaplan_c.specs.declared.moves.NpBound.{NpBound}
use Rattle.numaplan_handles.specs.Handles.{host_in}
use Rattle.numaplan_handles.specs.Hosted.{ChangesPages, DoesHuge, DoesOwnHuge, TouchesIn}
use Rattle.numaplan_handles.specs.Hosts.{OfRunning}
use Rattle.numaplan_handles.specs.declared.flows.Flow.{Flow}
use Rattle.numaplan_handles.specs.declared.flows.LastFlows.{LastFlows}
use Rattle.numaplan_handles.specs.declared.host_handle.HostHandle.{HostHandle}
use Rattle.numa_machine.specs.declared.no_memory.NoMemory.{NoMemory}
use Rattle.numa_script.specs.declared.huge_line.HugeLine.{HugeLine}
use Rattle.numa_script.specs.declared.huge_line.HugeLine.TheVariants as huge
use Rattle.numa_script.specs.declared.page_line.PageLine.{PageLine}
use Rattle.numa_script.specs.declared.page_line.PageLine.TheVariants as page

-- ---- changes

-- the call did to what is kept what `told` says, answered by the number of its answer, and `tells`
-- is what else it told; a closed handle answers 1, stays closed, and nothing is told
abbrev pub HostTell : {A : Type 0} → (A → ℕ) → (A → Type 0) → Type 0
    → (RunningHost → A → RunningHost → Type 0) → HostHandle → ℕ → HostHandle → Type 0
HostTell {A} code_of tells untold told old code new =
    (host_in old ≡ None → (code ≡ 1) × (host_in new ≡ None) × untold)
    × ((running : RunningHost) → host_in old ≡ Some running → (answer : A)
    × (code ≡ code_of answer) × tells answer × OfRunning told (host_in old) (host_in new) answer)

-- the same of a call that tells nothing else
abbrev pub HostDoes : {A : Type 0} → (A → ℕ) → (RunningHost → A → RunningHost → Type 0)
    → HostHandle → ℕ → HostHandle → Type 0
HostDoes code_of told old code new =
    HostTell code_of (λ answer. Unit {0}) (Unit {0}) told old code new

-- a call that changes pages of a process; one that touches them first; one that moves them by nodes
abbrev pub PagesChange : ℕ → PageLine → HostHandle → ℕ → HostHandle → Type 0
PagesChange process line old code new =
    HostDoes told_code (ChangesPages process line) old code new

abbrev pub HostTouch : ℕ → ℕ → ℕ → ℕ → ℕ → HostHandle → ℕ → HostHandle → NpArrived → NpArrived
    → Type 0
HostTouch process start bytes task cpu old code new arrived arrived-then =
    HostTell (done_code reply_code) (TellsArrived arrived arrived-then) (arrived-then ≡ arrived)
    (TouchesIn process start bytes task cpu) old code new

-- how many pages moved and had to and stayed is told, where a reply tells it
abbrev pub TellsShift : NpBound → NpBound → Option Reply → Type 0
TellsShift old new (Some (reply.Moved moved left)) = (new.moved ≡ moved) × (new.left ≡ left)
    × (new.error ≡ 0)
TellsShift old new _ = new ≡ old

abbrev pub HostMigrate : ℕ → ℕ → ℕ → HostHandle → ℕ → HostHandle → NpBound → NpBound → Type 0
HostMigrate process from to old code new bound bound-then =
    HostTell told_code (TellsShift bound bound-then) (bound-then ≡ bound)
    (ChangesPages process (page.Migrate from to)) old code new

-- the error number that mbind(2) answers all the same: 5 where pages stayed that had to go
abbrev pub late_number : Bool → ℕ
late_number true = 5
late_number false = 0

-- what a policy did to the pages that it moved is told; of another reply, what stood there stays
abbrev pub TellsSent : NpBound → NpBound → Reply → Type 0
TellsSent old new (reply.Sent version moved left late) = (new.moved ≡ moved) × (new.left ≡ left)
    × (new.error ≡ late_number late)
TellsSent old new _ = new ≡ old

abbrev pub HostBind : (RunningHost → Reply → RunningHost → Type 0) → HostHandle → ℕ → HostHandle
    → NpBound → NpBound → Type 0
HostBind told old code new bound bound-then = HostTell reply_code (TellsSent bound bound-then)
    (bound-then ≡ bound) told old code new

-- a call by a policy for so many bytes that is read first: a faulty one is told, and changes
-- nothing
abbrev pub HostDoesRead : Result Specification WordError → ℕ
    → (Specification → RunningHost → Reply → RunningHost → Type 0) → HostHandle → ℕ → HostHandle
    → Type 0
HostDoesRead said bytes told old code new =
    MatchResult (bound_spec (host_rules_in (host_in old)) bytes said)
    (λ spec. HostDoes reply_code (told spec) old code new)
    (λ fault. (code ≡ word_code fault) × (host_in new ≡ host_in old))

-- the same where pages move
abbrev pub HostBindRead : Result Specification WordError → ℕ
    → (Specification → RunningHost → Reply → RunningHost → Type 0) → HostHandle → ℕ → HostHandle
    → NpBound → NpBound → Type 0
HostBindRead said bytes told old code new bound bound-then =
    MatchResult (bound_spec (host_rules_in (host_in old)) bytes said)
    (λ spec. HostBind (told spec) old code new bound bound-then)
    (λ fault. (code ≡ word_code fault) × (host_in new ≡ host_in old) × (bound-then ≡ bound))

-- a line about pools or pages of 2 MiB of a process, or of none
abbrev pub HugeDone : ℕ → HugeLine → HostHandle → ℕ → HostHandle → Type 0
HugeDone process line old code new = HostDoes told_code (DoesHuge process line) old code new

abbrev pub OwnHugeDone : HugeLine → HostHandle → ℕ → HostHandle → Type 0
OwnHugeDone line old code new = HostDoes told_code (DoesOwnHuge line) old code new

-- the node of a page that was touched is told; of another reply, what stood there stays
abbrev pub TellsReached : ℕ → ℕ → Option Reply → Type 0
TellsReached old new (Some (reply.MovedTo node)) = new ≡ node
TellsReached old new _ = new ≡ old

-- a call that touches one page of a process first
abbrev pub HostFault : ℕ → ℕ → ℕ → ℕ → HostHandle → ℕ → HostHandle → ℕ → ℕ → Type 0
HostFault process task address cpu old code new node node-then =
    HostTell told_code (TellsReached node node-then) (node-then ≡ node)
    (DoesHuge process (huge.Fault task address cpu)) old code new

-- ---- questions to a process: 96 where it isn't there, and nothing is told

-- the node of a page, if it lies on one
abbrev pub TellsNodeIn : Option (Option ℕ) → ℕ → ℕ → ℕ → Type 0
TellsNodeIn None code old new = (code ≡ 96) × (new ≡ old)
TellsNodeIn (Some found) code old new = TellsNode found code old new

-- how many nodes were written
abbrev pub told_nodes_code : Option (Result ℕ ℕ) → ℕ
told_nodes_code None = 96
told_nodes_code (Some told) = copy_code told

-- how many pages lie on each node
abbrev pub TellsCountsIn : Option (List ℕ) → ℕ → List ℕ → List ℕ → Type 0
TellsCountsIn None code old new = (code ≡ 96) × (new ≡ old)
TellsCountsIn (Some counts) code old new = (code ≡ 0) × (new ≡ counts)

-- runs of pages
abbrev pub TellsRunsIn : Option (Result (Vec PageRun Global) NoMemory) → ℕ → List PageRun
    → List PageRun → ℕ → ℕ → Type 0
TellsRunsIn None code old new count count_then =
    (code ≡ 96) × (new ≡ old) × (count_then ≡ count)
TellsRunsIn (Some (Err lack)) code old new count count_then =
    (code ≡ 3) × (new ≡ old) × (count_then ≡ count)
TellsRunsIn (Some (Ok list)) code old new count count_then =
    IsListed list.items code old new count_then

-- a question about a last move; where nothing is told, all stays
abbrev pub AskedMoves : HostHandle → HostHandle → ℕ → List Flow → List Flow → ℕ → ℕ → NpBound
    → NpBound → (RunningHost → Type 0) → Type 0
AskedMoves old new code flows flows_then count count_then bound bound_then told =
    Asked (host_in old) (host_in new) code
    ((flows_then ≡ flows) × (count_then ≡ count) × (bound_then ≡ bound)) told

-- what the last move did: how many pages went and stayed, and from where to where, if there is room
abbrev pub TellsLastIn : Option (Result LastFlows NoMemory) → ℕ → List Flow → List Flow → ℕ → ℕ
    → NpBound → NpBound → Type 0
TellsLastIn None code old new count count_then bound bound_then =
    (code ≡ 96) × (new ≡ old) × (count_then ≡ count) × (bound_then ≡ bound)
TellsLastIn (Some (Err lack)) code old new count count_then bound bound_then =
    (code ≡ 3) × (new ≡ old) × (count_then ≡ count) × (bound_then ≡ bound)
TellsLastIn (Some (Ok last)) code old new count count_then bound bound_then =
    IsListed last.flows.items code old new count_then × (bound_then.moved ≡ last.moved)
    × (bound_then.left ≡ last.left) × (bound_then.error ≡ 0)
