-- What the exported calls of pages that are there answer and do.
use Rattle.std.specs.Prelude.{◌≡◌, ℕ, Option, Some, None, Result, Ok, Err, List, MatchResult}
use Rattle.numa_pages.specs.Changes.{Faults, PagesState, Touches}
use Rattle.numa_pages.specs.declared.binding.Rebound.{Rebound}
use Rattle.numa_pages.specs.declared.listing.PageRun.{PageRun}
use Rattle.numa_pages.specs.declared.refusal.ChangeRefusal.{ChangeRefusal}
use Rattle.numa_pages.specs.declared.refusal.ChangeRefusal.TheVariants as change
use Rattle.numa_page_state.specs.declared.arrived.Arrived.{Arrived}
use Rattle.numa_placed.specs.declared.moved.Moved.{Moved}
use Rattle.numa_pools.specs.Pools.{PoolCounts}
use Rattle.numa_requests.specs.declared.page_refusal.HugeRefusal.{HugeRefusal}
use Rattle.numa_requests.specs.declared.page_refusal.HugeRefusal.TheVariants as huge
use Rattle.numa_requests.specs.declared.page_refusal.MoveRefusal.{MoveRefusal}
use Rattle.numa_requests.specs.declared.page_refusal.MoveRefusal.TheVariants as move
use Rattle.numa_requests.specs.declared.page_refusal.PlacedRefusal.{PlacedRefusal}
use Rattle.numa_requests.specs.declared.page_refusal.PlacedRefusal.TheVariants as placed
use Rattle.numa_mode.specs.Policy.{Specification}
use Rattle.numa_script.specs.declared.policy.WordError.{WordError}
use Rattle.numaplan_c.specs.Bound.{bound_spec, page_rules_in}
use Rattle.numaplan_c.specs.Codes.{refusal_code, word_code}
use Rattle.numaplan_c.specs.Compared.{IsListed}
use Rattle.numaplan_c.specs.declared.moves.NpBound.{NpBound}
use Rattle.numaplan_c.specs.declared.moves.NpMoves.{NpMoves}
use Rattle.numaplan_c.specs.declared.moves.NpArrived.{NpArrived}
use Rattle.numaplan_c.specs.declared.moves.NpHugePools.{NpHugePools}
use Rattle.numaplan_handles.specs.Handles.{pages_in}
use Rattle.numaplan_handles.specs.Pages.{OfPages}
use Rattle.numaplan_handles.specs.declared.pages_handle.PagesHandle.{PagesHandle}

-- ---- codes

-- those of pages alone are from 100 on
abbrev pub placed_code : PlacedRefusal → ℕ
placed_code placed.Unaligned = 11
placed_code placed.OutOfSpace = 12
placed_code placed.NoSuchNode = 17
placed_code placed.Occupied = 107
placed_code placed.NodesNotAllowed = 19
placed_code placed.Astray = 101
placed_code placed.BadCpu = 108
placed_code placed.Unmapped = 109
placed_code placed.NoRoom = 106
placed_code placed.TooManyRuns = 100
placed_code placed.NoMemory = 3

-- move_pages(2) has other error numbers for the same words
abbrev pub move_code : MoveRefusal → ℕ
move_code move.NoSuchNode = 102
move_code move.NodesNotAllowed = 103
move_code move.Unmapped = 104
move_code move.NotPlaced = 105
move_code move.NoRoom = 106
move_code move.TooManyRuns = 100
move_code move.NoMemory = 3

-- of pages of 2 MiB and their pools
abbrev pub huge_code : HugeRefusal → ℕ
huge_code huge.NoSuchNode = 110
huge_code huge.BadCpu = 108
huge_code huge.Unsure = 111
huge_code huge.NoHugePages = 112
huge_code huge.Unmapped = 104
huge_code huge.Exhausted = 113
huge_code huge.Killed = 114
huge_code huge.NotSupported = 20
huge_code huge.TooManyRuns = 100
huge_code huge.NoMemory = 3

abbrev pub change_code : ChangeRefusal → ℕ
change_code (change.OfSpace refusal) = refusal_code refusal
change_code (change.OfPages cause) = placed_code cause
change_code (change.OfHuge why) = huge_code why
change_code change.NoMemory = 3

-- of what is done, or refused for a cause
abbrev pub done_code : {A E : Type 0} → (E → ℕ) → Result A E → ℕ
done_code code_of (Ok done) = 0
done_code code_of (Err cause) = code_of cause

-- ---- changes

-- the call did to what is kept what `told` says, answered by the number of its answer, and `tells`
-- is what else it told; a closed handle answers 1, stays closed, and nothing is told
abbrev pub PagesTell : {A : Type 0} → (A → ℕ) → (A → Type 0) → Type 0
    → (PagesState → A → PagesState → Type 0) → PagesHandle → ℕ → PagesHandle → Type 0
PagesTell {A} code_of tells untold told old code new =
    (pages_in old ≡ None → (code ≡ 1) × (pages_in new ≡ None) × untold)
    × ((pages : PagesState) → pages_in old ≡ Some pages → (answer : A) × (code ≡ code_of answer)
    × tells answer × OfPages told (pages_in old) (pages_in new) answer)

-- the same of a call that tells nothing else
abbrev pub PagesAnswer : {A E : Type 0} → (E → ℕ)
    → (PagesState → Result A E → PagesState → Type 0) → PagesHandle → ℕ → PagesHandle → Type 0
PagesAnswer code_of told old code new =
    PagesTell (done_code code_of) (λ answer. Unit {0}) (Unit {0}) told old code new

-- the same of a call that pages alone refuse
abbrev pub PagesSet : {A : Type 0} → (PagesState → Result A PlacedRefusal → PagesState → Type 0)
    → PagesHandle → ℕ → PagesHandle → Type 0
PagesSet told old code new = PagesAnswer placed_code told old code new

-- the same for a command with a word that is read first: a faulty word is told, by `fault_code` its
-- fault, and changes nothing
abbrev pub PagesAnswerRead : {W F A E : Type 0} → Result W F → (F → ℕ) → (E → ℕ)
    → (W → PagesState → Result A E → PagesState → Type 0) → PagesHandle → ℕ → PagesHandle → Type 0
PagesAnswerRead word fault_code code_of told old code new = MatchResult word
    (λ it. PagesAnswer code_of (told it) old code new)
    (λ fault. (code ≡ fault_code fault) × (pages_in new ≡ pages_in old))

-- what first touches did is told; where they are refused, what stood there stays
abbrev pub TellsArrived : {E : Type 0} → NpArrived → NpArrived → Result Arrived E → Type 0
TellsArrived old new (Ok arrived) = (new.placed ≡ arrived.placed)
    × (new.exhausted ≡ arrived.exhausted) × (new.nodes ≡ arrived.on)
TellsArrived old new (Err cause) = new ≡ old

-- the node of a page that was touched is told; where it is refused, what stood there stays
abbrev pub TellsTouched : ℕ → ℕ → Result ℕ HugeRefusal → Type 0
TellsTouched old new (Ok node) = new ≡ node
TellsTouched old new (Err why) = new ≡ old

-- a call that touches one page first
abbrev pub PagesFault : ℕ → ℕ → ℕ → PagesHandle → ℕ → PagesHandle → ℕ → ℕ → Type 0
PagesFault task address cpu old code new node node-then = PagesTell (done_code huge_code)
    (TellsTouched node node-then) (node-then ≡ node) (Faults task address cpu) old code new

-- a call that always can
abbrev pub always : Unit {0} → ℕ
always done = 0

-- a call that touches the pages of a span first
abbrev pub PagesTouch : ℕ → ℕ → ℕ → ℕ → PagesHandle → ℕ → PagesHandle → NpArrived → NpArrived
    → Type 0
PagesTouch start bytes task cpu old code new arrived arrived-then =
    PagesTell (done_code placed_code) (TellsArrived arrived arrived-then)
    (arrived-then ≡ arrived) (Touches start bytes task cpu) old code new

-- what went where is told; where it is refused, what stood there stays
abbrev pub TellsMoved : {E : Type 0} → NpMoves → NpMoves → Result Moved E → Type 0
TellsMoved old new (Ok moved) = (new.moved ≡ moved.moved) × (new.left ≡ moved.left)
    × (new.from ≡ moved.from) × (new.to ≡ moved.to)
TellsMoved old new (Err cause) = new ≡ old

-- a call that moves pages
abbrev pub PagesMove : {E : Type 0} → (E → ℕ)
    → (PagesState → Result Moved E → PagesState → Type 0) → PagesHandle → ℕ → PagesHandle
    → NpMoves → NpMoves → Type 0
PagesMove code_of told old code new moves moves-then = PagesTell (done_code code_of)
    (TellsMoved moves moves-then) (moves-then ≡ moves) told old code new

-- what a policy did to the pages that it moved is told; where it is refused, what stood there stays
abbrev pub TellsBound : NpBound → NpBound → Result Rebound ChangeRefusal → Type 0
TellsBound old new (Ok done) = (new.moved ≡ done.bound.moved) × (new.left ≡ done.bound.left)
    × (new.error ≡ done.errno)
TellsBound old new (Err cause) = new ≡ old

-- a call that moves pages by a policy
abbrev pub PagesBind : (PagesState → Result Rebound ChangeRefusal → PagesState → Type 0)
    → PagesHandle → ℕ → PagesHandle → NpBound → NpBound → Type 0
PagesBind told old code new bound bound-then = PagesTell (done_code change_code)
    (TellsBound bound bound-then) (bound-then ≡ bound) told old code new

-- the same by a policy for so many bytes that is read first: a faulty one is told, and changes
-- nothing
abbrev pub PagesBindRead : Result Specification WordError → ℕ
    → (Specification → PagesState → Result Rebound ChangeRefusal → PagesState → Type 0)
    → PagesHandle → ℕ → PagesHandle → NpBound → NpBound → Type 0
PagesBindRead said bytes told old code new bound bound-then =
    MatchResult (bound_spec (page_rules_in (pages_in old)) bytes said)
    (λ spec. PagesBind (told spec) old code new bound bound-then)
    (λ fault. (code ≡ word_code fault) × (pages_in new ≡ pages_in old) × (bound-then ≡ bound))

-- ---- questions

-- the node of a page is told, if it lies on one
abbrev pub TellsNode : Option ℕ → ℕ → ℕ → ℕ → Type 0
TellsNode None code old new = (code ≡ 105) × (new ≡ old)
TellsNode (Some node) code old new = (code ≡ 0) × (new ≡ node)

-- what the pools have is told, by node
pub record HasPools (told : NpHugePools) (pools : PoolCounts) : Type 0 where
  pub total : told.total ≡ pools.total
  pub free : told.free ≡ pools.free
  pub surplus : told.surplus ≡ pools.surplus
  pub reserved : told.reserved ≡ pools.reserved

-- the room of a node is told, if it has memory
abbrev pub TellsRoom : Result ℕ PlacedRefusal → ℕ → ℕ → ℕ → Type 0
TellsRoom (Ok pages) code old new = (code ≡ 0) × (new ≡ pages)
TellsRoom (Err cause) code old new = (code ≡ placed_code cause) × (new ≡ old)

-- runs are told; out of memory, what stood there stays
abbrev pub TellsRuns : {E : Type 0} → Result (List PageRun) E → ℕ → List PageRun → List PageRun
    → ℕ → ℕ → Type 0
TellsRuns (Ok runs) code old new count count_then = IsListed runs code old new count_then
TellsRuns (Err lack) code old new count count_then =
    (code ≡ 3) × (new ≡ old) × (count_then ≡ count)
