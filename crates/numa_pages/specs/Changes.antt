-- What each call does to a core and its pages, and why it is refused.
use Rattle.std.specs.Prelude.{◌≡◌, ◌≢◌, ℕ, ◌+◌, ◌&&◌, Bool, true, false, Option, Some, None}
use Rattle.std.specs.Prelude.{List, [], ◌∷◌, Result, Ok, Err, OnOk, OnErr, IfOk, IfErr}
use Rattle.std.specs.Prelude.{if◌then◌else◌, is_some}
use Rattle.numa_core.specs.Executions.{CoreStep}
use Rattle.numa_core.specs.Standing.{CoreState, LeadsTo, core_step_after, setup_of}
use Rattle.numa_core.specs.Steps.{accept_answer}
use Rattle.numa_machine.specs.declared.refusal.PlaceRefusal.{PlaceRefusal}
use Rattle.numa_mask.specs.NodeSet.{both}
use Rattle.numa_mode.specs.Policy.{Specification}
use Rattle.numa_placed.specs.Refusals.{first_of}
use Rattle.numa_placed.specs.declared.moved.Moved.{Moved}
use Rattle.numa_placed.specs.declared.spot.Spot.{Spot}
use Rattle.numa_requests.specs.declared.command.Command.{Command}
use Rattle.numa_requests.specs.declared.command.Command.TheVariants.{Map, Unmap, Mbind, SetTask}
use Rattle.numa_requests.specs.declared.command.Command.TheVariants.{Inherit, SetHome, SetWeight}
use Rattle.numa_requests.specs.declared.command.Command.TheVariants.{SetMems}
use Rattle.numa_requests.specs.declared.event.Event.TheVariants.{Accept}
use Rattle.numa_requests.specs.declared.page_refusal.HugeRefusal.{HugeRefusal}
use Rattle.numa_requests.specs.declared.page_refusal.HugeRefusal.TheVariants as because
use Rattle.numa_requests.specs.declared.page_refusal.MoveRefusal.{MoveRefusal}
use Rattle.numa_requests.specs.declared.page_refusal.MoveRefusal.TheVariants as move
use Rattle.numa_requests.specs.declared.page_refusal.PlacedRefusal.{PlacedRefusal}
use Rattle.numa_requests.specs.declared.page_refusal.PlacedRefusal.TheVariants as cause
use Rattle.numa_requests.specs.declared.refusal.Refusal.{Refusal}
use Rattle.numa_requests.specs.declared.refusal.Refusal.TheVariants as own
use Rattle.numa_space.specs.History.{page_of}
use Rattle.numa_space.specs.Refusals.{refusal_of}
use Rattle.numa_space.specs.Standing.{StandsFor, place_refusal_of}
use Rattle.numa_space.specs.Steps.{MayNeedRoom}
use Rattle.numa_huge.specs.Huge.{HugeLying, HugePlaced, places_of}
use Rattle.numa_huge.specs.Moves.{HugeWalk}
use Rattle.numa_page_state.specs.Huge.{huge_walk}
use Rattle.numa_page_state.specs.Lying.{Ground, Lying, Process, ground_in, process_in, with_spots}
use Rattle.numa_page_state.specs.Outcomes.{Lack, along_outcome, forgotten, has_stated, is_starved}
use Rattle.numa_page_state.specs.Outcomes.{lack_of, lack_told as lacked_by, room_outcome}
use Rattle.numa_page_state.specs.Pooling.{place_cause}
use Rattle.numa_page_state.specs.Sending.{asked_of, command_of, sent_in, sent_spots, tells_left}
use Rattle.numa_page_state.specs.Sending.{with_sent}
use Rattle.numa_page_state.specs.Standing.{LiesAs}
use Rattle.numa_page_state.specs.Strict.{is_late, strict_binding}
use Rattle.numa_page_state.specs.declared.arrived.Arrived.{Arrived}
use Rattle.numa_page_state.specs.declared.binding.Binding.{Binding}
use Rattle.numa_page_state.specs.declared.last.Last.TheVariants as went
use Rattle.numa_page_state.specs.declared.sending.Rebinding.{Rebinding}
use Rattle.numa_page_state.specs.declared.sending.Toucher.{Toucher}
use Rattle.numa_page_state.specs.declared.shift.Shift.{Shift}
use Rattle.numa_page_state.specs.declared.state.PageState.{PageState}
use Rattle.numa_pages.specs.Sizes.{Both, HaveArrived, IsLastSum, alone, any_astray, beside}
use Rattle.numa_pages.specs.Sizes.{both_shift, go_outcome, huge_after, huge_arrival, huge_lack}
use Rattle.numa_pages.specs.Sizes.{listed_fault, place_outcome, shift_outcome, touch_outcome}
use Rattle.numa_pages.specs.declared.binding.Rebound.{Rebound}
use Rattle.numa_pages.specs.declared.refusal.ChangeRefusal.{ChangeRefusal}
use Rattle.numa_pages.specs.declared.refusal.ChangeRefusal.TheVariants.{OfSpace, OfPages, OfHuge}
use Rattle.numa_pages.specs.declared.refusal.ChangeRefusal.TheVariants.{NoMemory}

-- a core; where its pages of 4 KiB lie, of which none keeps a frame; and its pages of 2 MiB, with
-- the pools that they come from
pub record PagesState : Type 0 where
  pub core : CoreState
  pub state : PageState
  pub huge : HugePlaced

-- those pages, as they are told
abbrev pub huge_in : PagesState → HugeLying
huge_in pages = places_of pages.huge

-- the process of the core, with this history
abbrev pub process_of : PagesState → List Command → Process
process_of pages history = process_in pages.core.space history []

abbrev pub ground_of : PagesState → Ground
ground_of pages = ground_in pages.core.space []

-- the core's commands: each execution that led to the one core leads, with this answer to the
-- command, to the other
abbrev pub Answers : CoreState → Command → Result ℕ Refusal → CoreState → Type 0
Answers before command answer after = (past : List CoreStep) → LeadsTo past before
    → LeadsTo (core_step_after (setup_of before) past (Accept command) (accept_answer answer)
    ∷ past) after

-- the core accepts the command, which leads to the other core
abbrev pub Accepted : CoreState → Command → CoreState → Type 0
Accepted before command after = (version : ℕ) × Answers before command (Ok version) after

-- ---- memory that lacks

-- memory, of the core, of its pages or beside them, lacks only where this holds
abbrev pub LacksOnlyIf : Type 0 → ChangeRefusal → Type 0
LacksOnlyIf takes (OfSpace refusal) = refusal ≡ own.NoMemory → takes
LacksOnlyIf takes (OfPages why) = why ≡ cause.NoMemory → takes
LacksOnlyIf takes (OfHuge why) = why ≡ because.NoMemory → takes
LacksOnlyIf takes NoMemory = takes

-- whether a node may fill: none does before a room is said
abbrev pub may_fill : PageState → Bool
may_fill state = is_some state.rooms

-- ---- commands

-- where pages lie once a command is accepted: of those that are unmapped nothing is stated any
-- more, and their room is given back
abbrev pub lying_after : Command → Lying → Lying
lying_after (Unmap start bytes) at = if has_stated at.spots start bytes
    then with_spots (forgotten start bytes at.spots) at else at
lying_after (Map start bytes offset size) at = at
lying_after (Mbind start bytes spec) at = at
lying_after (SetTask task spec) at = at
lying_after (Inherit task from) at = at
lying_after (SetHome start bytes node) at = at
lying_after (SetWeight node weight) at = at
lying_after (SetMems mask) at = at

abbrev pub unmaps : Command → Bool
unmaps (Unmap start bytes) = true
unmaps (Map start bytes offset size) = false
unmaps (Mbind start bytes spec) = false
unmaps (SetTask task spec) = false
unmaps (Inherit task from) = false
unmaps (SetHome start bytes node) = false
unmaps (SetWeight node weight) = false
unmaps (SetMems mask) = false

-- pages of 2 MiB that are unmapped become free, or their reservations are given back
abbrev pub huge_so : Command → HugeLying → HugeLying
huge_so (Unmap start bytes) huge = huge_after start bytes huge
huge_so (Map start bytes offset size) huge = huge
huge_so (Mbind start bytes spec) huge = huge
huge_so (SetTask task spec) huge = huge
huge_so (Inherit task from) huge = huge
huge_so (SetHome start bytes node) huge = huge
huge_so (SetWeight node weight) huge = huge
huge_so (SetMems mask) huge = huge

-- why pages stand against a command: what is known of those that are unmapped can't be taken away,
-- first that of pages of 2 MiB. `lack` says what was lacked for that
abbrev pub cause_of_pages : Lack → Command → HugeLying → Lying → Option PlacedRefusal
cause_of_pages lack (Unmap start bytes) huge at = first_of (huge_lack lack start bytes huge)
    (if has_stated at.spots start bytes then lack_of lack (forgotten start bytes at.spots)
    else None)
cause_of_pages lack (Map start bytes offset size) huge at = None
cause_of_pages lack (Mbind start bytes spec) huge at = None
cause_of_pages lack (SetTask task spec) huge at = None
cause_of_pages lack (Inherit task from) huge at = None
cause_of_pages lack (SetHome start bytes node) huge at = None
cause_of_pages lack (SetWeight node weight) huge at = None
cause_of_pages lack (SetMems mask) huge at = None

-- why a command is refused: the pages refuse it, or the core does
abbrev pub IsCause : Command → PagesState → ChangeRefusal → Type 0
IsCause command pages (OfSpace refusal) = Answers pages.core command (Err refusal) pages.core
IsCause command pages (OfPages cause) = (lying : Lying) → LiesAs pages.state lying
    → cause_of_pages (lacked_by cause) command (huge_in pages) lying ≡ Some cause
IsCause command pages (OfHuge why) = ⊥
IsCause command pages NoMemory = ⊥

-- a command was accepted by the core and the pages, or by neither; memory lacks only for one that
-- may need room
pub record Accepts (command : Command) (before : PagesState) (answer : Result ℕ ChangeRefusal)
    (after : PagesState) : Type 0 where
  pub core : IfOk answer (λ version. Answers before.core command (Ok version) after.core)
  pub pages : OnOk answer ((lying : Lying) → LiesAs before.state lying
      → LiesAs after.state (lying_after command lying))
  pub huge : OnOk answer (huge_in after ≡ huge_so command (huge_in before))
  pub setup : setup_of after.core ≡ setup_of before.core
  pub err : IfErr answer (IsCause command before)
  pub room : IfErr answer (LacksOnlyIf (MayNeedRoom command))
  pub unchanged : OnErr answer (after ≡ before)

-- ---- a policy that pages have to lie by

-- whether a page of either size that is judged lies astray; `default` looks at no page
abbrev pub lies_astray : Option Binding → Process → HugeLying → (ℕ → Spot) → Bool
lies_astray None process huge spots = false
lies_astray (Some said) process huge spots = any_astray process huge spots said

-- whether pages stand against it: one lies astray, and nothing else that comes before them does
abbrev pub stands_astray : Option Binding → Process → Command → HugeLying → Lying → Bool
stands_astray None process command huge at = false
stands_astray (Some said) process command huge at = any_astray process huge at.spots said
    && is_late process.machine.rules
    (refusal_of process.machine process.bounds process.history command)

abbrev pub is_astray : ℕ → ℕ → Specification → Process → HugeLying → Lying → Bool
is_astray start bytes spec process huge at =
    stands_astray (strict_binding start bytes spec) process (Mbind start bytes spec) huge at

-- that is the answer where they do, and where they don't the core's is. Memory is wanted only where
-- a page lies astray
abbrev pub IsJudged : Bool → Bool → Result ℕ ChangeRefusal → Type 0
IsJudged astray stands (Ok version) = stands ≡ false
IsJudged astray stands (Err (OfSpace refusal)) = stands ≡ false
IsJudged astray stands (Err (OfPages why)) = (why ≡ cause.Astray) × (stands ≡ true)
IsJudged astray stands (Err (OfHuge why)) = ⊥
IsJudged astray stands (Err NoMemory) = astray ≡ true

-- why the core refuses a command, where it does
abbrev pub IsRefused : CoreState → Command → ChangeRefusal → Type 0
IsRefused core command (OfSpace refusal) = Answers core command (Err refusal) core
IsRefused core command (OfPages why) = Unit {0}
IsRefused core command (OfHuge why) = Unit {0}
IsRefused core command NoMemory = Unit {0}

-- a policy was set for a span in which each page lies as it asks, or nothing has changed; for one
-- of 0 bytes memory never lacks
pub record BindsStrictly (start bytes : ℕ) (spec : Specification) (before : PagesState)
    (answer : Result ℕ ChangeRefusal) (after : PagesState) : Type 0 where
  pub core : IfOk answer (λ version. Answers before.core (Mbind start bytes spec) (Ok version)
      after.core)
  pub judged : (history : List Command) (lying : Lying) → StandsFor before.core.space history
      → LiesAs before.state lying
      → IsJudged (lies_astray (strict_binding start bytes spec) (process_of before history)
      (huge_in before) lying.spots) (is_astray start bytes spec (process_of before history)
      (huge_in before) lying) answer
  pub refused : IfErr answer (IsRefused before.core (Mbind start bytes spec))
  pub room : IfErr answer (LacksOnlyIf (MayNeedRoom (Mbind start bytes spec)))
  pub pages : after.state ≡ before.state
  pub huge : after.huge ≡ before.huge
  pub setup : setup_of after.core ≡ setup_of before.core
  pub unchanged : OnErr answer (after ≡ before)

-- ---- a policy to which pages move

-- a policy for a span, and by whose faults its pages find their nodes
pub record Moving : Type 0 where
  pub said : Rebinding
  pub toucher : Toucher

abbrev pub moving_of : ℕ → ℕ → Specification → ℕ → ℕ → Moving
moving_of start bytes spec task cpu = record {
  said = record { start = start; length = bytes; spec = spec };
  toucher = record { task = task; cpu = cpu };
}

-- the error number that is told though it is set: of a page that stays where it had to go, by
-- `strict`
abbrev pub late_errno : Bool → Specification → ℕ → ℕ
late_errno strict spec left = if tells_left strict spec left then 5 else 0

-- how the pages of 2 MiB of its span go, each to a node of its own list
abbrev pub walk_of : PagesState → List Command → Moving → HugeWalk
walk_of pages history moving = huge_walk (process_of pages history) moving.said moving.toucher
    (alone (huge_in pages))

-- each page of 4 KiB went as far as there was room, and each of 2 MiB; of both this is told, each
-- counted once
pub record HaveMoved (moving : Moving) (before : PagesState) (told : Rebound) (after : PagesState)
    (history : List Command) (lying : Lying) : Type 0 where
  pub lies : LiesAs after.state (with_sent [] (asked_of (process_of before history)
      moving.said moving.toucher) lying)
  pub huge : huge_in after ≡ (walk_of before history moving).huge
  pub moved : told.bound.moved ≡ (sent_in [] (asked_of (process_of before history)
      moving.said moving.toucher) lying).moved + (walk_of before history moving).told.moved
  pub left : told.bound.left ≡ (sent_in [] (asked_of (process_of before history)
      moving.said moving.toucher) lying).left + (walk_of before history moving).told.left

-- too many runs are the pages' cause, and lack of memory isn't
abbrev pub lack_told : PlacedRefusal → ChangeRefusal
lack_told cause.NoMemory = NoMemory
lack_told why = OfPages why

-- why it is refused: by the core; or nothing there stands against it, and the pages' runs are too
-- many; or memory lacks for the copies that it makes in any case
abbrev pub IsMovingCause : Moving → PagesState → ChangeRefusal → Type 0
IsMovingCause moving pages (OfSpace refusal) =
    Answers pages.core (command_of moving.said) (Err refusal) pages.core
IsMovingCause moving pages (OfPages why) = (history : List Command)
    (lying : Lying) → StandsFor pages.core.space history → LiesAs pages.state lying
    → (refusal_of pages.core.space.machine pages.core.space.bounds history
    (command_of moving.said) ≡ None) × (lack_of (lacked_by why) (sent_spots (asked_of
    (process_of pages history) moving.said moving.toucher) lying) ≡ Some why)
IsMovingCause moving pages (OfHuge why) = ⊥
IsMovingCause moving pages NoMemory = Unit {0}

-- a policy was set, and pages of its span that lay on other nodes went, as far as there was room
pub record BindsBy (moving : Moving) (strict : Bool) (before : PagesState)
    (answer : Result Rebound ChangeRefusal) (after : PagesState) : Type 0 where
  pub core : OnOk answer (Accepted before.core (command_of moving.said) after.core)
  pub pages : IfOk answer (λ told. (history : List Command) (lying : Lying)
      → StandsFor before.core.space history → LiesAs before.state lying
      → HaveMoved moving before told after history lying)
  pub errno : IfOk answer (λ told. told.errno
      ≡ late_errno strict moving.said.spec told.bound.left)
  pub setup : setup_of after.core ≡ setup_of before.core
  pub err : IfErr answer (IsMovingCause moving before)
  pub unchanged : OnErr answer (after ≡ before)

abbrev pub BindsMoving : ℕ → ℕ → Specification → Bool → ℕ → ℕ → PagesState
    → Result Rebound ChangeRefusal → PagesState → Type 0
BindsMoving start bytes spec strict task cpu = BindsBy (moving_of start bytes spec task cpu) strict

-- ---- pages that move by their node

-- how many pages moved, and were left
abbrev pub shift_of : Moved → Shift
shift_of moved = record { moved = moved.moved; left = moved.left }

abbrev pub shift_in : Result Moved PlacedRefusal → Result Shift PlacedRefusal
shift_in (Ok moved) = Ok (shift_of moved)
shift_in (Err why) = Err why

-- what was told of a move of pages of 4 KiB is kept as the last one
abbrev pub IsLast : PageState → Moved → Type 0
IsLast state moved = state.last ≡ went.Nodes moved

-- what memory that lacks comes to
abbrev pub lacking : {A : Type 0} → Result A PlacedRefusal
lacking = Err cause.NoMemory

-- a change of pages of both sizes comes to what is done, or to why it is refused, as the outcome
-- says by what it lacked; where that was memory, this came of it, and nothing has changed
abbrev pub DoesBoth : {A Cause : Type 0} → PagesState → Result A Cause → PagesState
    → Result A Cause → (Lack → HugeLying → Lying → Both A Cause) → Type 0
DoesBoth before answer after starved outcome = (lying : Lying) → LiesAs before.state lying
    → (lack : Lack) × LiesAs after.state (outcome lack (huge_in before) lying).1.0
    × (huge_in after ≡ (outcome lack (huge_in before) lying).1.1)
    × ((outcome lack (huge_in before) lying).0 ≡ answer)
    × (is_starved lack ≡ true → (after.state ≡ before.state) × (after.huge ≡ before.huge)
    × (answer ≡ starved))

-- ---- allowed nodes that pages follow

-- pages went along from the allowed nodes of the one core to those of the other, or it is told why
-- not
abbrev pub GoAlong : PagesState → CoreState → Result Shift PlacedRefusal → PagesState → Type 0
GoAlong before core answer after = DoesBoth before answer after lacking (λ lack huge at.
    both_shift before.core.space.allowed core.space.allowed huge
    (along_outcome lack [] before.core.space.allowed core.space.allowed at))

-- why they are refused: by the core; or it would accept them, and the pages' runs lack
abbrev pub IsMemsCause : ℕ → PagesState → PagesState → ChangeRefusal → Type 0
IsMemsCause mask before after (OfSpace refusal) =
    Answers before.core (SetMems mask) (Err refusal) before.core
IsMemsCause mask before after (OfPages why) = (core : CoreState)
    × Accepted before.core (SetMems mask) core × GoAlong before core (Err why) after
IsMemsCause mask before after (OfHuge why) = ⊥
IsMemsCause mask before after NoMemory = Unit {0}

-- the allowed nodes changed, and the pages went with them, as far as there was room; memory lacks
-- only where a node may fill
pub record MovesMems (mask : ℕ) (before : PagesState) (answer : Result Moved ChangeRefusal)
    (after : PagesState) : Type 0 where
  pub core : OnOk answer (Accepted before.core (SetMems mask) after.core)
  pub pages : IfOk answer (λ moved. GoAlong before after.core (Ok (shift_of moved)) after)
  pub told : IfOk answer (IsLastSum before.core.space.allowed after.core.space.allowed
      (huge_in before) after.state)
  pub setup : setup_of after.core ≡ setup_of before.core
  pub err : IfErr answer (IsMemsCause mask before after)
  pub room : IfErr answer (LacksOnlyIf (may_fill before.state ≡ true))
  pub unchanged : OnErr answer (after ≡ before)

-- ---- pages alone

-- pages were changed as the outcome says, beside the core, or nothing has changed
pub record Changes {A Cause : Type 0} (starved : Result A Cause)
    (outcome : Lack → HugeLying → Lying → Both A Cause) (before : PagesState)
    (answer : Result A Cause) (after : PagesState) : Type 0 where
  pub does : DoesBoth before answer after starved outcome
  pub core : after.core ≡ before.core
  pub unchanged : OnErr answer (after ≡ before)

-- the mapped pages of a span were stated to lie on a node, or it is told why not; memory lacks only
-- for a span that has bytes
pub record Places (start bytes node : ℕ) (before : PagesState)
    (answer : Result (Unit {0}) ChangeRefusal) (after : PagesState) : Type 0 where
  pub does : Changes (Err (OfPages cause.NoMemory)) (λ lack huge at.
      place_outcome lack (ground_of before) start bytes node huge at) before answer after
  pub room : IfErr answer (LacksOnlyIf (bytes ≢ 0))

-- a task touched the pages of a span first, or it is told why not
abbrev pub Populates : ℕ → ℕ → ℕ → ℕ → PagesState → Result (Unit {0}) PlacedRefusal → PagesState
    → Type 0
Populates start bytes task cpu before = Changes lacking (λ lack huge at.
    touch_outcome lack (ground_of before) start bytes task cpu huge at) before

-- the same without what it tells
abbrev pub untold : {E : Type 0} → Result Arrived E → Result (Unit {0}) E
untold (Ok arrived) = Ok tt
untold (Err why) = Err why

-- and what that did is told of pages of both sizes
pub record Touches (start bytes task cpu : ℕ) (before : PagesState)
    (answer : Result Arrived PlacedRefusal) (after : PagesState) : Type 0 where
  pub does : Populates start bytes task cpu before (untold answer) after
  pub told : IfOk answer (λ arrived. (lying : Lying) → LiesAs after.state lying
      → HaveArrived arrived lying.arrived
      (huge_arrival (ground_of before) start bytes task cpu (huge_in before)))

-- a task touched one page first, or it is told why not: it has no list of nodes, or no node gives
-- it
abbrev pub fault_by : Option PlaceRefusal → Lack → Ground → ℕ → ℕ → ℕ → HugeLying → Lying
    → Both ℕ HugeRefusal
fault_by (Some why) lack basis task address cpu huge at = (Err (place_cause why), (at, huge))
fault_by None lack basis task address cpu huge at =
    listed_fault lack basis task address cpu huge at

pub record Faults (task address cpu : ℕ) (before : PagesState) (answer : Result ℕ HugeRefusal)
    (after : PagesState) : Type 0 where
  pub does : (history : List Command) → StandsFor before.core.space history
      → DoesBoth before answer after (Err because.NoMemory) (λ lack huge at.
      fault_by (place_refusal_of before.core.space.machine history (page_of address) cpu) lack
      (ground_of before) task address cpu huge at)
  pub core : after.core ≡ before.core

-- a node was given room, or it has no memory
abbrev pub Limits : ℕ → ℕ → PagesState → Result (Unit {0}) PlacedRefusal → PagesState → Type 0
Limits node pages before = Changes lacking
    (λ lack huge at. beside huge (room_outcome before.core.space.machine node pages at)) before

-- a page moved to a node, or it is told why not. The address is any byte's of the page
abbrev pub MovesPage : ℕ → ℕ → PagesState → Result (Unit {0}) MoveRefusal → PagesState → Type 0
MovesPage address node before = Changes (Err move.NoMemory)
    (λ lack huge at. go_outcome lack (ground_of before) address node huge at) before

-- pages left one set of nodes for the allowed nodes of another, as far as there was room, or it is
-- told why not
pub record Migrates (from to : ℕ) (before : PagesState) (answer : Result Moved PlacedRefusal)
    (after : PagesState) : Type 0 where
  pub does : Changes lacking (λ lack huge at. shift_outcome lack (ground_of before) from to huge at)
      before (shift_in answer) after
  pub told : IfOk answer (IsLastSum from (both to before.core.space.allowed) (huge_in before)
      after.state)
