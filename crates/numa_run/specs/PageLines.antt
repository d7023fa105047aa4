-- What lines of workers and lines about pages are answered, and the state after them. `lack` says
-- what a line lacked while it was served.
use Rattle.std.specs.Prelude.{ℕ, ◌+◌, ◌&&◌, not, Bool, true, false, length, if◌then◌else◌, Result}
use Rattle.std.specs.Prelude.{Ok, Err, List, Option, Some, None, is_some}
use Rattle.numa_machine.specs.Machine.{Hardware}
use Rattle.numa_mask.specs.declared.list.ListFault.{ListFault}
use Rattle.numa_placed.specs.Spots.{is_placed}
use Rattle.numa_requests.specs.declared.page_refusal.MoveRefusal.{MoveRefusal}
use Rattle.numa_requests.specs.declared.page_refusal.MoveRefusal.TheVariants as move
use Rattle.numa_requests.specs.declared.page_refusal.PlacedRefusal.{PlacedRefusal}
use Rattle.numa_requests.specs.declared.page_refusal.PlacedRefusal.TheVariants as cause
use Rattle.numa_mask.specs.NodeSet.{both}
use Rattle.numa_space.specs.History.{page_count, page_of}
use Rattle.numa_space.specs.Policies.{allowed_nodes}
use Rattle.numa_huge.specs.Moves.{HugeMemory, leave_all}
use Rattle.numa_page_state.specs.Huge.{both_populated, has_huge_in, huge_followed, huge_move}
use Rattle.numa_page_state.specs.Huge.{huge_page, huge_rested}
use Rattle.numa_page_state.specs.Lying.{Ground, Lying, OfNodes, ground_of, still}
use Rattle.numa_page_state.specs.Outcomes.{Lack, at_outcome, is_starved, migrate_outcome}
use Rattle.numa_page_state.specs.Outcomes.{move_outcome, room_outcome, rooms_of}
use Rattle.numa_page_state.specs.Touching.{populate_outcome}
use Rattle.numa_page_state.specs.declared.shift.Shift.{Shift}
use Rattle.numa_requests.specs.declared.page_refusal.HugeRefusal.TheVariants as because
use Rattle.numa_script.specs.declared.page_line.PageLine.{PageLine}
use Rattle.numa_script.specs.declared.page_line.PageLine.TheVariants as page
use Rattle.numa_script.specs.declared.policy.WordError.TheVariants as word_fault
use Rattle.numa_script.specs.declared.reply.Reply.{Reply}
use Rattle.numa_script.specs.declared.reply.Reply.TheVariants as reply
use Rattle.numa_script.specs.declared.work.Work.{Work}
use Rattle.numa_script.specs.declared.work.Work.TheVariants as work
use Rattle.numa_run.specs.Answering.{Answer, Replied, Served, with_outcome, with_reply, with_text}
use Rattle.numa_run.specs.ArrivedTexts.{arrival_with, rooms_line}
use Rattle.numa_run.specs.MovedTexts.{both_line}
use Rattle.numa_run.specs.Obeying.{with_huge}
use Rattle.numa_run.specs.States.{State, process_on, setup_with}
use Rattle.numa_run.specs.Work.{work_outcome}

-- ---- lines of workers

-- a page that is there isn't touched for the first time
abbrev pub worked : Lack → Hardware → State → Work → Served
worked lack machine state said = with_outcome state (work_outcome lack
    (setup_with machine state.bounds) state.world state.resident said)

-- `at` and `populate` of them aren't there, nor is a worker's touch
abbrev pub unless_huge : ℕ → ℕ → State → Served → Served
unless_huge first pages state served = if has_huge_in state.huge first pages
    then with_reply (reply.HugeRefused because.NotSupported) state else served

abbrev pub work_served : Lack → Hardware → State → Work → Served
work_served lack machine state (work.Touch w request) =
    unless_huge request.page 1 state
    (if is_placed (state.lying.spots request.page) then with_reply reply.Placed state
    else worked lack machine state (work.Touch w request))
work_served lack machine state (work.Event event) =
    worked lack machine state (work.Event event)
work_served lack machine state (work.Release w page) =
    worked lack machine state (work.Release w page)

-- ---- lines about pages

abbrev pub page_reply : Reply → Result (Unit {0}) PlacedRefusal → Reply
page_reply told (Ok done) = told
page_reply told (Err why) = reply.PlacedRefused why

abbrev pub migrate_reply : Result Shift PlacedRefusal → Reply
migrate_reply (Ok shift) = reply.Moved shift.moved shift.left
migrate_reply (Err why) = reply.PlacedRefused why

abbrev pub move_reply : ℕ → Result (Unit {0}) MoveRefusal → Reply
move_reply node (Ok done) = reply.MovedTo node
move_reply node (Err why) = reply.MoveRefused why

-- a refusal; what first touches did is no reply, but a text
abbrev pub touch_reply : Result (Unit {0}) PlacedRefusal → Option Reply
touch_reply (Ok done) = None
touch_reply (Err why) = Some (reply.PlacedRefused why)

-- what a line changes, and its reply, if it has one; `moved` and `room` alone change nothing, and
-- their answers are texts
abbrev pub change_of : Lack → Ground → PageLine → Lying → Option Reply × Lying
change_of lack basis (page.At start bytes node) at =
    let done = at_outcome lack basis start bytes node at in
    (Some (page_reply reply.AtOk done.0), done.1)
change_of lack basis (page.Room node pages) at =
    let done = room_outcome basis.machine node pages at in
    (Some (page_reply reply.RoomOk done.0), done.1)
change_of lack basis (page.MemoryMigrate follows) at =
    (Some reply.MemoryMigrateOk, record at { follows = follows })
change_of lack basis (page.Migrate from to) at =
    let done = migrate_outcome lack basis from to at in (Some (migrate_reply done.0), done.1)
change_of lack basis (page.Move address node) at =
    let done = move_outcome lack basis address node at in (Some (move_reply node done.0), done.1)
change_of lack basis (page.Populate start bytes task cpu) at =
    let done = populate_outcome lack basis start bytes task cpu at in
    (touch_reply done.0, done.1)
change_of lack basis page.Rooms at = (None, at)
change_of lack basis page.Moved at = (None, at)

-- a line that has a reply whatever comes of it
abbrev pub has_reply : PageLine → Bool
has_reply page.Moved = false
has_reply page.Rooms = false
has_reply (page.Populate start bytes task cpu) = false
has_reply _ = true

-- that memory lacks for it
abbrev pub lack_reply : PageLine → Reply
lack_reply (page.Move address node) = reply.MoveRefused move.NoMemory
lack_reply _ = reply.PlacedRefused cause.NoMemory

-- what the last first touches did, at the version of the accepted commands
abbrev pub arrived_text : State → List ℕ
arrived_text state =
    arrival_with state.huge (length state.world.history) state.lying.arrived

-- a line without a reply tells what it touched, as the state after it has it
abbrev pub answered_by : Option Reply → State → Served
answered_by (Some answer) state = with_reply answer state
answered_by None state = with_text (arrived_text state) state

abbrev pub with_change : State → Option Reply × Lying → Served
with_change state done = answered_by done.0 (record state { lying = done.1 })

-- the first change wants memory, whatever it is
abbrev pub changed : Lack → Hardware → State → PageLine → Served
changed lack machine state said =
    if not state.lying.begun && is_starved lack then with_reply (lack_reply said) state
    else with_change state (change_of lack (ground_of (process_on machine state)) said
    (record state.lying { begun = true }))

-- ---- where pages have 2 MiB

-- a move of one of 4 KiB is the last of both sizes
abbrev pub tells_move : Answer → Bool
tells_move (Replied (reply.MovedTo node)) = true
tells_move _ = false

abbrev pub small_moved : HugeMemory → Served → Served
small_moved memory served = with_huge
    (Some (if tells_move served.answer then huge_rested memory else memory)) served

-- move ADDR NODE, of a page of 2 MiB; the first change wants memory
abbrev pub huge_moved : ℕ → Result (Unit {0}) MoveRefusal × HugeMemory → State → Served
huge_moved node (Err why, memory) state = with_reply (reply.MoveRefused why) state
huge_moved node (Ok done, memory) state = with_reply (reply.MovedTo node)
    (record state { huge = Some memory; lying = record state.lying { last = OfNodes still } })

abbrev pub huge_move_outcome : Lack → Hardware → State → HugeMemory → ℕ → ℕ → Served
huge_move_outcome lack machine state memory address node =
    if not state.lying.begun && is_starved lack
    then with_reply (lack_reply (page.Move address node)) state
    else huge_moved node
    (huge_move lack (ground_of (process_on machine state)) (huge_page address) node memory)
    (record state { lying = record state.lying { begun = true } })

abbrev pub move_where : Option HugeMemory → Lack → Hardware → State → ℕ → ℕ → Served
move_where None lack machine state address node =
    changed lack machine state (page.Move address node)
move_where (Some memory) lack machine state address node =
    if is_some (memory.pages.spots (huge_page address))
    then huge_move_outcome lack machine state memory address node
    else small_moved memory (changed lack machine state (page.Move address node))

-- populate START LENGTH TASK CPU, of pages of both sizes; the first change wants memory
abbrev pub populated_by : Result (Unit {0}) PlacedRefusal × (Lying × HugeMemory) → State → Served
populated_by (Err why, after) state =
    with_reply (reply.PlacedRefused why) (record state { lying = after.0 })
populated_by (Ok done, after) state =
    let reached = record state { lying = after.0; huge = Some after.1 } in
    with_text (arrived_text reached) reached

abbrev pub both_populate : Lack → Hardware → State → ℕ → ℕ → ℕ → ℕ → HugeMemory → Served
both_populate lack machine state start bytes task cpu memory =
    if not state.lying.begun && is_starved lack
    then with_reply (lack_reply (page.Populate start bytes task cpu)) state
    else populated_by (both_populated lack (ground_of (process_on machine state)) start bytes task
    cpu memory (record state.lying { begun = true })) state

-- where the span has none, nothing is told of them
abbrev pub populate_where : Option HugeMemory → Lack → Hardware → State → ℕ → ℕ → ℕ → ℕ → Served
populate_where None lack machine state start bytes task cpu =
    changed lack machine state (page.Populate start bytes task cpu)
populate_where (Some memory) lack machine state start bytes task cpu =
    if has_huge_in (Some memory) (page_of start) (page_count bytes)
    then both_populate lack machine state start bytes task cpu memory
    else changed lack machine (record state { huge = Some (record memory { arrived = None }) })
    (page.Populate start bytes task cpu)

-- migrate FROM TO, of pages of both sizes
abbrev pub also_moved : ℕ → ℕ → Option HugeMemory → ℕ
also_moved from to None = 0
also_moved from to (Some memory) = leave_all from to memory.pages.spots

abbrev pub shift_told : Answer → Option (ℕ × ℕ)
shift_told (Replied (reply.Moved moved left)) = Some (moved, left)
shift_told _ = None

abbrev pub migrated_by : Option (ℕ × ℕ) → ℕ → ℕ → HugeMemory → Served → Served
migrated_by (Some shift) from to memory served =
    with_huge (Some (huge_followed true from to memory)) (record served {
      answer = Replied (reply.Moved (shift.0 + leave_all from to memory.pages.spots) shift.1);
    })
migrated_by None from to memory served = served

abbrev pub migrate_where : Option HugeMemory → ℕ → ℕ → Served → Served
migrate_where None from to served = served
migrate_where (Some memory) from to served =
    migrated_by (shift_told served.answer) from to memory served

abbrev pub page_outcome : Lack → Hardware → State → PageLine → Served
page_outcome lack machine state page.Moved =
    with_text (both_line (length state.world.history) state.lying.last state.huge) state
page_outcome lack machine state (page.At start bytes node) =
    unless_huge (page_of start) (page_count bytes) state
    (changed lack machine state (page.At start bytes node))
page_outcome lack machine state (page.Populate start bytes task cpu) =
    populate_where state.huge lack machine state start bytes task cpu
page_outcome lack machine state (page.Migrate from to) = migrate_where state.huge from
    (both to (allowed_nodes machine state.world.history))
    (changed lack machine state (page.Migrate from to))
page_outcome lack machine state (page.Move address node) =
    move_where state.huge lack machine state address node
page_outcome lack machine state page.Rooms =
    with_text (rooms_line (rooms_of state.lying.room)) state
page_outcome lack machine state said = changed lack machine state said

-- what is wrong with a list of nodes comes before every refusal
abbrev pub pages_outcome : Lack → Hardware → State → Result PageLine ListFault → Served
pages_outcome lack machine state (Err wrong) =
    with_reply (reply.BadWord (word_fault.List wrong)) state
pages_outcome lack machine state (Ok said) = page_outcome lack machine state said
