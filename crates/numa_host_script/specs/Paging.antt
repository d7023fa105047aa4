-- What lines about pages are answered in a host, and where the pages of its processes lie after
-- them: each as in a script of one process that has accepted the commands of the process, but that
-- versions are the host's, and the rooms are all processes'. `lacked` says what a line lacked
-- while it was served.
use Rattle.std.specs.Prelude.{ℕ, suc, ◌+◌, ◌&&◌, nat_le, not, Bool, true, false, Option, Some, None}
use Rattle.std.specs.Prelude.{List, [], ◌∷◌, length, if◌then◌else◌, Result, Ok, Err, is_some}
use Rattle.numa_host.specs.Processes.{commands_of, is_there, members_of}
use Rattle.numa_host_pages.specs.Homes.{HostLying, given_back, memory_of, pages_in, pages_lent}
use Rattle.numa_host_pages.specs.Homes.{still_pages, taken_along, with_huge, with_room}
use Rattle.numa_host_pages.specs.Summed.{sum_in}
use Rattle.numa_huge.specs.Moves.{HugeMemory, leave_all}
use Rattle.numa_mask.specs.NodeSet.{both}
use Rattle.numa_space.specs.History.{page_count, page_of}
use Rattle.numa_page_state.specs.Huge.{both_populated, has_huge_in, huge_followed, huge_move}
use Rattle.numa_page_state.specs.Huge.{huge_page, huge_rested, huge_sent, unmap_lack, unmapped_in}
use Rattle.numa_mask.specs.declared.list.ListFault.{ListFault}
use Rattle.numa_page_state.specs.Lying.{Ground, Lying, OfPages, Process, ground_of, with_spots}
use Rattle.numa_page_state.specs.Outcomes.{Enough, Lack, forgotten, has_stated, is_starved, lack_of}
use Rattle.numa_page_state.specs.Outcomes.{rooms_of}
use Rattle.numa_page_state.specs.Sending.{asked_of, command_of, rebinding_in, sent_in, sent_spots}
use Rattle.numa_page_state.specs.Sending.{tells_left, with_sent}
use Rattle.numa_page_state.specs.Strict.{is_late, strict_binding_in}
use Rattle.numa_page_state.specs.declared.binding.Binding.{Binding}
use Rattle.numa_page_state.specs.declared.sending.Rebinding.{Rebinding}
use Rattle.numa_requests.specs.declared.page_refusal.MoveRefusal.{MoveRefusal}
use Rattle.numa_requests.specs.declared.page_refusal.HugeRefusal.TheVariants as because
use Rattle.numa_requests.specs.declared.command.Command.{Command}
use Rattle.numa_requests.specs.declared.command.Command.TheVariants.{Unmap}
use Rattle.numa_requests.specs.declared.host_command.HostCommand.TheVariants.{In}
use Rattle.numa_requests.specs.declared.host_refusal.HostRefusal.TheVariants.{NoMemory}
use Rattle.numa_requests.specs.declared.host_refusal.HostRefusal.TheVariants.{NoSuchProcess}
use Rattle.numa_requests.specs.declared.page_refusal.PlacedRefusal.{PlacedRefusal}
use Rattle.numa_requests.specs.declared.page_refusal.PlacedRefusal.TheVariants as cause
use Rattle.numa_requests.specs.declared.refusal.Refusal.{Refusal}
use Rattle.numa_space.specs.Policies.{allowed_nodes}
use Rattle.numa_space.specs.Refusals.{refusal_of}
use Rattle.numa_script.specs.declared.page_line.BoundPages.{BoundPages}
use Rattle.numa_script.specs.declared.page_line.BoundPages.TheVariants as bound
use Rattle.numa_script.specs.declared.page_line.MoveWords.{MoveWords}
use Rattle.numa_script.specs.declared.page_line.PageLine.{PageLine}
use Rattle.numa_script.specs.declared.page_line.PageLine.TheVariants as page
use Rattle.numa_script.specs.declared.policy.WordError.{WordError}
use Rattle.numa_script.specs.declared.policy.WordError.TheVariants as word_fault
use Rattle.numa_script.specs.declared.reply.Reply.{Reply}
use Rattle.numa_script.specs.declared.reply.Reply.TheVariants as reply
use Rattle.numa_run.specs.ArrivedTexts.{arrival_with, rooms_line}
use Rattle.numa_run.specs.MovedTexts.{both_line, last_line}
use Rattle.numa_run.specs.Obeying.{any_astray, lying_lack, lying_without, toucher_of}
use Rattle.numa_run.specs.PageLines.{change_of, lack_reply, page_reply, shift_told}
use Rattle.numa_run.specs.PageLines.{touch_reply}
use Rattle.numa_run.specs.PoolTexts.{pools_line}
use Rattle.numa_run.specs.Replies.{Answer, Replied, Shown, reply_in}
use Rattle.numa_host_script.specs.declared.lines.Shows.{Shows}
use Rattle.numa_host_script.specs.declared.lines.Shows.TheVariants as shows
use Rattle.numa_host_script.specs.Hosts.{Hosting, Outcome, cause_by, process_outcome}
use Rattle.numa_host_script.specs.Hosts.{command_unless, with_lying, with_reply, with_text}

-- ---- a process and its pages

-- a process, as a script of its own would have it; none of its pages keeps a frame
abbrev pub process_in : Hosting → ℕ → Process
process_in at process = record {
  machine = at.machine;
  bounds = at.bounds;
  history = commands_of at.machine at.history process;
  kept = [];
}

-- where its pages lie while it acts
abbrev pub pages_at : Hosting → ℕ → Lying
pages_at at process = pages_lent process at.lying

-- the pages of all once its own lie so
abbrev pub lying_with : Hosting → ℕ → Lying → HostLying
lying_with at process done = given_back process done at.lying

-- its pages of 2 MiB while it acts; none where it has mapped none
abbrev pub memory_at : Hosting → ℕ → Option HugeMemory
memory_at at process = memory_of process at.lying

-- ---- at, populate, migrate, move

-- what the last first touches of a process did, at the version of the host
abbrev pub arrived_in : ℕ → ℕ → HostLying → List ℕ
arrived_in version process at =
    arrival_with (memory_of process at) version (pages_lent process at).arrived

abbrev pub arrived_text : Hosting → ℕ → List ℕ
arrived_text at process = arrived_in (length at.history) process at.lying

-- a line without a reply tells what it touched, at the version of the host
abbrev pub told_by : Option Reply → ℕ → ℕ → HostLying → Answer
told_by (Some answer) version process at = Replied answer
told_by None version process at = Shown (arrived_in version process at)

-- a line that is answered by what moved is the host's last move
abbrev pub is_move : Reply → Bool
is_move (reply.Moved moved left) = true
is_move (reply.MovedTo node) = true
is_move _ = false

abbrev pub tells_move : Option Reply → Bool
tells_move None = false
tells_move (Some answer) = is_move answer

abbrev pub along_if : Bool → ℕ → HostLying → HostLying
along_if false process at = at
along_if true process at = taken_along process at

abbrev pub with_change : Hosting → ℕ → Option Reply × HostLying → Outcome
with_change at process done =
    with_lying (told_by done.0 (length at.history) process done.1)
    (along_if (tells_move done.0) process done.1) at

-- what a line changes, and its reply, if it has one; the first change of a process wants memory,
-- whatever it is
abbrev pub pages_changed : Lack → Ground → ℕ → PageLine → HostLying → Option Reply × HostLying
pages_changed lacked basis process said at =
    if not (is_some (pages_in process at.homes)) && is_starved lacked
    then (Some (lack_reply said), at)
    else (
      (change_of lacked basis said (record (pages_lent process at) { begun = true })).0,
      given_back process
          (change_of lacked basis said (record (pages_lent process at) { begun = true })).1 at,
    )

abbrev pub changed : Lack → Hosting → ℕ → PageLine → Outcome
changed lacked at process said = with_change at process
    (pages_changed lacked (ground_of (process_in at process)) process said at.lying)

abbrev pub small_where : Bool → Lack → Hosting → ℕ → PageLine → Outcome
small_where false lacked at process said = with_reply (reply.HostRefused NoSuchProcess) at
small_where true lacked at process said = changed lacked at process said

-- ---- where pages have 2 MiB

-- no page of a span may
abbrev pub unless_huge : ℕ → ℕ → Hosting → ℕ → Outcome → Outcome
unless_huge first pages at process done = if has_huge_in (memory_at at process) first pages
    then with_reply (reply.HugeRefused because.NotSupported) at else done

abbrev pub with_memory : ℕ → HugeMemory → Outcome → Outcome
with_memory process memory done =
    record done { lying = with_huge process memory done.lying }

-- move ADDR NODE, of a page of 4 KiB: this is the last move of both sizes
abbrev pub small_moved : ℕ → HugeMemory → Outcome → Outcome
small_moved process memory done = if tells_move (reply_in done.answer)
    then with_memory process (huge_rested memory) done else done

-- of one of 2 MiB
abbrev pub huge_moved_by : ℕ → Result (Unit {0}) MoveRefusal × HugeMemory → Hosting → ℕ → Outcome
huge_moved_by node (Err why, memory) at process = with_reply (reply.MoveRefused why) at
huge_moved_by node (Ok done, memory) at process = with_lying (Replied (reply.MovedTo node))
    (taken_along process (with_huge process memory (still_pages process at.lying))) at

abbrev pub move_where : Option HugeMemory → Lack → Hosting → ℕ → ℕ → ℕ → Outcome
move_where None lacked at process address node =
    changed lacked at process (page.Move address node)
move_where (Some memory) lacked at process address node =
    if is_some (memory.pages.spots (huge_page address))
    then huge_moved_by node (huge_move lacked (ground_of (process_in at process))
    (huge_page address) node memory) at process
    else small_moved process memory (changed lacked at process (page.Move address node))

-- populate START LENGTH TASK CPU, of pages of both sizes; the first change wants memory
abbrev pub populated_by : Result (Unit {0}) PlacedRefusal × (Lying × HugeMemory) → ℕ → HostLying
    → Result (Unit {0}) PlacedRefusal × HostLying
populated_by (Err why, after) process at = (Err why, given_back process after.0 at)
populated_by (Ok done, after) process at =
    (Ok done, with_huge process after.1 (given_back process after.0 at))

abbrev pub populated_both : Lack → Ground → ℕ → ℕ → ℕ → ℕ → ℕ → HugeMemory → HostLying
    → Result (Unit {0}) PlacedRefusal × HostLying
populated_both lacked basis process start bytes task cpu memory at =
    if not (is_some (pages_in process at.homes)) && is_starved lacked
    then (Err cause.NoMemory, at)
    else populated_by (both_populated lacked basis start bytes task cpu memory
    (record (pages_lent process at) { begun = true })) process at

abbrev pub populate_told : Result (Unit {0}) PlacedRefusal × HostLying → Hosting → ℕ → Outcome
populate_told done at process =
    with_lying (told_by (touch_reply done.0) (length at.history) process done.1) done.1 at

abbrev pub both_populate : Lack → Hosting → ℕ → ℕ → ℕ → ℕ → ℕ → HugeMemory → Outcome
both_populate lacked at process start bytes task cpu memory = populate_told (populated_both lacked
    (ground_of (process_in at process)) process start bytes task cpu memory at.lying) at process

-- where the span has none, nothing is told of them
abbrev pub populate_where : Option HugeMemory → Lack → Hosting → ℕ → ℕ → ℕ → ℕ → ℕ → Outcome
populate_where None lacked at process start bytes task cpu =
    changed lacked at process (page.Populate start bytes task cpu)
populate_where (Some memory) lacked at process start bytes task cpu =
    if has_huge_in (Some memory) (page_of start) (page_count bytes)
    then both_populate lacked at process start bytes task cpu memory
    else changed lacked (record at {
      lying = with_huge process (record memory { arrived = None }) at.lying;
    }) process (page.Populate start bytes task cpu)

-- migrate FROM TO, of pages of both sizes
abbrev pub migrated_by : Option (ℕ × ℕ) → ℕ → ℕ → ℕ → HugeMemory → Outcome → Outcome
migrated_by None process from to memory done = done
migrated_by (Some shift) process from to memory done =
    with_memory process (huge_followed true from to memory) (record done {
      answer = Replied (reply.Moved (shift.0 + leave_all from to memory.pages.spots) shift.1);
    })

abbrev pub migrate_where : Option HugeMemory → ℕ → ℕ → ℕ → Outcome → Outcome
migrate_where None process from to done = done
migrate_where (Some memory) process from to done =
    migrated_by (shift_told done.answer) process from to memory done

abbrev pub page_there : Lack → Hosting → ℕ → PageLine → Outcome
page_there lacked at process page.Moved = with_text (both_line (length at.history)
    (pages_at at process).last (memory_at at process)) at
page_there lacked at process (page.At start bytes node) =
    unless_huge (page_of start) (page_count bytes) at process
    (changed lacked at process (page.At start bytes node))
page_there lacked at process (page.Populate start bytes task cpu) =
    populate_where (memory_at at process) lacked at process start bytes task cpu
page_there lacked at process (page.Migrate from to) =
    migrate_where (memory_at at process) process from
    (both to (allowed_nodes at.machine (commands_of at.machine at.history process)))
    (changed lacked at process (page.Migrate from to))
page_there lacked at process (page.Move address node) =
    move_where (memory_at at process) lacked at process address node
page_there lacked at process said = changed lacked at process said

abbrev pub page_where : Bool → Lack → Hosting → ℕ → PageLine → Outcome
page_where false lacked at process said = with_reply (reply.HostRefused NoSuchProcess) at
page_where true lacked at process said = page_there lacked at process said

-- the rooms, and whether pages follow, are the host's
abbrev pub page_outcome : Lack → Hosting → ℕ → PageLine → Outcome
page_outcome lacked at process (page.Room node pages) = with_reply reply.BadWords at
page_outcome lacked at process page.Rooms = with_reply reply.BadWords at
page_outcome lacked at process (page.MemoryMigrate follows) = with_reply reply.BadWords at
page_outcome lacked at process said =
    page_where (is_there (members_of at.history) process) lacked at process said

-- what is wrong with a list of nodes comes before every refusal
abbrev pub pages_outcome : Lack → Hosting → ℕ → Result PageLine ListFault → Outcome
pages_outcome lacked at process (Err wrong) =
    with_reply (reply.BadWord (word_fault.List wrong)) at
pages_outcome lacked at process (Ok said) = page_outcome lacked at process said

-- ---- room, memory-migrate, moved

abbrev pub room_outcome : Hosting → ℕ → ℕ → Outcome
room_outcome at node pages = with_lying
    (Replied (page_reply reply.RoomOk (with_room at.machine node pages at.lying).0))
    (with_room at.machine node pages at.lying).1 at

-- what the last move of the host did, all its processes together, at the version of the host
abbrev pub moved_text : Hosting → List ℕ
moved_text at = last_line (length at.history) (OfPages (sum_in at.lying))

-- what is shown of the pages of a host: that, what its pools have, or how many more its nodes take
abbrev pub shown_text : Shows → Hosting → List ℕ
shown_text shows.Move at = moved_text at
shown_text shows.Pools at = pools_line at.lying.huge.pools
shown_text shows.Rooms at = rooms_line (rooms_of at.lying.room)

-- a line about pages that no process is told
abbrev pub own_page_outcome : Hosting → PageLine → Outcome
own_page_outcome at (page.Room node pages) = room_outcome at node pages
own_page_outcome at page.Rooms = with_text (rooms_line (rooms_of at.lying.room)) at
own_page_outcome at (page.MemoryMigrate follows) = with_lying (Replied reply.MemoryMigrateOk)
    (record at.lying { follows = follows }) at
own_page_outcome at page.Moved = with_text (moved_text at) at
own_page_outcome at _ = with_reply reply.BadState at

-- ---- commands of a process

-- why pages stand against a command; where memory lacks, it is the command that lacks it
abbrev pub pages_reply : PlacedRefusal → Reply
pages_reply cause.NoMemory = reply.HostRefused NoMemory
pages_reply why = reply.PlacedRefused why

abbrev pub unless_pages : Option PlacedRefusal → Hosting → Outcome → Outcome
unless_pages (Some why) at done = with_reply (pages_reply why) at
unless_pages None at done = done

-- nothing is stated any more of pages that were unmapped, and their room is given back
abbrev pub small_unmap : Lack → Hosting → ℕ → ℕ → ℕ → Outcome
small_unmap lacked at process start bytes =
    let spots = forgotten start bytes (pages_at at process).spots in
    if has_stated (pages_at at process).spots start bytes
    then unless_pages (lack_of lacked spots) at (command_unless
    (cause_by lacked at (In process (Unmap start bytes)))
    (lying_with at process (with_spots spots (pages_at at process))) at
    (In process (Unmap start bytes)))
    else process_outcome lacked at process (Unmap start bytes)

-- pages of 2 MiB among them become free, or their reservations are given back
abbrev pub small_without : ℕ → ℕ → Hosting → ℕ → HostLying
small_without start bytes at process = if has_stated (pages_at at process).spots start bytes
    then lying_with at process (lying_without start bytes (pages_at at process)) else at.lying

-- where the host accepts the command
abbrev pub unmapped_with : HugeMemory → Lack → Hosting → ℕ → ℕ → ℕ → Outcome
unmapped_with memory lacked at process start bytes =
    command_unless (cause_by lacked at (In process (Unmap start bytes)))
    (with_huge process (unmapped_in start bytes memory) (small_without start bytes at process)) at
    (In process (Unmap start bytes))

abbrev pub huge_unmap : Lack → Hosting → ℕ → ℕ → ℕ → HugeMemory → Outcome
huge_unmap lacked at process start bytes memory =
    unless_pages (unmap_lack lacked start bytes memory) at
    (unless_pages (lying_lack lacked start bytes (pages_at at process)) at
    (unmapped_with memory lacked at process start bytes))

abbrev pub unmap_where : Option HugeMemory → Lack → Hosting → ℕ → ℕ → ℕ → Outcome
unmap_where None lacked at process start bytes = small_unmap lacked at process start bytes
unmap_where (Some memory) lacked at process start bytes =
    if has_huge_in (Some memory) (page_of start) (page_count bytes)
    then huge_unmap lacked at process start bytes memory
    else small_unmap lacked at process start bytes

abbrev pub unmap_outcome : Lack → Hosting → ℕ → ℕ → ℕ → Outcome
unmap_outcome lacked at process start bytes =
    unmap_where (memory_at at process) lacked at process start bytes

abbrev pub obeyed : Lack → Hosting → ℕ → Command → Outcome
obeyed lacked at process (Unmap start bytes) = unmap_outcome lacked at process start bytes
obeyed lacked at process said = process_outcome lacked at process said

abbrev pub given_outcome : Lack → Hosting → ℕ → Result Command WordError → Outcome
given_outcome lacked at process (Err fault) = with_reply (reply.BadWord fault) at
given_outcome lacked at process (Ok said) = obeyed lacked at process said

-- ---- mbind .. strict

-- the cause for which a space with the commands of a process refuses another
abbrev pub own_cause : Hosting → ℕ → Command → Option Refusal
own_cause at process said =
    refusal_of at.machine at.bounds (commands_of at.machine at.history process) said

abbrev pub astray_outcome : Lack → Hosting → ℕ → Command → Outcome
astray_outcome lacked at process said =
    if is_starved lacked then with_reply (pages_reply cause.NoMemory) at
    else if is_late at.machine.rules (own_cause at process said)
    then with_reply (pages_reply cause.Astray) at
    else process_outcome Enough at process said

abbrev pub judged_by : Option Binding → Lack → Hosting → ℕ → Command → Outcome
judged_by None lacked at process said = process_outcome lacked at process said
judged_by (Some binding) lacked at process said =
    if any_astray (memory_at at process) (process_in at process) (pages_at at process).spots binding
    then astray_outcome lacked at process said
    else process_outcome lacked at process said

-- ---- mbind .. move

-- the policy was set, and pages went: this is the host's last move
abbrev pub small_sent : Hosting → ℕ → Rebinding → MoveWords → Outcome
small_sent at process said words =
    let asked = asked_of (process_in at process) said (toucher_of words) in
    let sent = sent_in [] asked (pages_at at process) in
    record {
      answer = Replied (reply.Sent (suc (length at.history)) sent.moved sent.left
          (tells_left words.strict said.spec sent.left));
      history = In process (command_of said) ∷ at.history;
      lying = taken_along process
          (lying_with at process (with_sent [] asked (pages_at at process)));
    }

-- those of 2 MiB too
abbrev pub both_sent : Hosting → ℕ → Rebinding → MoveWords → HugeMemory → Outcome
both_sent at process said words after =
    let asked = asked_of (process_in at process) said (toucher_of words) in
    let sent = sent_in [] asked (pages_at at process) in
    let left = sent.left + after.told.left in
    record {
      answer = Replied (reply.Sent (suc (length at.history)) (sent.moved + after.told.moved) left
          (tells_left words.strict said.spec left));
      history = In process (command_of said) ∷ at.history;
      lying = taken_along process (with_huge process after
          (lying_with at process (with_sent [] asked (pages_at at process))));
    }

abbrev pub sent_with : Option HugeMemory → Hosting → ℕ → Rebinding → MoveWords → Outcome
sent_with None at process said words = small_sent at process said words
sent_with (Some memory) at process said words = both_sent at process said words
    (huge_sent (process_in at process) said (toucher_of words) memory)

abbrev pub sent_outcome : Hosting → ℕ → Rebinding → MoveWords → Outcome
sent_outcome at process said words = sent_with (memory_at at process) at process said words

-- what refuses the policy is answered as without the words; then lack of runs or memory
abbrev pub sent_where : Option Refusal → Lack → Hosting → ℕ → Rebinding → MoveWords → Outcome
sent_where (Some refusal) lacked at process said words =
    process_outcome Enough at process (command_of said)
sent_where None lacked at process said words =
    unless_pages (lack_of lacked (sent_spots (asked_of (process_in at process) said
    (toucher_of words)) (pages_at at process))) at (sent_outcome at process said words)

-- memory that lacks for the trial comes before all
abbrev pub sent_unless : Lack → Option Refusal → Hosting → ℕ → Rebinding → MoveWords → Outcome
sent_unless lacked first at process said words =
    if is_starved lacked then with_reply (pages_reply cause.NoMemory) at
    else sent_where first lacked at process said words

abbrev pub moved_by : Option Rebinding → Lack → Hosting → ℕ → Command → MoveWords → Outcome
moved_by None lacked at process command words = process_outcome lacked at process command
moved_by (Some said) lacked at process command words = sent_unless lacked
    (own_cause at process (command_of said)) at process said words

abbrev pub bound_by : BoundPages → Lack → Hosting → ℕ → Command → Outcome
bound_by bound.Strict lacked at process said =
    judged_by (strict_binding_in said) lacked at process said
bound_by (bound.Move words) lacked at process said =
    moved_by (rebinding_in said) lacked at process said words

-- the process is there, and the host takes more commands
abbrev pub takes_more : Hosting → ℕ → Bool
takes_more at process = is_there (members_of at.history) process
    && not (nat_le at.bounds.max_commands (length at.history))

abbrev pub bound_where : Bool → BoundPages → Lack → Hosting → ℕ → Command → Outcome
bound_where false pages lacked at process said = process_outcome lacked at process said
bound_where true pages lacked at process said = bound_by pages lacked at process said

abbrev pub bound_outcome : Lack → Hosting → ℕ → BoundPages → Result Command WordError → Outcome
bound_outcome lacked at process pages (Err fault) = with_reply (reply.BadWord fault) at
bound_outcome lacked at process pages (Ok said) =
    bound_where (takes_more at process) pages lacked at process said
