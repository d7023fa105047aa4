-- What commands are answered, and the state after them. `lack` says what a line lacked while it was
-- served.
use Rattle.std.specs.Prelude.{ℕ, suc, ◌+◌, ◌==◌, ◌&&◌, ◌||◌, Bool, true, false, Option, Some, None}
use Rattle.std.specs.Prelude.{◌∷◌, length, is_ok, if◌then◌else◌, Result, Ok, Err}
use Rattle.numa_machine.specs.Machine.{Hardware}
use Rattle.numa_machine.specs.Rules.{is_linux}
use Rattle.numa_machine.specs.declared.rules.Rules.{Rules}
use Rattle.numa_mode.specs.Policy.{Specification}
use Rattle.numa_requests.specs.declared.command.Command.{Command}
use Rattle.numa_requests.specs.declared.command.Command.TheVariants.{Mbind, SetMems, Unmap}
use Rattle.numa_requests.specs.declared.event.CoreRefusal.TheVariants.{Command as Because}
use Rattle.numa_requests.specs.declared.event.Event.TheVariants.{Accept}
use Rattle.numa_requests.specs.declared.page_refusal.PlacedRefusal.{PlacedRefusal}
use Rattle.numa_requests.specs.declared.page_refusal.PlacedRefusal.TheVariants as cause
use Rattle.numa_requests.specs.declared.refusal.Refusal.{Refusal}
use Rattle.numa_requests.specs.declared.refusal.Refusal.TheVariants.{NoMemory}
use Rattle.numa_space.specs.Policies.{allowed_nodes}
use Rattle.numa_space.specs.Refusals.{refusal_of}
use Rattle.numa_space.specs.History.{page_count, page_of}
use Rattle.numa_huge.specs.Moves.{HugeMemory}
use Rattle.numa_page_state.specs.Huge.{has_huge_in, huge_astray, huge_followed, huge_sent}
use Rattle.numa_page_state.specs.Huge.{unmap_lack, unmapped_in}
use Rattle.numa_page_state.specs.Lying.{Lying, Process, with_spots}
use Rattle.numa_placed.specs.declared.spot.Spot.{Spot}
use Rattle.numa_page_state.specs.Outcomes.{Enough, Lack, followed, forgotten, has_stated}
use Rattle.numa_page_state.specs.Outcomes.{is_starved, lack_of}
use Rattle.numa_page_state.specs.Sending.{asked_of, command_of, rebinding_in, sent_in, sent_spots}
use Rattle.numa_page_state.specs.Sending.{tells_left, with_sent}
use Rattle.numa_page_state.specs.Strict.{has_astray, is_late, strict_binding_in}
use Rattle.numa_page_state.specs.declared.binding.Binding.{Binding}
use Rattle.numa_page_state.specs.declared.sending.Rebinding.{Rebinding}
use Rattle.numa_page_state.specs.declared.sending.Toucher.{Toucher}
use Rattle.numa_script.specs.Lines.{empty_bind}
use Rattle.numa_script.specs.Policies.{waits_for_pages}
use Rattle.numa_script.specs.declared.page_line.BoundPages.{BoundPages}
use Rattle.numa_script.specs.declared.page_line.BoundPages.TheVariants as bound
use Rattle.numa_script.specs.declared.page_line.MoveWords.{MoveWords}
use Rattle.numa_script.specs.declared.policy.WordError.{WordError}
use Rattle.numa_script.specs.declared.reply.Reply.{Reply}
use Rattle.numa_script.specs.declared.reply.Reply.TheVariants as reply
use Rattle.numa_run.specs.Answering.{Replied, Served, with_outcome, with_reply}
use Rattle.numa_run.specs.States.{State, process_on, setup_with}
use Rattle.numa_run.specs.Work.{event_answer, event_outcome}

-- a command, as the core takes it
abbrev pub accepted_outcome : Lack → Hardware → State → Command → Served
accepted_outcome lack machine state command =
    with_outcome state (event_outcome lack (setup_with machine state.bounds) state.world
    state.resident (Accept command))

abbrev pub is_accepted : Lack → Hardware → State → Command → Bool
is_accepted lack machine state command = is_ok (event_answer lack
    (setup_with machine state.bounds) state.world (Accept command))

abbrev pub with_lying : Lying → Served → Served
with_lying lying served = record served { state = record served.state { lying = lying } }

-- where the core accepted a command, pages lie so after it
abbrev pub lying_so : Lack → Hardware → State → Command → Lying → Served
lying_so lack machine state command lying =
    if is_accepted lack machine state command
    then with_lying lying (accepted_outcome lack machine state command)
    else accepted_outcome lack machine state command

-- and pages of 2 MiB are so
abbrev pub with_huge : Option HugeMemory → Served → Served
with_huge memory served = record served { state = record served.state { huge = memory } }

abbrev pub both_so : Lack → Hardware → State → Command → Lying → Option HugeMemory → Served
both_so lack machine state command lying memory =
    if is_accepted lack machine state command
    then with_huge memory (with_lying lying (accepted_outcome lack machine state command))
    else accepted_outcome lack machine state command

-- pages follow the allowed nodes, those of 2 MiB too where there are some
abbrev pub mems_where : Option HugeMemory → Lack → Hardware → State → ℕ → Served
mems_where None lack machine state mask =
    lying_so lack machine state (SetMems mask) (followed lack
    (allowed_nodes machine state.world.history)
    (allowed_nodes machine (SetMems mask ∷ state.world.history)) state.resident state.lying)
mems_where (Some memory) lack machine state mask =
    let old = allowed_nodes machine state.world.history in
    let new = allowed_nodes machine (SetMems mask ∷ state.world.history) in
    both_so lack machine state (SetMems mask) (followed lack old new state.resident state.lying)
    (Some (huge_followed state.lying.follows old new memory))

abbrev pub mems_outcome : Lack → Hardware → State → ℕ → Served
mems_outcome lack machine state mask = mems_where state.huge lack machine state mask

-- why pages stand against a command; where memory lacks, it is the command that lacks it
abbrev pub command_reply : PlacedRefusal → Reply
command_reply cause.NoMemory = reply.Refused (Because NoMemory)
command_reply why = reply.PlacedRefused why

abbrev pub unless_pages : Option PlacedRefusal → State → Served → Served
unless_pages (Some why) state served = with_reply (command_reply why) state
unless_pages None state served = served

-- nothing is stated any more of pages that were unmapped, and their room is given back
abbrev pub small_unmap : Lack → Hardware → State → ℕ → ℕ → Served
small_unmap lack machine state start bytes =
    let spots = forgotten start bytes state.lying.spots in
    if has_stated state.lying.spots start bytes
    then unless_pages (lack_of lack spots) state (lying_so lack machine state
    (Unmap start bytes) (with_spots spots state.lying))
    else accepted_outcome lack machine state (Unmap start bytes)

-- where pages of 4 KiB lie once a span was unmapped, and what that can lack
abbrev pub lying_without : ℕ → ℕ → Lying → Lying
lying_without start bytes at = if has_stated at.spots start bytes
    then with_spots (forgotten start bytes at.spots) at else at

abbrev pub lying_lack : Lack → ℕ → ℕ → Lying → Option PlacedRefusal
lying_lack lack start bytes at = if has_stated at.spots start bytes
    then lack_of lack (forgotten start bytes at.spots) else None

-- pages of 2 MiB among them become free, or their reservations are given back
abbrev pub huge_unmap : Lack → Hardware → State → ℕ → ℕ → HugeMemory → Served
huge_unmap lack machine state start bytes memory =
    unless_pages (unmap_lack lack start bytes memory) state
    (unless_pages (lying_lack lack start bytes state.lying) state
    (both_so lack machine state (Unmap start bytes) (lying_without start bytes state.lying)
    (Some (unmapped_in start bytes memory))))

abbrev pub unmap_where : Option HugeMemory → Lack → Hardware → State → ℕ → ℕ → Served
unmap_where None lack machine state start bytes = small_unmap lack machine state start bytes
unmap_where (Some memory) lack machine state start bytes =
    if has_huge_in (Some memory) (page_of start) (page_count bytes)
    then huge_unmap lack machine state start bytes memory
    else small_unmap lack machine state start bytes

abbrev pub unmap_outcome : Lack → Hardware → State → ℕ → ℕ → Served
unmap_outcome lack machine state start bytes =
    unmap_where state.huge lack machine state start bytes

abbrev pub obeyed : Lack → Hardware → State → Command → Served
obeyed lack machine state (SetMems mask) = mems_outcome lack machine state mask
obeyed lack machine state (Unmap start bytes) = unmap_outcome lack machine state start bytes
obeyed lack machine state command = accepted_outcome lack machine state command

-- map, unmap, mbind, home, task, weight, mems: a fault of a list or a policy comes before every
-- refusal
abbrev pub command_outcome : Lack → Hardware → State → Result Command WordError → Served
command_outcome lack machine state (Err fault) = with_reply (reply.BadWord fault) state
command_outcome lack machine state (Ok command) = obeyed lack machine state command

-- an mbind of length 0 whose mode, flag and nodes don't go together is a fault by the documents. A
-- kernel returns before it judges them
abbrev pub bind_nothing : Rules → ℕ → WordError → Result Command WordError
bind_nothing rules start fault = if is_linux rules then Ok (empty_bind start) else Err fault

-- ---- mbind .. strict

-- the command of an mbind, given without the words behind its policy
abbrev pub bound_command : Rules → ℕ → ℕ → Result Specification WordError
    → Result Command WordError
bound_command rules start bytes (Ok spec) = Ok (Mbind start bytes spec)
bound_command rules start bytes (Err fault) =
    if bytes == 0 && waits_for_pages fault then bind_nothing rules start fault else Err fault

-- where pages lie astray: the first cause against the command is answered, where it is judged
-- before pages; else that they do
abbrev pub astray_outcome : Lack → Hardware → State → Command → Served
astray_outcome lack machine state command =
    if is_starved lack then with_reply (command_reply cause.NoMemory) state
    else if is_late machine.rules (refusal_of machine state.bounds state.world.history command)
    then with_reply (command_reply cause.Astray) state
    else accepted_outcome Enough machine state command

-- pages of either size lie astray
abbrev pub any_astray : Option HugeMemory → Process → (ℕ → Spot) → Binding → Bool
any_astray None process spots said = has_astray process spots said
any_astray (Some memory) process spots said =
    has_astray process spots said || huge_astray process memory said

abbrev pub judged_by : Option Binding → Lack → Hardware → State → Command → Served
judged_by None lack machine state command = accepted_outcome lack machine state command
judged_by (Some binding) lack machine state command =
    if any_astray state.huge (process_on machine state) state.lying.spots binding
    then astray_outcome lack machine state command
    else accepted_outcome lack machine state command

abbrev pub strict_outcome : Lack → Hardware → State → Result Command WordError → Served
strict_outcome lack machine state (Err fault) = with_reply (reply.BadWord fault) state
strict_outcome lack machine state (Ok command) =
    judged_by (strict_binding_in command) lack machine state command

-- ---- mbind .. move

abbrev pub toucher_of : MoveWords → Toucher
toucher_of words = record { task = words.task; cpu = words.cpu }

-- the policy was set, and pages went
abbrev pub small_sent : Hardware → State → Rebinding → MoveWords → Served
small_sent machine state said words =
    let asked = asked_of (process_on machine state) said (toucher_of words) in
    let sent = sent_in state.resident asked state.lying in
    record {
      answer = Replied (reply.Sent (suc (length state.world.history)) sent.moved sent.left
          (tells_left words.strict said.spec sent.left));
      state = record (accepted_outcome Enough machine state (command_of said)).state {
        lying = with_sent state.resident asked state.lying;
      };
    }

-- those of 2 MiB too
abbrev pub both_sent : Hardware → State → Rebinding → MoveWords → HugeMemory → Served
both_sent machine state said words after =
    let asked = asked_of (process_on machine state) said (toucher_of words) in
    let sent = sent_in state.resident asked state.lying in
    let left = sent.left + after.told.left in
    record {
      answer = Replied (reply.Sent (suc (length state.world.history))
          (sent.moved + after.told.moved) left (tells_left words.strict said.spec left));
      state = record (accepted_outcome Enough machine state (command_of said)).state {
        lying = with_sent state.resident asked state.lying;
        huge = Some after;
      };
    }

abbrev pub sent_with : Option HugeMemory → Hardware → State → Rebinding → MoveWords → Served
sent_with None machine state said words = small_sent machine state said words
sent_with (Some memory) machine state said words = both_sent machine state said words
    (huge_sent (process_on machine state) said (toucher_of words) memory)

abbrev pub sent_outcome : Hardware → State → Rebinding → MoveWords → Served
sent_outcome machine state said words = sent_with state.huge machine state said words

-- what refuses the policy is answered as without the words; then lack of runs or memory
abbrev pub sent_where : Option Refusal → Lack → Hardware → State → Rebinding → MoveWords → Served
sent_where (Some refusal) lack machine state said words =
    accepted_outcome Enough machine state (command_of said)
sent_where None lack machine state said words =
    unless_pages (lack_of lack (sent_spots (asked_of (process_on machine state) said
    (toucher_of words)) state.lying)) state (sent_outcome machine state said words)

-- memory that lacks for the trial comes before all
abbrev pub sent_unless : Lack → Option Refusal → Hardware → State → Rebinding → MoveWords → Served
sent_unless lack first machine state said words =
    if is_starved lack then with_reply (command_reply cause.NoMemory) state
    else sent_where first lack machine state said words

abbrev pub moved_by : Option Rebinding → Lack → Hardware → State → Command → MoveWords → Served
moved_by None lack machine state command words = accepted_outcome lack machine state command
moved_by (Some said) lack machine state command words = sent_unless lack
    (refusal_of machine state.bounds state.world.history (command_of said)) machine state said
    words

abbrev pub moving_outcome : Lack → Hardware → State → MoveWords → Result Command WordError
    → Served
moving_outcome lack machine state words (Err fault) = with_reply (reply.BadWord fault) state
moving_outcome lack machine state words (Ok command) =
    moved_by (rebinding_in command) lack machine state command words

abbrev pub bound_outcome : Lack → Hardware → State → BoundPages → Result Command WordError
    → Served
bound_outcome lack machine state bound.Strict said = strict_outcome lack machine state said
bound_outcome lack machine state (bound.Move words) said =
    moving_outcome lack machine state words said
