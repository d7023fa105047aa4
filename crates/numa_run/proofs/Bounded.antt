-- The limits stay, whatever a line does once a machine is ready.
use Rattle.std.proofs.Common.{◌≡◌, ℕ, Bool, true, false, Option, Some, None, Result, Ok, Err, refl}
use Rattle.std.proofs.Common.{◌∷◌}
use Rattle.std.specs.Prelude.{◌&&◌, not, if◌then◌else◌}
use Rattle.numa_machine.specs.Machine.{Hardware}
use Rattle.std.specs.Prelude.{is_some, min, nat_le}
use Rattle.numa_mask.specs.NodeSet.{both}
use Rattle.numa_machine.specs.declared.page_size.PageSize.TheVariants.{Huge}
use Rattle.numa_machine.specs.declared.refusal.PlaceRefusal.{PlaceRefusal}
use Rattle.numa_requests.specs.declared.page_refusal.MoveRefusal.{MoveRefusal}
use Rattle.numa_space.specs.History.{page_count, page_of}
use Rattle.numa_space.specs.Lists.{node_list}
use Rattle.numa_space.specs.Policies.{task_record}
use Rattle.numa_space.specs.Standing.{place_refusal_of}
use Rattle.numa_pools.specs.Pools.{refusing}
use Rattle.numa_pools.specs.Resize.{node_refusal}
use Rattle.numa_pools.specs.declared.refusal.PoolRefusal.{PoolRefusal}
use Rattle.numa_huge.specs.Huge.{HugeLying, fits, fresh_spot, lack_for, mapping, with_span}
use Rattle.numa_huge.specs.Moves.{HugeMemory}
use Rattle.numa_page_state.specs.Huge.{both_populated, fault_outcome, has_huge_in}
use Rattle.numa_page_state.specs.Huge.{huge_at_address, huge_fault, huge_followed, huge_move}
use Rattle.numa_page_state.specs.Huge.{huge_page, resizing_nodes, unmap_lack, unmapped_in}
use Rattle.numa_script.specs.declared.huge_line.HugeLine.{HugeLine}
use Rattle.numa_script.specs.declared.huge_line.HugeLine.TheVariants as huge
use Rattle.numa_requests.specs.declared.page_refusal.HugeRefusal.TheVariants as because
use Rattle.numa_run.specs.HugeLines.{begun_on, fault_unless, fitting_outcome, huge_faulted}
use Rattle.numa_run.specs.HugeLines.{huge_outcome, huge_so, lacking_outcome, lacks_huge}
use Rattle.numa_run.specs.HugeLines.{map_outcome, memory_on, most_said, pools_on, refused_for}
use Rattle.numa_run.specs.HugeLines.{resize_outcome, resize_unless, small_fault_outcome}
use Rattle.numa_run.specs.HugeLines.{small_faulted, with_pages, with_pools}
use Rattle.numa_run.specs.Obeying.{any_astray, both_so, huge_unmap, lying_lack, lying_without}
use Rattle.numa_run.specs.Obeying.{mems_where, sent_with, small_unmap, unmap_where, with_huge}
use Rattle.numa_run.specs.PageLines.{both_populate, huge_move_outcome, huge_moved, migrate_where}
use Rattle.numa_run.specs.PageLines.{migrated_by, move_where, populate_where, populated_by}
use Rattle.numa_run.specs.PageLines.{shift_told, small_moved, unless_huge}
use Rattle.numa_mask.specs.declared.list.ListFault.{ListFault}
use Rattle.numa_placed.specs.Spots.{is_placed}
use Rattle.numa_space.specs.Policies.{allowed_nodes}
use Rattle.numa_space.specs.Refusals.{refusal_of}
use Rattle.numa_requests.specs.declared.command.Command.{Command}
use Rattle.numa_requests.specs.declared.command.Command.TheVariants.{Map, Unmap, Mbind, SetTask}
use Rattle.numa_requests.specs.declared.command.Command.TheVariants.{Inherit, SetHome, SetWeight}
use Rattle.numa_requests.specs.declared.command.Command.TheVariants.{SetMems}
use Rattle.numa_requests.specs.declared.page_refusal.PlacedRefusal.{PlacedRefusal}
use Rattle.numa_requests.specs.declared.page_refusal.PlacedRefusal.TheVariants as cause
use Rattle.numa_requests.specs.declared.refusal.Refusal.{Refusal}
use Rattle.numa_page_state.specs.Lying.{Lying, ground_of, with_spots}
use Rattle.numa_page_state.specs.Outcomes.{Enough, Lack, followed, forgotten, has_stated}
use Rattle.numa_page_state.specs.Outcomes.{is_starved, lack_of}
use Rattle.numa_page_state.specs.Pooling.{mapped_first, mapped_pages}
use Rattle.numa_page_state.specs.Sending.{asked_of, command_of, rebinding_in, sent_spots}
use Rattle.numa_page_state.specs.Strict.{is_late, strict_binding_in}
use Rattle.numa_page_state.specs.declared.binding.Binding.{Binding}
use Rattle.numa_page_state.specs.declared.sending.Rebinding.{Rebinding}
use Rattle.numa_script.specs.declared.page_line.BoundPages.{BoundPages}
use Rattle.numa_script.specs.declared.page_line.BoundPages.TheVariants as bound
use Rattle.numa_script.specs.declared.page_line.MoveWords.{MoveWords}
use Rattle.numa_script.specs.declared.page_line.PageLine.{PageLine}
use Rattle.numa_script.specs.declared.page_line.PageLine.TheVariants as page
use Rattle.numa_script.specs.declared.policy.WordError.{WordError}
use Rattle.numa_script.specs.declared.reply.Reply.{Reply}
use Rattle.numa_script.specs.declared.reply.Reply.TheVariants as reply
use Rattle.numa_script.specs.declared.work.Work.{Work}
use Rattle.numa_script.specs.declared.work.Work.TheVariants as work
use Rattle.numa_run.specs.Answers.{State}
use Rattle.numa_run.specs.Obeying.{accepted_outcome, astray_outcome, bound_outcome}
use Rattle.numa_run.specs.Obeying.{command_outcome, command_reply, is_accepted, judged_by, lying_so}
use Rattle.numa_run.specs.Obeying.{moved_by, obeyed, sent_outcome, sent_unless, sent_where}
use Rattle.numa_run.specs.Obeying.{toucher_of, unless_pages, with_lying}
use Rattle.numa_run.specs.PageLines.{answered_by, change_of, changed, lack_reply, page_outcome}
use Rattle.numa_run.specs.PageLines.{pages_outcome, with_change, work_served, worked}
use Rattle.numa_run.specs.Replies.{Served, with_reply}
use Rattle.numa_run.specs.States.{process_on}

abbrev pub Keeps : State → Served → Type 0
Keeps state done = done.state.bounds ≡ state.bounds

either-keeps : (b : Bool) (state : State) (one other : Served) → Keeps state one
    → Keeps state other → Keeps state (if b then one else other)
either-keeps true state one other kept same = kept
either-keeps false state one other kept same = same

unless-keeps : (why : Option PlacedRefusal) (state : State) (done : Served) → Keeps state done
    → Keeps state (unless_pages why state done)
unless-keeps None state done kept = kept
unless-keeps (Some refusal) state done kept = refl

answered-keeps : (state : State) (told : Option Reply) (lying : Lying)
    → Keeps state (answered_by told (record state { lying = lying }))
answered-keeps state (Some answer) lying = refl
answered-keeps state None lying = refl

-- a line about pages, whatever pages of 2 MiB there are
changed-keeps : (lack : Lack) (machine : Hardware) (state : State) (said : PageLine)
    → Keeps state (changed lack machine state said)
changed-keeps lack machine state said =
    let done = change_of lack (ground_of (process_on machine state)) said
    (record state.lying { begun = true }) in
    either-keeps (not state.lying.begun && is_starved lack) state
    (with_reply (lack_reply said) state) (with_change state done) refl
    (answered-keeps state done.0 done.1)

module _ (lack : Lack) (machine : Hardware) (state : State) where
  lying-keeps : (command : Command) (lying : Lying)
      → Keeps state (lying_so lack machine state command lying)
  lying-keeps command lying = either-keeps (is_accepted lack machine state command) state
      (with_lying lying (accepted_outcome lack machine state command))
      (accepted_outcome lack machine state command) refl refl

  both-keeps : (command : Command) (lying : Lying) (memory : Option HugeMemory)
      → Keeps state (both_so lack machine state command lying memory)
  both-keeps command lying memory = either-keeps (is_accepted lack machine state command) state
      (with_huge memory (with_lying lying (accepted_outcome lack machine state command)))
      (accepted_outcome lack machine state command) refl refl

  small-unmap-keeps : (start bytes : ℕ) → Keeps state (small_unmap lack machine state start bytes)
  small-unmap-keeps start bytes =
      let spots = forgotten start bytes state.lying.spots in
      let done = lying_so lack machine state (Unmap start bytes)
      (with_spots spots state.lying) in
      either-keeps (has_stated state.lying.spots start bytes) state
      (unless_pages (lack_of lack spots) state done)
      (accepted_outcome lack machine state (Unmap start bytes))
      (unless-keeps (lack_of lack spots) state done
      (lying-keeps (Unmap start bytes) (with_spots spots state.lying))) refl

  huge-unmap-keeps : (start bytes : ℕ) (memory : HugeMemory)
      → Keeps state (huge_unmap lack machine state start bytes memory)
  huge-unmap-keeps start bytes memory =
      let done = both_so lack machine state (Unmap start bytes)
      (lying_without start bytes state.lying) (Some (unmapped_in start bytes memory)) in
      unless-keeps (unmap_lack lack start bytes memory) state
      (unless_pages (lying_lack lack start bytes state.lying) state done)
      (unless-keeps (lying_lack lack start bytes state.lying) state done
      (both-keeps (Unmap start bytes) (lying_without start bytes state.lying)
      (Some (unmapped_in start bytes memory))))

  unmap-keeps : (memory : Option HugeMemory) (start bytes : ℕ)
      → Keeps state (unmap_where memory lack machine state start bytes)
  unmap-keeps None start bytes = small-unmap-keeps start bytes
  unmap-keeps (Some memory) start bytes = either-keeps
      (has_huge_in (Some memory) (page_of start) (page_count bytes)) state
      (huge_unmap lack machine state start bytes memory)
      (small_unmap lack machine state start bytes) (huge-unmap-keeps start bytes memory)
      (small-unmap-keeps start bytes)

  mems-keeps : (memory : Option HugeMemory) (mask : ℕ)
      → Keeps state (mems_where memory lack machine state mask)
  mems-keeps None mask = lying-keeps (SetMems mask) (followed lack
      (allowed_nodes machine state.world.history)
      (allowed_nodes machine (SetMems mask ∷ state.world.history)) state.resident state.lying)
  mems-keeps (Some memory) mask =
      let old = allowed_nodes machine state.world.history in
      let new = allowed_nodes machine (SetMems mask ∷ state.world.history) in
      both-keeps (SetMems mask) (followed lack old new state.resident state.lying)
      (Some (huge_followed state.lying.follows old new memory))

  obeyed-keeps : (said : Command) → Keeps state (obeyed lack machine state said)
  obeyed-keeps (SetMems mask) = mems-keeps state.huge mask
  obeyed-keeps (Unmap start bytes) = unmap-keeps state.huge start bytes
  obeyed-keeps (Map start bytes offset size) = refl
  obeyed-keeps (Mbind start bytes spec) = refl
  obeyed-keeps (SetTask task spec) = refl
  obeyed-keeps (Inherit task from) = refl
  obeyed-keeps (SetHome start bytes node) = refl
  obeyed-keeps (SetWeight node weight) = refl

  pub command-keeps : (said : Result Command WordError)
      → Keeps state (command_outcome lack machine state said)
  command-keeps (Ok said) = obeyed-keeps said
  command-keeps (Err fault) = refl

  unless-huge-keeps : (first pages : ℕ) (done : Served) → Keeps state done
      → Keeps state (unless_huge first pages state done)
  unless-huge-keeps first pages done kept = either-keeps (has_huge_in state.huge first pages) state
      (with_reply (reply.HugeRefused because.NotSupported) state) done refl kept

  pub work-keeps : (said : Work) → Keeps state (work_served lack machine state said)
  work-keeps (work.Event event) = refl
  work-keeps (work.Release w page) = refl
  work-keeps (work.Touch w request) =
      let there = is_placed (state.lying.spots request.page) in
      let touched = worked lack machine state (work.Touch w request) in
      unless-huge-keeps request.page 1
      (if there then with_reply reply.Placed state else touched)
      (either-keeps there state (with_reply reply.Placed state) touched refl refl)

  populated-keeps : (done : Result (Unit {0}) PlacedRefusal × (Lying × HugeMemory))
      → Keeps state (populated_by done state)
  populated-keeps (Err why, after) = refl
  populated-keeps (Ok told, after) = refl

  populate-keeps : (memory : Option HugeMemory) (start bytes task cpu : ℕ)
      → Keeps state (populate_where memory lack machine state start bytes task cpu)
  populate-keeps None start bytes task cpu =
      changed-keeps lack machine state (page.Populate start bytes task cpu)
  populate-keeps (Some memory) start bytes task cpu =
      let done = both_populated lack (ground_of (process_on machine state)) start bytes task cpu
      memory (record state.lying { begun = true }) in
      let said : PageLine = page.Populate start bytes task cpu in
      let rested : State = record state { huge = Some (record memory { arrived = None }) } in
      either-keeps (has_huge_in (Some memory) (page_of start) (page_count bytes)) state
      (both_populate lack machine state start bytes task cpu memory)
      (changed lack machine rested said)
      (either-keeps (not state.lying.begun && is_starved lack) state
      (with_reply (lack_reply said) state) (populated_by done state) refl (populated-keeps done))
      (changed-keeps lack machine rested said)

  migrated-keeps : (shift : Option (ℕ × ℕ)) (from to : ℕ) (memory : HugeMemory) (done : Served)
      → Keeps state done → Keeps state (migrated_by shift from to memory done)
  migrated-keeps None from to memory done kept = kept
  migrated-keeps (Some shift) from to memory done kept = kept

  migrate-keeps : (memory : Option HugeMemory) (from to : ℕ) (done : Served) → Keeps state done
      → Keeps state (migrate_where memory from to done)
  migrate-keeps None from to done kept = kept
  migrate-keeps (Some memory) from to done kept =
      migrated-keeps (shift_told done.answer) from to memory done kept

  huge-moved-keeps : (node : ℕ) (done : Result (Unit {0}) MoveRefusal × HugeMemory)
      → Keeps state (huge_moved node done (record state {
        lying = record state.lying { begun = true };
      }))
  huge-moved-keeps node (Err why, memory) = refl
  huge-moved-keeps node (Ok told, memory) = refl

  move-keeps : (memory : Option HugeMemory) (address node : ℕ)
      → Keeps state (move_where memory lack machine state address node)
  move-keeps None address node = changed-keeps lack machine state (page.Move address node)
  move-keeps (Some memory) address node =
      let done = huge_move lack (ground_of (process_on machine state)) (huge_page address) node
      memory in
      let begun : State = record state { lying = record state.lying { begun = true } } in
      let said : PageLine = page.Move address node in
      either-keeps (is_some (memory.pages.spots (huge_page address))) state
      (huge_move_outcome lack machine state memory address node)
      (small_moved memory (changed lack machine state said))
      (either-keeps (not state.lying.begun && is_starved lack) state
      (with_reply (lack_reply said) state) (huge_moved node done begun) refl
      (huge-moved-keeps node done)) (changed-keeps lack machine state said)

  page-keeps : (said : PageLine) → Keeps state (page_outcome lack machine state said)
  page-keeps page.Moved = refl
  page-keeps page.Rooms = refl
  page-keeps (page.Populate start bytes task cpu) =
      populate-keeps state.huge start bytes task cpu
  page-keeps (page.At start bytes node) = unless-huge-keeps (page_of start) (page_count bytes)
      (changed lack machine state (page.At start bytes node))
      (changed-keeps lack machine state (page.At start bytes node))
  page-keeps (page.Room node pages) = changed-keeps lack machine state (page.Room node pages)
  page-keeps (page.MemoryMigrate follows) =
      changed-keeps lack machine state (page.MemoryMigrate follows)
  page-keeps (page.Migrate from to) = migrate-keeps state.huge from
      (both to (allowed_nodes machine state.world.history))
      (changed lack machine state (page.Migrate from to))
      (changed-keeps lack machine state (page.Migrate from to))
  page-keeps (page.Move address node) = move-keeps state.huge address node

  pub pages-keep : (said : Result PageLine ListFault)
      → Keeps state (pages_outcome lack machine state said)
  pages-keep (Ok said) = page-keeps said
  pages-keep (Err wrong) = refl

-- an mbind that judges or moves pages
astray-keeps : (lack : Lack) (machine : Hardware) (state : State) (command : Command)
    → Keeps state (astray_outcome lack machine state command)
astray-keeps lack machine state command =
    let late = is_late machine.rules
    (refusal_of machine state.bounds state.world.history command) in
    let astray : Served = with_reply (command_reply cause.Astray) state in
    let plain : Served = accepted_outcome Enough machine state command in
    either-keeps (is_starved lack) state (with_reply (command_reply cause.NoMemory) state)
    (if late then astray else plain) refl (either-keeps late state astray plain refl refl)

judged-keeps : (binding : Option Binding) (lack : Lack) (machine : Hardware) (state : State)
    (command : Command) → Keeps state (judged_by binding lack machine state command)
judged-keeps None lack machine state command = refl
judged-keeps (Some binding) lack machine state command = either-keeps
    (any_astray state.huge (process_on machine state) state.lying.spots binding) state
    (astray_outcome lack machine state command) (accepted_outcome lack machine state command)
    (astray-keeps lack machine state command) refl

sent-with-keeps : (memory : Option HugeMemory) (machine : Hardware) (state : State)
    (said : Rebinding) (words : MoveWords) → Keeps state (sent_with memory machine state said words)
sent-with-keeps None machine state said words = refl
sent-with-keeps (Some memory) machine state said words = refl

sent-keeps : (lack : Lack) (first : Option Refusal) (machine : Hardware) (state : State)
    (said : Rebinding) (words : MoveWords)
    → Keeps state (sent_unless lack first machine state said words)
sent-keeps lack first machine state said words =
    either-keeps (is_starved lack) state (with_reply (command_reply cause.NoMemory) state)
    (sent_where first lack machine state said words) refl (where-keeps first) where
      where-keeps : (o : Option Refusal) → Keeps state (sent_where o lack machine state said words)
      where-keeps (Some refusal) = refl
      where-keeps None = unless-keeps (lack_of lack
          (sent_spots (asked_of (process_on machine state) said (toucher_of words)) state.lying))
          state (sent_outcome machine state said words)
          (sent-with-keeps state.huge machine state said words)

moved-keeps : (said : Option Rebinding) (lack : Lack) (machine : Hardware) (state : State)
    (command : Command) (words : MoveWords)
    → Keeps state (moved_by said lack machine state command words)
moved-keeps None lack machine state command words = refl
moved-keeps (Some said) lack machine state command words = sent-keeps lack
    (refusal_of machine state.bounds state.world.history (command_of said)) machine state said
    words

pub bound-keeps : (pages : BoundPages) (lack : Lack) (machine : Hardware) (state : State)
    (said : Result Command WordError)
    → Keeps state (bound_outcome lack machine state pages said)
bound-keeps bound.Strict lack machine state (Err fault) = refl
bound-keeps bound.Strict lack machine state (Ok command) =
    judged-keeps (strict_binding_in command) lack machine state command
bound-keeps (bound.Move words) lack machine state (Err fault) = refl
bound-keeps (bound.Move words) lack machine state (Ok command) =
    moved-keeps (rebinding_in command) lack machine state command words

-- ---- lines about pages of 2 MiB

resize-keeps : (why : Option PoolRefusal) (machine : Hardware) (node pages : ℕ) (state : State)
    → Keeps state (resize_unless why machine node pages state)
resize-keeps None machine node pages state = refl
resize-keeps (Some why) machine node pages state = refl

so-keeps : (lack : Lack) (machine : Hardware) (state : State) (command : Command)
    (pages : HugeLying)
    → Keeps state (huge_so lack machine state command pages)
so-keeps lack machine state command pages =
    let done = accepted_outcome lack machine state command in
    either-keeps (is_accepted lack machine state command) state
    (record done { state = with_pages pages machine done.state }) done refl refl

lacking-keeps : (lack : Lack) (machine : Hardware) (pages : ℕ) (state : State) (command : Command)
    → Keeps state (lacking_outcome lack machine pages state command)
lacking-keeps lack machine pages state command =
    let late = is_late machine.rules
    (refusal_of machine state.bounds state.world.history command) in
    let none : Served = refused_for because.NoHugePages
    (with_pools (refusing (pools_on machine state) pages) machine state) in
    let plain : Served = accepted_outcome Enough machine state command in
    either-keeps (is_starved lack) state (with_reply (command_reply cause.NoMemory) state)
    (if late then none else plain) refl (either-keeps late state none plain refl refl)

fitting-keeps : (lack : Lack) (machine : Hardware) (first pages : ℕ) (reserves : Bool)
    (state : State) (command : Command)
    → Keeps state (fitting_outcome lack machine first pages reserves state command)
fitting-keeps lack machine first pages reserves state command =
    let spots = (memory_on machine state).pages.spots in
    let why = lack_for (is_starved lack)
    (with_span first pages (Some (fresh_spot reserves)) spots) in
    let after = mapping first pages reserves (memory_on machine state).pages in
    either-keeps (fits spots first pages) state
    (unless_pages why state (huge_so lack machine state command after))
    (accepted_outcome lack machine state command)
    (unless-keeps why state (huge_so lack machine state command after)
    (so-keeps lack machine state command after)) refl

map-keeps : (lack : Lack) (machine : Hardware) (start bytes offset task : ℕ) (reserves : Bool)
    (state : State) → Keeps state (map_outcome lack machine start bytes offset task reserves state)
map-keeps lack machine start bytes offset task reserves state =
    let command : Command = Map start bytes offset Huge in
    either-keeps (lacks_huge machine bytes task reserves state) state
    (lacking_outcome lack machine (mapped_pages bytes) state command)
    (fitting_outcome lack machine (mapped_first start) (mapped_pages bytes) reserves state command)
    (lacking-keeps lack machine (mapped_pages bytes) state command)
    (fitting-keeps lack machine (mapped_first start) (mapped_pages bytes) reserves state command)

fault-keeps : (why : Option PlaceRefusal) (lack : Lack) (machine : Hardware)
    (task address cpu : ℕ) (state : State)
    → Keeps state (fault_unless why lack machine task address cpu state)
fault-keeps (Some why) lack machine task address cpu state = refl
fault-keeps None lack machine task address cpu state =
    let done = huge_fault lack (huge_page address)
    (node_list machine state.world.history task (page_of address) cpu)
    (memory_on machine state).pages in
    let small = fault_outcome lack (ground_of (process_on machine state)) task address cpu
    (record state.lying { begun = true }) in
    either-keeps (is_some (huge_at_address state.huge address)) state
    (huge_faulted done machine state) (small_fault_outcome lack machine task address cpu state) refl
    (either-keeps (not state.lying.begun && is_starved lack) state
    (refused_for because.NoMemory state) (small_faulted small state) refl refl)

pub huge-keeps : (said : HugeLine) (lack : Lack) (machine : Hardware) (state : State)
    → Keeps state (huge_outcome lack machine state said)
huge-keeps huge.Pools lack machine state = refl
huge-keeps (huge.Resize pages) lack machine state = refl
huge-keeps (huge.ResizeNode node pages) lack machine state = resize-keeps
    (node_refusal machine.nodes (pools_on machine state) node (min pages most_said)) machine node
    (min pages most_said) (begun_on machine state)
huge-keeps (huge.ResizeFor pages task cpu) lack machine state = either-keeps
    (nat_le machine.nodes cpu) state (refused_for because.BadCpu (begun_on machine state))
    (resize_outcome machine (resizing_nodes (task_record machine state.world.history task)
    machine.memory cpu) pages (begun_on machine state)) refl refl
huge-keeps (huge.Map start bytes offset task reserves) lack machine state =
    map-keeps lack machine start bytes offset task reserves (begun_on machine state)
huge-keeps (huge.Fault task address cpu) lack machine state = fault-keeps
    (place_refusal_of machine state.world.history (page_of address) cpu) lack machine task address
    cpu state
