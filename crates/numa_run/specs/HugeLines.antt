-- What lines about pages of 2 MiB, and about first touches, are answered, and the state after them.
-- `lack` says what a line lacked while it was served.
use Rattle.std.specs.Prelude.{ℕ, ◌&&◌, Bool, true, false, not, Option, Some, None, Result}
use Rattle.std.specs.Prelude.{Ok, Err, is_some, min, nat_le, if◌then◌else◌}
use Rattle.numa_machine.specs.Machine.{Hardware}
use Rattle.numa_machine.specs.declared.page_size.PageSize.TheVariants.{Huge}
use Rattle.numa_machine.specs.declared.refusal.PlaceRefusal.{PlaceRefusal}
use Rattle.numa_requests.specs.declared.command.Command.{Command}
use Rattle.numa_requests.specs.declared.command.Command.TheVariants.{Map}
use Rattle.numa_requests.specs.declared.page_refusal.PlacedRefusal.{PlacedRefusal}
use Rattle.numa_requests.specs.declared.page_refusal.PlacedRefusal.TheVariants as cause
use Rattle.numa_space.specs.History.{page_of}
use Rattle.numa_space.specs.Lists.{node_list}
use Rattle.numa_space.specs.Policies.{allowed_nodes, task_record}
use Rattle.numa_space.specs.Refusals.{refusal_of}
use Rattle.numa_space.specs.Standing.{place_refusal_of}
use Rattle.numa_pools.specs.Pools.{PoolCounts, refusing}
use Rattle.numa_pools.specs.Resize.{node_refusal, resized, resized_node}
use Rattle.numa_pools.specs.declared.refusal.PoolRefusal.{PoolRefusal}
use Rattle.numa_huge.specs.Huge.{HugeLying, fits, fresh_spot, lack_for, mapping, with_span}
use Rattle.numa_huge.specs.Moves.{HugeMemory, memory_or}
use Rattle.numa_page_state.specs.Huge.{fault_outcome, huge_at_address, huge_fault, huge_page}
use Rattle.numa_page_state.specs.Huge.{resizing_nodes}
use Rattle.numa_page_state.specs.Lying.{Lying, ground_of}
use Rattle.numa_page_state.specs.Outcomes.{Enough, Lack, is_starved}
use Rattle.numa_page_state.specs.Pooling.{fault_cause, lacks_huge_in, mapped_first, mapped_pages}
use Rattle.numa_page_state.specs.Pooling.{place_cause, pool_refusal}
use Rattle.numa_page_state.specs.Strict.{is_late}
use Rattle.numa_script.specs.declared.huge_line.HugeLine.{HugeLine}
use Rattle.numa_script.specs.declared.huge_line.HugeLine.TheVariants as huge
use Rattle.numa_requests.specs.declared.page_refusal.HugeRefusal.{HugeRefusal}
use Rattle.numa_requests.specs.declared.page_refusal.HugeRefusal.TheVariants as because
use Rattle.numa_script.specs.declared.reply.Reply.{Reply}
use Rattle.numa_script.specs.declared.reply.Reply.TheVariants as reply
use Rattle.numa_run.specs.Answering.{Answer, Replied, Served, Shown, with_reply, with_text}
use Rattle.numa_run.specs.Obeying.{accepted_outcome, command_reply, is_accepted, unless_pages}
use Rattle.numa_run.specs.PoolTexts.{pools_line}
use Rattle.numa_run.specs.States.{State, process_on}

-- ---- the pages of 2 MiB of a state

abbrev pub memory_on : Hardware → State → HugeMemory
memory_on machine state = memory_or machine.memory state.huge

abbrev pub with_memory : HugeMemory → State → State
with_memory memory state = record state { huge = Some memory }

abbrev pub with_pages : HugeLying → Hardware → State → State
with_pages pages machine state =
    with_memory (record (memory_on machine state) { pages = pages }) state

abbrev pub pools_on : Hardware → State → PoolCounts
pools_on machine state = (memory_on machine state).pages.pools

abbrev pub with_pools : PoolCounts → Hardware → State → State
with_pools pools machine state = with_pages
    (record (memory_on machine state).pages { pools = pools }) machine state

abbrev pub refused_for : HugeRefusal → State → Served
refused_for why state = with_reply (reply.HugeRefused why) state

-- they are kept from now on
abbrev pub begun_on : Hardware → State → State
begun_on machine state = with_memory (memory_on machine state) state

-- ---- pool, pool COUNT, pool NODE COUNT, pool COUNT TASK CPU

-- what the pools have
abbrev pub pools_shown : Hardware → State → Served
pools_shown machine state = with_text (pools_line (pools_on machine state)) state

-- by a state, once a machine is ready
abbrev pub pools_answer_on : Option Hardware → State → Answer
pools_answer_on None state = Replied reply.BadState
pools_answer_on (Some machine) state = Shown (pools_line (pools_on machine state))

abbrev pub pools_answer : State → Answer
pools_answer state = pools_answer_on state.machine state

-- fresh pages come on allowed nodes alone
abbrev pub resize_outcome : Hardware → ℕ → ℕ → State → Served
resize_outcome machine nodes pages state = pools_shown machine (with_pools
    (resized nodes (allowed_nodes machine state.world.history) pages (pools_on machine state))
    machine state)

abbrev pub resize_unless : Option PoolRefusal → Hardware → ℕ → ℕ → State → Served
resize_unless (Some why) machine node pages state = refused_for (pool_refusal why) state
resize_unless None machine node pages state = pools_shown machine (with_pools
    (resized_node node (allowed_nodes machine state.world.history) pages (pools_on machine state))
    machine state)

-- the nodes of a task's policy
abbrev pub resize_for_outcome : Hardware → ℕ → ℕ → ℕ → State → Served
resize_for_outcome machine pages task cpu state =
    if nat_le machine.nodes cpu then refused_for because.BadCpu state
    else resize_outcome machine (resizing_nodes (task_record machine state.world.history task)
    machine.memory cpu) pages state

-- ---- map START LENGTH OFFSET huge TASK [noreserve]

-- a mapping that reserves its pages finds too few
abbrev pub lacks_huge : Hardware → ℕ → ℕ → Bool → State → Bool
lacks_huge machine bytes task reserves state = lacks_huge_in machine state.world.history
    (pools_on machine state) bytes task reserves

-- then the first cause against the command is answered, where it stands before the limits and
-- lack of memory; else that it finds too few, and nothing is mapped
abbrev pub lacking_outcome : Lack → Hardware → ℕ → State → Command → Served
lacking_outcome lack machine pages state command =
    if is_starved lack then with_reply (command_reply cause.NoMemory) state
    else if is_late machine.rules (refusal_of machine state.bounds state.world.history command)
    then refused_for because.NoHugePages
    (with_pools (refusing (pools_on machine state) pages) machine state)
    else accepted_outcome Enough machine state command

-- where the core accepted a command, pages of 2 MiB are so after it
abbrev pub huge_so : Lack → Hardware → State → Command → HugeLying → Served
huge_so lack machine state command pages = if is_accepted lack machine state command
    then record (accepted_outcome lack machine state command) {
      state = with_pages pages machine (accepted_outcome lack machine state command).state;
    }
    else accepted_outcome lack machine state command

-- a span that can't be mapped is refused by the core
abbrev pub fitting_outcome : Lack → Hardware → ℕ → ℕ → Bool → State → Command → Served
fitting_outcome lack machine first pages reserves state command =
    if fits (memory_on machine state).pages.spots first pages
    then unless_pages (lack_for (is_starved lack) (with_span first pages
    (Some (fresh_spot reserves)) (memory_on machine state).pages.spots)) state
    (huge_so lack machine state command
    (mapping first pages reserves (memory_on machine state).pages))
    else accepted_outcome lack machine state command

abbrev pub map_outcome : Lack → Hardware → ℕ → ℕ → ℕ → ℕ → Bool → State → Served
map_outcome lack machine start bytes offset task reserves state =
    if lacks_huge machine bytes task reserves state
    then lacking_outcome lack machine (mapped_pages bytes) state (Map start bytes offset Huge)
    else fitting_outcome lack machine (mapped_first start) (mapped_pages bytes) reserves state
    (Map start bytes offset Huge)

-- ---- fault TASK ADDR CPU

-- the node where the page lies then, or what there is where none gives it
abbrev pub fault_reply : HugeRefusal → Result (Option ℕ) PlacedRefusal → Reply
fault_reply none (Ok (Some node)) = reply.MovedTo node
fault_reply none (Ok None) = reply.HugeRefused none
fault_reply none (Err why) = reply.HugeRefused (fault_cause why)

-- of a page of 4 KiB; the first change wants memory
abbrev pub small_faulted : Result (Option ℕ) PlacedRefusal × Lying → State → Served
small_faulted done state =
    with_reply (fault_reply because.Exhausted done.0) (record state { lying = done.1 })

abbrev pub small_fault_outcome : Lack → Hardware → ℕ → ℕ → ℕ → State → Served
small_fault_outcome lack machine task address cpu state =
    if not state.lying.begun && is_starved lack then refused_for because.NoMemory state
    else small_faulted (fault_outcome lack (ground_of (process_on machine state)) task address cpu
    (record state.lying { begun = true })) state

-- of a page of 2 MiB
abbrev pub huge_faulted : Result (Option ℕ) PlacedRefusal × HugeLying → Hardware → State → Served
huge_faulted done machine state =
    with_reply (fault_reply because.Killed done.0) (with_pages done.1 machine state)

abbrev pub fault_unless : Option PlaceRefusal → Lack → Hardware → ℕ → ℕ → ℕ → State → Served
fault_unless (Some why) lack machine task address cpu state = refused_for (place_cause why) state
fault_unless None lack machine task address cpu state =
    if is_some (huge_at_address state.huge address)
    then huge_faulted (huge_fault lack (huge_page address)
    (node_list machine state.world.history task (page_of address) cpu)
    (memory_on machine state).pages) machine state
    else small_fault_outcome lack machine task address cpu state

-- ---- all of them

-- no line says more pages
abbrev pub most_said : ℕ
most_said = 9223372036854775807

-- all lines but `pool` alone and `fault` begin to keep pages of 2 MiB
abbrev pub begins : HugeLine → Bool
begins huge.Pools = false
begins (huge.Fault task address cpu) = false
begins _ = true

-- where those are kept that the line begins to keep
abbrev pub begun_outcome : Lack → Hardware → State → HugeLine → Served
begun_outcome lack machine state huge.Pools = pools_shown machine state
begun_outcome lack machine state (huge.Resize pages) =
    resize_outcome machine machine.memory pages state
begun_outcome lack machine state (huge.ResizeNode node pages) = resize_unless
    (node_refusal machine.nodes (pools_on machine state) node (min pages most_said)) machine node
    (min pages most_said) state
begun_outcome lack machine state (huge.ResizeFor pages task cpu) =
    resize_for_outcome machine pages task cpu state
begun_outcome lack machine state (huge.Map start bytes offset task reserves) =
    map_outcome lack machine start bytes offset task reserves state
begun_outcome lack machine state (huge.Fault task address cpu) =
    fault_unless (place_refusal_of machine state.world.history (page_of address) cpu) lack machine
    task address cpu state

abbrev pub huge_outcome : Lack → Hardware → State → HugeLine → Served
huge_outcome lack machine state said =
    begun_outcome lack machine (if begins said then begun_on machine state else state) said
