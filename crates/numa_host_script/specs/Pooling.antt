-- What lines about pools and pages of 2 MiB are answered in a host, and what there is after them:
-- the pools are the host's, and a process's pages come from them as in a script of its own that has
-- accepted its commands. `lacked` says what a line lacked while it was served.
use Rattle.std.specs.Prelude.{ℕ, ◌&&◌, Bool, true, false, not, Option, Some, None, Result}
use Rattle.std.specs.Prelude.{is_some, length, min, nat_le, if◌then◌else◌}
use Rattle.numa_machine.specs.declared.page_size.PageSize.TheVariants.{Huge}
use Rattle.numa_machine.specs.declared.refusal.PlaceRefusal.{PlaceRefusal}
use Rattle.numa_host.specs.Processes.{commands_of, is_there, members_of}
use Rattle.numa_space.specs.History.{page_of}
use Rattle.numa_space.specs.Lists.{node_list}
use Rattle.numa_space.specs.Policies.{allowed_nodes, task_record}
use Rattle.numa_space.specs.Standing.{place_refusal_of}
use Rattle.numa_pools.specs.Pools.{PoolCounts, refusing}
use Rattle.numa_pools.specs.Resize.{node_refusal, resized, resized_node}
use Rattle.numa_pools.specs.declared.refusal.PoolRefusal.{PoolRefusal}
use Rattle.numa_huge.specs.Huge.{HugeLying, fits, fresh_spot, lack_for, mapping, with_span}
use Rattle.numa_huge.specs.Moves.{HugeMemory}
use Rattle.numa_host_huge.specs.Sharing.{begun_in}
use Rattle.numa_host_pages.specs.Homes.{HostLying, given_back, pages_in, pages_lent}
use Rattle.numa_host_pages.specs.Homes.{with_huge, with_pools}
use Rattle.numa_page_state.specs.Huge.{fault_outcome, huge_fault, huge_page, resizing_nodes}
use Rattle.numa_page_state.specs.Lying.{Ground, Lying, ground_of}
use Rattle.numa_page_state.specs.Outcomes.{Enough, Lack, is_starved}
use Rattle.numa_page_state.specs.Pooling.{lacks_huge_in, mapped_first, mapped_pages, place_cause}
use Rattle.numa_page_state.specs.Pooling.{pool_refusal}
use Rattle.numa_page_state.specs.Strict.{is_late}
use Rattle.numa_requests.specs.declared.command.Command.{Command}
use Rattle.numa_requests.specs.declared.command.Command.TheVariants.{Map}
use Rattle.numa_requests.specs.declared.host_command.HostCommand.TheVariants.{In}
use Rattle.numa_requests.specs.declared.host_refusal.HostRefusal.TheVariants.{NoSuchProcess}
use Rattle.numa_requests.specs.declared.page_refusal.PlacedRefusal.{PlacedRefusal}
use Rattle.numa_requests.specs.declared.page_refusal.PlacedRefusal.TheVariants as cause
use Rattle.numa_script.specs.declared.huge_line.HugeLine.{HugeLine}
use Rattle.numa_script.specs.declared.huge_line.HugeLine.TheVariants as huge
use Rattle.numa_requests.specs.declared.page_refusal.HugeRefusal.{HugeRefusal}
use Rattle.numa_requests.specs.declared.page_refusal.HugeRefusal.TheVariants as because
use Rattle.numa_script.specs.declared.reply.Reply.{Reply}
use Rattle.numa_script.specs.declared.reply.Reply.TheVariants as reply
use Rattle.numa_run.specs.HugeLines.{fault_reply, most_said}
use Rattle.numa_run.specs.PoolTexts.{pools_line}
use Rattle.numa_run.specs.Replies.{Replied, Shown}
use Rattle.numa_host_script.specs.Hosts.{Hosting, Outcome, cause_by, command_unless}
use Rattle.numa_host_script.specs.Hosts.{process_outcome, with_lying, with_reply}
use Rattle.numa_host_script.specs.Paging.{memory_at, own_cause, pages_reply, process_in}
use Rattle.numa_host_script.specs.Paging.{takes_more, told_by, unless_pages}

abbrev pub pools_at : Hosting → PoolCounts
pools_at at = at.lying.huge.pools

-- the nodes that a process is allowed
abbrev pub allowed_at : Hosting → ℕ → ℕ
allowed_at at process =
    allowed_nodes at.machine (commands_of at.machine at.history process)

abbrev pub refused_for : HugeRefusal → Hosting → Outcome
refused_for why at = with_reply (reply.HugeRefused why) at

-- ---- pool, pool COUNT, pool NODE COUNT, in P pool COUNT TASK CPU

-- the pools are so now, which is told
abbrev pub pools_shown : PoolCounts → Hosting → Outcome
pools_shown pools at = with_lying (Shown (pools_line pools)) (with_pools pools at.lying) at

-- fresh pages come on allowed nodes alone
abbrev pub resize_outcome : ℕ → ℕ → ℕ → Hosting → Outcome
resize_outcome nodes allowed pages at = pools_shown (resized nodes allowed pages (pools_at at)) at

abbrev pub resize_unless : Option PoolRefusal → ℕ → ℕ → ℕ → Hosting → Outcome
resize_unless (Some why) node allowed pages at = refused_for (pool_refusal why) at
resize_unless None node allowed pages at =
    pools_shown (resized_node node allowed pages (pools_at at)) at

abbrev pub resize_node_outcome : ℕ → ℕ → ℕ → Hosting → Outcome
resize_node_outcome node allowed pages at = resize_unless
    (node_refusal at.machine.nodes (pools_at at) node (min pages most_said)) node allowed
    (min pages most_said) at

-- the nodes of the policy of a task of a process
abbrev pub resize_for_outcome : ℕ → ℕ → ℕ → Hosting → ℕ → Outcome
resize_for_outcome pages task cpu at process =
    if nat_le at.machine.nodes cpu then refused_for because.BadCpu at
    else resize_outcome (resizing_nodes (task_record at.machine
    (commands_of at.machine at.history process) task) at.machine.memory cpu)
    (allowed_at at process) pages at

-- ---- in P map START LENGTH OFFSET huge TASK [noreserve]

-- what stands against the command before the limits is answered; else that the mapping finds too
-- few pages, and nothing is mapped
abbrev pub lacking_outcome : Lack → Hosting → ℕ → ℕ → Command → Outcome
lacking_outcome lacked at process pages said =
    if is_starved lacked then with_reply (pages_reply cause.NoMemory) at
    else if is_late at.machine.rules (own_cause at process said)
    then with_lying (Replied (reply.HugeRefused because.NoHugePages))
    (with_pools (refusing (pools_at at) pages) at.lying) at
    else process_outcome Enough at process said

-- a span that can't be mapped is refused by the process's space
abbrev pub fitting_outcome : Lack → Hosting → ℕ → ℕ → ℕ → Bool → Command → Outcome
fitting_outcome lacked at process first pages reserves said =
    let memory = begun_in process at.lying.huge in
    if fits memory.pages.spots first pages
    then unless_pages (lack_for (is_starved lacked) (with_span first pages
    (Some (fresh_spot reserves)) memory.pages.spots)) at
    (command_unless (cause_by lacked at (In process said)) (with_huge process
    (record memory { pages = mapping first pages reserves memory.pages }) at.lying) at
    (In process said))
    else process_outcome lacked at process said

abbrev pub map_there : Lack → Hosting → ℕ → ℕ → ℕ → ℕ → ℕ → Bool → Outcome
map_there lacked at process start bytes offset task reserves =
    if lacks_huge_in at.machine (commands_of at.machine at.history process) (pools_at at) bytes
    task reserves
    then lacking_outcome lacked at process (mapped_pages bytes) (Map start bytes offset Huge)
    else fitting_outcome lacked at process (mapped_first start) (mapped_pages bytes) reserves
    (Map start bytes offset Huge)

-- where the process isn't there, or the host takes no more commands, that comes first
abbrev pub map_outcome : Lack → Hosting → ℕ → ℕ → ℕ → ℕ → ℕ → Bool → Outcome
map_outcome lacked at process start bytes offset task reserves = if takes_more at process
    then map_there lacked at process start bytes offset task reserves
    else process_outcome lacked at process (Map start bytes offset Huge)

-- ---- in P fault TASK ADDR CPU

-- of a page of 4 KiB; the first change of a process wants memory
abbrev pub faulted_with : Result (Option ℕ) PlacedRefusal × Lying → ℕ → HostLying
    → Option Reply × HostLying
faulted_with done process at =
    (Some (fault_reply because.Exhausted done.0), given_back process done.1 at)

abbrev pub small_faulted : Lack → Ground → ℕ → ℕ → ℕ → ℕ → HostLying → Option Reply × HostLying
small_faulted lacked basis process task address cpu at =
    if not (is_some (pages_in process at.homes)) && is_starved lacked
    then (Some (reply.HugeRefused because.NoMemory), at)
    else faulted_with (fault_outcome lacked basis task address cpu
    (record (pages_lent process at) { begun = true })) process at

abbrev pub with_faulted : Option Reply × HostLying → Hosting → ℕ → Outcome
with_faulted done at process =
    with_lying (told_by done.0 (length at.history) process done.1) done.1 at

abbrev pub small_fault_outcome : Lack → Hosting → ℕ → ℕ → ℕ → ℕ → Outcome
small_fault_outcome lacked at process task address cpu = with_faulted (small_faulted lacked
    (ground_of (process_in at process)) process task address cpu at.lying) at process

-- of one of 2 MiB
abbrev pub huge_faulted : Result (Option ℕ) PlacedRefusal × HugeLying → HugeMemory → Hosting → ℕ
    → Outcome
huge_faulted done memory at process = with_lying (Replied (fault_reply because.Killed done.0))
    (with_huge process (record memory { pages = done.1 }) at.lying) at

abbrev pub fault_where : Option HugeMemory → Lack → Hosting → ℕ → ℕ → ℕ → ℕ → Outcome
fault_where None lacked at process task address cpu =
    small_fault_outcome lacked at process task address cpu
fault_where (Some memory) lacked at process task address cpu =
    if is_some (memory.pages.spots (huge_page address))
    then huge_faulted (huge_fault lacked (huge_page address) (node_list at.machine
    (commands_of at.machine at.history process) task (page_of address) cpu) memory.pages) memory at
    process
    else small_fault_outcome lacked at process task address cpu

abbrev pub fault_unless : Option PlaceRefusal → Lack → Hosting → ℕ → ℕ → ℕ → ℕ → Outcome
fault_unless (Some why) lacked at process task address cpu = refused_for (place_cause why) at
fault_unless None lacked at process task address cpu =
    fault_where (memory_at at process) lacked at process task address cpu

-- ---- all of them

-- a line of a process that is there
abbrev pub huge_there : Lack → Hosting → ℕ → HugeLine → Outcome
huge_there lacked at process (huge.Resize pages) = resize_outcome at.machine.memory
    (allowed_at at process) pages at
huge_there lacked at process (huge.ResizeNode node pages) =
    resize_node_outcome node (allowed_at at process) pages at
huge_there lacked at process (huge.ResizeFor pages task cpu) =
    resize_for_outcome pages task cpu at process
huge_there lacked at process (huge.Fault task address cpu) = fault_unless
    (place_refusal_of at.machine (commands_of at.machine at.history process) (page_of address)
    cpu) lacked at process task address cpu
huge_there lacked at process said = with_reply reply.BadWords at

abbrev pub huge_where : Bool → Lack → Hosting → ℕ → HugeLine → Outcome
huge_where false lacked at process said = with_reply (reply.HostRefused NoSuchProcess) at
huge_where true lacked at process said = huge_there lacked at process said

-- what the pools have is the host's to tell
abbrev pub huge_outcome : Lack → Hosting → ℕ → HugeLine → Outcome
huge_outcome lacked at process huge.Pools = with_reply reply.BadWords at
huge_outcome lacked at process (huge.Map start bytes offset task reserves) =
    map_outcome lacked at process start bytes offset task reserves
huge_outcome lacked at process said =
    huge_where (is_there (members_of at.history) process) lacked at process said

-- a line that no process is told; who resizes is allowed all nodes with memory
abbrev pub own_huge_outcome : Hosting → HugeLine → Outcome
own_huge_outcome at huge.Pools = pools_shown (pools_at at) at
own_huge_outcome at (huge.Resize pages) =
    resize_outcome at.machine.memory at.machine.memory pages at
own_huge_outcome at (huge.ResizeNode node pages) =
    resize_node_outcome node at.machine.memory pages at
own_huge_outcome at said = with_reply reply.BadState at
