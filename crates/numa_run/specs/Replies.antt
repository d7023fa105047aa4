-- What each line of a script is answered, and the state after it. `lack` says what a line
-- lacked while it was served.
use Rattle.std.specs.Prelude.{ℕ, Bool, Option, Some, None, [], if◌then◌else◌, Result, Ok, Err}
use Rattle.numa_mask.specs.declared.list.ListFault.{ListFault}
use Rattle.numa_machine.specs.Machine.{Hardware}
use Rattle.numa_machine.specs.declared.fault.MachineFault.{MachineFault}
use Rattle.numa_core.specs.World.{opening}
use Rattle.numa_page_state.specs.Lying.{nothing}
use Rattle.numa_page_state.specs.Outcomes.{Lack, is_starved}
use Rattle.numa_script.specs.declared.policy.WordError.TheVariants as word_fault
use Rattle.numa_script.specs.declared.line.MachineLine.{MachineLine}
use Rattle.numa_script.specs.declared.line.Line.{Line}
use Rattle.numa_script.specs.declared.line.Line.TheVariants as line
use Rattle.numa_script.specs.declared.reply.Reply.TheVariants as reply
pub use Rattle.numa_run.specs.Answering.{Answer, Replied, Shown, Served, bytes_of, reply_in}
pub use Rattle.numa_run.specs.Answering.{with_outcome, with_reply, with_text}
use Rattle.numa_run.specs.HugeLines.{huge_outcome}
use Rattle.numa_run.specs.Listings.{both_listing}
use Rattle.numa_run.specs.Machines.{limits_fit, nodes_with_cpus, hardware_of, first_fault}
pub use Rattle.numa_run.specs.Obeying.{bind_nothing}
use Rattle.numa_run.specs.Obeying.{bound_command, bound_outcome, command_outcome}
use Rattle.numa_run.specs.PageLines.{pages_outcome, work_served}
use Rattle.numa_run.specs.Questions.{question_text}
use Rattle.numa_run.specs.States.{State, process_on}

-- ---- before a machine is ready

-- limits R T C: the last that are taken before the machine count
abbrev pub limits_outcome : ℕ → ℕ → ℕ → State → Served
limits_outcome ranges tasks commands state =
    if limits_fit ranges tasks
    then with_reply reply.LimitsOk (record state {
      bounds = record { max_ranges = ranges; max_tasks = tasks; max_commands = commands };
    })
    else with_reply reply.BadLimits state

-- cpus LIST: the last list without a fault before the machine counts
abbrev pub cpus_outcome : Result ℕ ListFault → State → Served
cpus_outcome (Err fault) state = with_reply (reply.BadWord (word_fault.List fault)) state
cpus_outcome (Ok cpus) state = with_reply reply.CpusOk (record state { cpus = Some cpus })

-- a machine, where it has no fault: nothing is accepted yet, and no page is placed
abbrev pub machine_unless : Option MachineFault → Hardware → State → Served
machine_unless None hardware state =
    with_reply reply.Ready (record {
      bounds = state.bounds;
      rules = state.rules;
      cpus = state.cpus;
      machine = Some hardware;
      world = opening;
      resident = [];
      lying = nothing;
      huge = None;
    })
machine_unless (Some fault) hardware state = with_reply (reply.BadMachine fault) state

-- machine NODES MEM FRAMES DIST: a fault of the list of nodes comes before every fault of the
-- machine
abbrev pub machine_outcome : Lack → MachineLine → Result ℕ ListFault → State → Served
machine_outcome lack said (Err fault) state =
    with_reply (reply.BadWord (word_fault.List fault)) state
machine_outcome lack said (Ok memory) state =
    let cpus = nodes_with_cpus said.nodes state.cpus in
    let hardware = hardware_of said memory state.rules cpus in
    machine_unless (first_fault lack cpus hardware) hardware state

abbrev pub served_first : Lack → State → Line → Served
served_first lack state line.Silent = with_reply reply.Silent state
served_first lack state line.Malformed = with_reply reply.BadWords state
served_first lack state (line.Limits ranges tasks commands) =
    limits_outcome ranges tasks commands state
served_first lack state (line.Rules rules) =
    with_reply reply.RulesOk (record state { rules = rules })
served_first lack state (line.Cpus said) = cpus_outcome said state
served_first lack state (line.Machine said) = machine_outcome lack said said.memory state
served_first lack state (line.Command said) = with_reply reply.BadState state
served_first lack state (line.EmptyBind start fault) = with_reply reply.BadState state
served_first lack state (line.Question said) = with_reply reply.BadState state
served_first lack state (line.Maps task) = with_reply reply.BadState state
served_first lack state (line.Work said) = with_reply reply.BadState state
served_first lack state (line.Pages said) = with_reply reply.BadState state
served_first lack state (line.Bind start bytes policy pages) = with_reply reply.BadState state
served_first lack state (line.Huge said) = with_reply reply.BadState state
served_first lack state line.Host = with_reply reply.BadWords state
served_first lack state (line.HostCommand said) = with_reply reply.BadWords state

-- ---- with a machine

abbrev pub served_later : Lack → Hardware → State → Line → Served
served_later lack machine state line.Silent = with_reply reply.Silent state
served_later lack machine state line.Malformed = with_reply reply.BadWords state
served_later lack machine state (line.Limits ranges tasks commands) =
    with_reply reply.BadState state
served_later lack machine state (line.Rules rules) = with_reply reply.BadState state
served_later lack machine state (line.Cpus said) = with_reply reply.BadState state
served_later lack machine state (line.Machine said) = with_reply reply.BadState state
served_later lack machine state (line.Command said) = command_outcome lack machine state said
served_later lack machine state (line.EmptyBind start fault) =
    command_outcome lack machine state (bind_nothing machine.rules start fault)
served_later lack machine state (line.Question said) =
    with_text (question_text (is_starved lack) machine state.world.history said) state
served_later lack machine state (line.Maps task) =
    with_text (both_listing (process_on machine state) state.lying.spots state.huge task) state
served_later lack machine state (line.Work said) = work_served lack machine state said
served_later lack machine state (line.Pages said) = pages_outcome lack machine state said
served_later lack machine state (line.Bind start bytes policy pages) =
    bound_outcome lack machine state pages (bound_command machine.rules start bytes policy)
served_later lack machine state (line.Huge said) = huge_outcome lack machine state said
served_later lack machine state line.Host = with_reply reply.BadWords state
served_later lack machine state (line.HostCommand said) = with_reply reply.BadWords state

-- ---- every line

abbrev pub served_by : Option Hardware → Lack → State → Line → Served
served_by None lack state said = served_first lack state said
served_by (Some machine) lack state said = served_later lack machine state said

-- what serving a line in a state comes to
unfoldable pub outcome_of : Lack → State → Line → Served
outcome_of lack state said = served_by state.machine lack state said
