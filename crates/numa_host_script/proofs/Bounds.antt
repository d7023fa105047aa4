-- The limits that the lines of one process lead to.
use Rattle.std.proofs.Common.{◌≡◌, ℕ, Bool, true, false, Option, Some, None, Result, Ok, Err, refl}
use Rattle.std.specs.Prelude.{if◌then◌else◌}
use Rattle.numa_machine.specs.Machine.{Hardware}
use Rattle.numa_machine.specs.declared.fault.MachineFault.{MachineFault}
use Rattle.numa_mask.specs.declared.list.ListFault.{ListFault}
use Rattle.numa_space.specs.Limited.{Bounds}
use Rattle.numa_page_state.specs.Outcomes.{Lack}
use Rattle.numa_script.specs.declared.line.Line.{Line}
use Rattle.numa_script.specs.declared.line.Line.TheVariants as line
use Rattle.numa_script.specs.declared.line.MachineLine.{MachineLine}
use Rattle.numa_script.specs.declared.reply.Reply.TheVariants as reply
use Rattle.numa_run.specs.Answers.{State, after}
use Rattle.numa_run.specs.Machines.{first_fault, hardware_of, limits_fit, nodes_with_cpus}
use Rattle.numa_run.specs.Obeying.{bound_command}
use Rattle.numa_run.specs.Replies.{bind_nothing, cpus_outcome, machine_outcome, machine_unless}
use Rattle.numa_run.specs.Replies.{outcome_of, served_by, with_reply}
use Rattle.numa_run.proofs.Bounded.{bound-keeps, command-keeps, huge-keeps, pages-keep, work-keeps}
use Rattle.numa_host_script.specs.Sessions.{bounds_after}

-- limits, where they fit
limits-kept : (fit : Bool) (given : Bounds) (state : State)
    → (if fit then with_reply reply.LimitsOk (record state { bounds = given })
    else with_reply reply.BadLimits state).state.bounds
    ≡ (if fit then given else state.bounds)
limits-kept true given state = refl
limits-kept false given state = refl

cpus-kept : (said : Result ℕ ListFault) (state : State)
    → (cpus_outcome said state).state.bounds ≡ state.bounds
cpus-kept (Ok cpus) state = refl
cpus-kept (Err fault) state = refl

unless-kept : (fault : Option MachineFault) (hardware : Hardware) (state : State)
    → (machine_unless fault hardware state).state.bounds ≡ state.bounds
unless-kept None hardware state = refl
unless-kept (Some fault) hardware state = refl

machine-kept : (lacked : Lack) (said : MachineLine) (memory : Result ℕ ListFault)
    (state : State) → (machine_outcome lacked said memory state).state.bounds ≡ state.bounds
machine-kept lacked said (Err fault) state = refl
machine-kept lacked said (Ok memory) state =
    let cpus = nodes_with_cpus said.nodes state.cpus in
    let hardware = hardware_of said memory state.rules cpus in
    unless-kept (first_fault lacked cpus hardware) hardware state

by-machine : (machine : Option Hardware) (lacked : Lack) (state : State) (said : Line)
    → (served_by machine lacked state said).state.bounds
    ≡ bounds_after machine state.bounds said
by-machine None lacked state line.Silent = refl
by-machine None lacked state line.Malformed = refl
by-machine None lacked state (line.Limits ranges tasks commands) =
    limits-kept (limits_fit ranges tasks)
    (record { max_ranges = ranges; max_tasks = tasks; max_commands = commands }) state
by-machine None lacked state (line.Rules rules) = refl
by-machine None lacked state (line.Cpus said) = cpus-kept said state
by-machine None lacked state (line.Machine said) = machine-kept lacked said said.memory state
by-machine None lacked state (line.Command said) = refl
by-machine None lacked state (line.EmptyBind start fault) = refl
by-machine None lacked state (line.Question said) = refl
by-machine None lacked state (line.Maps task) = refl
by-machine None lacked state (line.Work said) = refl
by-machine None lacked state (line.Pages said) = refl
by-machine None lacked state (line.Bind start bytes policy pages) = refl
by-machine None lacked state (line.Huge said) = refl
by-machine None lacked state line.Host = refl
by-machine None lacked state (line.HostCommand said) = refl
by-machine (Some machine) lacked state line.Silent = refl
by-machine (Some machine) lacked state line.Malformed = refl
by-machine (Some machine) lacked state (line.Limits ranges tasks commands) = refl
by-machine (Some machine) lacked state (line.Rules rules) = refl
by-machine (Some machine) lacked state (line.Cpus said) = refl
by-machine (Some machine) lacked state (line.Machine said) = refl
by-machine (Some machine) lacked state (line.Command said) =
    command-keeps lacked machine state said
by-machine (Some machine) lacked state (line.EmptyBind start fault) =
    command-keeps lacked machine state (bind_nothing machine.rules start fault)
by-machine (Some machine) lacked state (line.Question said) = refl
by-machine (Some machine) lacked state (line.Maps task) = refl
by-machine (Some machine) lacked state (line.Work said) = work-keeps lacked machine state said
by-machine (Some machine) lacked state (line.Pages said) = pages-keep lacked machine state said
by-machine (Some machine) lacked state (line.Bind start bytes policy pages) =
    bound-keeps pages lacked machine state (bound_command machine.rules start bytes policy)
by-machine (Some machine) lacked state (line.Huge said) =
    huge-keeps said lacked machine state
by-machine (Some machine) lacked state line.Host = refl
by-machine (Some machine) lacked state (line.HostCommand said) = refl

-- the limits after a line
pub bounds-after : (lacked : Lack) (state : State) (said : Line)
    → (after lacked state said).bounds ≡ bounds_after state.machine state.bounds said
unfolding outcome_of
bounds-after lacked state said = by-machine state.machine lacked state said
