-- A script and its twin, which differ in the rules by which they go and in nothing else.
use Rattle.std.specs.Prelude.{◌≡◌, Bool, true, false, List, [], ◌∷◌, Option}
use Rattle.std.specs.Prelude.{Some, None, Ok, Err}
use Rattle.std.specs.Option.{option_map}
use Rattle.numa_machine.specs.Machine.{Hardware}
use Rattle.numa_requests.specs.declared.command.Command.{Command}
use Rattle.numa_requests.specs.declared.command.Command.TheVariants.{SetMems}
use Rattle.numa_requests.specs.declared.event.Event.TheVariants.{Publish}
use Rattle.numa_rules.specs.Others.{other_rules}
use Rattle.numa_space.specs.Refusals.{refusal_of}
use Rattle.numa_run.specs.Answers.{State}
use Rattle.numa_script.specs.declared.line.Line.{Line}
use Rattle.numa_script.specs.declared.line.Line.TheVariants as line
use Rattle.numa_script.specs.declared.line.ScriptLine.{ScriptLine}
use Rattle.numa_script.specs.declared.work.Work.TheVariants as work
use Rattle.numa_host_script.specs.Sessions.{HostLack, Single, session_after}
use Rattle.numa_play.specs.Turned.{turned}

-- the machine by the other rules
abbrev pub turned_machine : Hardware → Hardware
turned_machine machine = record machine { rules = other_rules machine.rules }

-- the state by the other rules
abbrev pub twin_of : State → State
twin_of state = record state {
  rules = other_rules state.rules;
  machine = option_map turned_machine state.machine;
}

-- a command doesn't change the allowed nodes: no other makes sets of nodes by rules
abbrev pub keeps_nodes : Command → Bool
keeps_nodes (SetMems mask) = false
keeps_nodes _ = true

-- no command changed them
abbrev pub KeepNodes : List Command → Type 0
KeepNodes [] = Unit {0}
KeepNodes (command ∷ history) = (keeps_nodes command ≡ true) × KeepNodes history

-- the line leads from a state and from its twin to a state and its twin again, whatever lacked
-- while both were served; and the allowed nodes are as they were
pub record StayTwins (state : State) (said : ScriptLine) (lack : HostLack) : Type 0 where
  pub after : State
  pub own : session_after lack (Single state) said ≡ Single after
  pub twin : session_after lack (Single (twin_of state)) (turned said) ≡ Single (twin_of after)
  pub keeps : KeepNodes after.world.history

-- both rules refuse the command for one cause, or neither refuses it
abbrev pub IsRefusedAlike : Option Hardware → State → Command → Type 0
IsRefusedAlike None state command = Unit {0}
IsRefusedAlike (Some machine) state command =
    refusal_of machine state.bounds state.world.history command
    ≡ refusal_of (turned_machine machine) state.bounds state.world.history command

-- the line does the same by both rules
abbrev pub IsServedAlike : State → Line → Type 0
IsServedAlike state line.Silent = Unit {0}
IsServedAlike state line.Malformed = Unit {0}
IsServedAlike state (line.Limits ranges tasks commands) = Unit {0}
IsServedAlike state (line.Rules rules) = Unit {0}
IsServedAlike state (line.Cpus said) = Unit {0}
IsServedAlike state (line.Machine said) = Unit {0}
IsServedAlike state (line.Command (Err fault)) = Unit {0}
IsServedAlike state (line.Command (Ok command)) =
    (keeps_nodes command ≡ true) × IsRefusedAlike state.machine state command
IsServedAlike state (line.Question said) = Unit {0}
IsServedAlike state (line.Maps task) = Unit {0}
IsServedAlike state (line.Work (work.Event Publish)) = Unit {0}
IsServedAlike state _ = ⊥
