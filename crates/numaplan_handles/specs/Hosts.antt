-- What a handle of a host keeps, what a call does to it, and what it answers.
use Rattle.std.specs.Prelude.{◌≡◌, ℕ, true, false, Option, Some, Result, Ok, Err, List, length}
use Rattle.std.specs.Prelude.{take, drop, slice_get, IfOk, MatchOption}
use Rattle.numa_compile.specs.Standing.{PlanStandsFor}
use Rattle.numa_host.specs.Groups.{effective_mems, groups_of, is_group}
use Rattle.numa_host.specs.Processes.{Member, commands_of, is_there, members_of}
use Rattle.numa_host.specs.Standing.{HostState, HostStandsFor}
use Rattle.numa_requests.specs.declared.host_command.HostCommand.{HostCommand}
use Rattle.numa_host.specs.declared.group.ControlGroup.{ControlGroup}
use Rattle.numa_machine.specs.Machine.{Hardware}
use Rattle.numa_machine.specs.declared.no_memory.NoMemory.{NoMemory}
use Rattle.numa_machine.specs.declared.rules.Rules.{Rules}
use Rattle.numa_maps.specs.Listing.{AreRangesOf}
use Rattle.numa_mode.specs.Policy.{PolicyRecord}
use Rattle.numa_plan.specs.Meaning.{PlanData}
use Rattle.numa_ranges.specs.declared.run.Run.{Run}
use Rattle.numa_space.specs.Lists.{node_list}
use Rattle.numa_space.specs.Policies.{task_record}
use Rattle.numa_space.specs.Refusals.{range_count_of}
use Rattle.numa_space.specs.Standing.{place_refusal_of}
use Rattle.numa_requests.specs.declared.command.Command.{Command}
use Rattle.numa_host_script.specs.Acting.{AppliesTo, IsCopyOf, told_outcome}
use Rattle.numa_host_script.specs.Standing.{Replies}
use Rattle.numa_host_script.specs.declared.running.RunningHost.{RunningHost}
use Rattle.numa_script.specs.declared.reply.Reply.{Reply}
use Rattle.numaplan_handles.specs.declared.plan_view.ChoiceRefusal.{ChoiceRefusal}
use Rattle.numaplan_handles.specs.declared.plan_view.ChoiceRefusal.TheVariants as refused

-- `told` says what the call did to the host that is kept
abbrev pub OfRunning : {A : Type 0} → (RunningHost → A → RunningHost → Type 0)
    → Option RunningHost → Option RunningHost → A → Type 0
OfRunning told old new answer = (before : RunningHost) → old ≡ Some before →
    (after : RunningHost) × (new ≡ Some after) × told before answer after

-- what comes of a command: to the host alone, and to it with the pages of its processes
pub record Commands (command : HostCommand) (before : RunningHost) (answer : Reply)
    (after : RunningHost) : Type 0 where
  pub host : AppliesTo before.host command answer after.host
  pub runs : Replies before answer after (λ lack at. told_outcome lack at command)

-- the command took the host that is kept from one state to another with this answer
abbrev pub Obeys : HostCommand → Option RunningHost → Option RunningHost → Reply → Type 0
Obeys command = OfRunning (Commands command)

-- another handle keeps a copy of the host that one keeps
abbrev pub IsHostCopyOf : Option RunningHost → RunningHost → Type 0
IsHostCopyOf kept copy = (running : RunningHost) → kept ≡ Some running → IsCopyOf running copy

-- what is told of a host and each history that it stands for
abbrev pub OfHost : Option RunningHost → (HostState → List HostCommand → Type 0) → Type 0
OfHost kept told =
    (running : RunningHost) → kept ≡ Some running →
    (history : List HostCommand) → HostStandsFor running.host history
    → told running.host history

-- ---- the host, its groups and its processes

-- this many commands are accepted
abbrev pub HasHostVersion : ℕ → HostState → List HostCommand → Type 0
HasHostVersion version host history = (version ≡ host.version) × (version ≡ length history)

-- these are the rules by which the host goes
abbrev pub HasHostRules : Option RunningHost → Rules → Type 0
HasHostRules kept rules =
    (running : RunningHost) → kept ≡ Some running → rules ≡ running.host.blank.machine.rules

-- there are this many groups below the root
abbrev pub HasGroups : ℕ → HostState → List HostCommand → Type 0
HasGroups count host history = count ≡ length (groups_of history)

-- this is the group at a place, the newest being at 0
abbrev pub HasGroupAt : ℕ → Option ControlGroup → HostState → List HostCommand → Type 0
HasGroupAt place found host history = found ≡ slice_get (groups_of history) place

-- these are the effective nodes of a group, if it is there
abbrev pub HasGroupNodes : ℕ → Option ℕ → HostState → List HostCommand → Type 0
HasGroupNodes name found host history = MatchOption found
    (is_group (groups_of history) name ≡ false) (λ nodes. (is_group (groups_of history) name ≡ true)
    × (nodes ≡ effective_mems host.blank.machine.memory (groups_of history) name))

-- there are this many processes
abbrev pub HasProcesses : ℕ → HostState → List HostCommand → Type 0
HasProcesses count host history = count ≡ length (members_of history)

-- these are the process at a place, the first born being at 0, and its group
abbrev pub HasProcessAt : ℕ → Option Member → HostState → List HostCommand → Type 0
HasProcessAt place found host history = found ≡ slice_get (members_of history) place

-- ---- one process

-- what is told of the commands that a process has accepted, on the host's machine; no answer where
-- the process isn't there
abbrev pub OfProcess : {A : Type 0} → ℕ → (Hardware → List Command → A → Type 0) → Option A
    → HostState → List HostCommand → Type 0
OfProcess process told answer host history =
    MatchOption answer (is_there (members_of history) process ≡ false)
    (λ it. (is_there (members_of history) process ≡ true)
    × told host.blank.machine (commands_of host.blank.machine history process) it)

-- how many ranges of pages there are
abbrev pub CountsRanges : Hardware → List Command → ℕ → Type 0
CountsRanges machine commands count = count ≡ range_count_of machine commands

-- the range at a place, the lowest being at 0
abbrev pub FindsRange : ℕ → Hardware → List Command → Option (Run (Option PolicyRecord)) → Type 0
FindsRange place machine commands found =
    (ranges : List (Run (Option PolicyRecord))) × AreRangesOf machine commands ranges
    × (found ≡ slice_get ranges place)

-- the policy of a task
abbrev pub FindsPolicy : ℕ → Hardware → List Command → Option PolicyRecord → Type 0
FindsPolicy task machine commands found = found ≡ task_record machine commands task

-- the plan
abbrev pub IsPlanned : Hardware → List Command → Result PlanData NoMemory → Type 0
IsPlanned machine commands answer = IfOk answer (λ plan. PlanStandsFor machine plan commands)

-- the list of a page, and what the room for it held before and after: the list is at the beginning,
-- or there is no room, or no list
abbrev pub ChoosesBy : ℕ → ℕ → ℕ → List ℕ → List ℕ → Hardware → List Command
    → Result ℕ ChoiceRefusal → Type 0
ChoosesBy task page cpu old new machine commands (Ok count) =
    (take count new ≡ node_list machine commands task page cpu) × (drop count new ≡ drop count old)
ChoosesBy task page cpu old new machine commands (Err (refused.TooShort count)) =
    (count ≡ length (node_list machine commands task page cpu)) × (new ≡ old)
ChoosesBy task page cpu old new machine commands (Err (refused.Place cause)) =
    (place_refusal_of machine commands page cpu ≡ Some cause) × (new ≡ old)
