-- What the exported calls of hosts answer and do.
use Rattle.std.specs.Prelude.{◌≡◌, ℕ, true, Option, Some, None, Result, List, []}
use Rattle.std.specs.Prelude.{MatchResult, unwrap_or}
use Rattle.numa_host.specs.Processes.{Member}
use Rattle.numa_host.specs.Standing.{HostStandsFor}
use Rattle.numa_host_pages.specs.Homes.{empty_host}
use Rattle.numa_host_pages.specs.Standing.{HostLies}
use Rattle.numa_host_script.specs.declared.running.RunningHost.{RunningHost}
use Rattle.numa_requests.specs.declared.host_command.HostCommand.{HostCommand}
use Rattle.numa_host.specs.declared.group.ControlGroup.{ControlGroup}
use Rattle.numa_requests.specs.declared.host_refusal.HostRefusal.{HostRefusal}
use Rattle.numa_requests.specs.declared.host_refusal.HostRefusal.TheVariants as cause
use Rattle.numa_machine.specs.declared.no_memory.NoMemory.{NoMemory}
use Rattle.numa_mask.specs.Words.{number_of}
use Rattle.numa_mask.specs.declared.list.ListFault.{ListFault}
use Rattle.numa_mode.specs.Policy.{PolicyRecord}
use Rattle.numa_plan.specs.Meaning.{PlanData}
use Rattle.numa_ranges.specs.declared.run.Run.{Run}
use Rattle.numa_space.specs.Limited.{Bounds}
use Rattle.numaplan_handles.specs.Hosts.{Obeys}
use Rattle.numaplan_handles.specs.declared.plan_view.ChoiceRefusal.{ChoiceRefusal}
use Rattle.numaplan_c.specs.Border.{IsMachineOf, is_done}
use Rattle.numa_script.specs.declared.reply.Reply.{Reply}
use Rattle.numa_script.specs.declared.reply.Reply.TheVariants as reply
use Rattle.numaplan_c.specs.Codes.{refusal_code}
use Rattle.numaplan_c.specs.Placed.{huge_code, move_code, placed_code}
use Rattle.numaplan_c.specs.Questions.{AreTold, choice_code}
use Rattle.numaplan_c.specs.Ranges.{TellsRange}
use Rattle.numaplan_c.specs.Standing.{TellsPolicy}
use Rattle.numaplan_c.specs.declared.host_questions.NpGroup.{NpGroup}
use Rattle.numaplan_c.specs.declared.host_questions.NpProcess.{NpProcess}
use Rattle.numaplan_c.specs.declared.nodes.NpNodes.{NpNodes}
use Rattle.numaplan_c.specs.declared.options.Options.{Options}
use Rattle.numaplan_c.specs.declared.ranges.NpRange.{NpRange}
use Rattle.numaplan_c.specs.declared.standing.NpPolicy.{NpPolicy}

-- ---- commands

-- those of a host alone are from 90 on
abbrev pub host_cause_code : HostRefusal → ℕ
host_cause_code cause.CommandsSpent = 10
host_cause_code cause.GroupExists = 90
host_cause_code cause.NoSuchGroup = 91
host_cause_code cause.TooManyGroups = 92
host_cause_code cause.RootGroup = 93
host_cause_code cause.NoSuchNode = 17
host_cause_code cause.Populated = 94
host_cause_code cause.ProcessExists = 95
host_cause_code cause.NoSuchProcess = 96
host_cause_code cause.TooManyProcesses = 97
host_cause_code cause.GroupMems = 98
host_cause_code (cause.OfSpace refusal) = refusal_code refusal
host_cause_code cause.NoMemory = 3

-- 0, but for a reply that refuses
abbrev pub reply_code : Reply → ℕ
reply_code (reply.HostRefused cause) = host_cause_code cause
reply_code (reply.PlacedRefused cause) = placed_code cause
reply_code (reply.MoveRefused cause) = move_code cause
reply_code (reply.HugeRefused cause) = huge_code cause
reply_code _ = 0

-- where there is no reply, nothing is refused
abbrev pub told_code : Option Reply → ℕ
told_code None = 0
told_code (Some answer) = reply_code answer

-- the call gave the kept host the command and answered by its number; a closed handle answers 1 and
-- stays closed
abbrev pub HostAnswers : Option RunningHost → HostCommand → ℕ → Option RunningHost → Type 0
HostAnswers old command code new = (old ≡ None → (code ≡ 1) × (new ≡ None))
    × ((running : RunningHost) → old ≡ Some running → (answer : Reply)
    × (code ≡ reply_code answer) × Obeys command old new answer)

-- the same for a command with a word that is read first: a faulty word is told, by `code_of` its
-- fault, and changes nothing
abbrev pub HostAnswersRead : {A F : Type 0} → Result A F → (F → ℕ) → (A → HostCommand)
    → Option RunningHost → ℕ → Option RunningHost → Type 0
HostAnswersRead word code_of command old code new = MatchResult word
    (λ it. HostAnswers old (command it) code new) (λ fault. (code ≡ code_of fault) × (new ≡ old))

-- ---- opening

-- a host of that machine and these limits, before its first command; no node ever fills, and pages
-- follow
abbrev pub IsHostSetUp : Result ℕ ListFault → List ℕ → List ℕ → Options → Bounds → RunningHost
    → Type 0
IsHostSetUp list frames distances options bounds running =
    IsMachineOf list frames distances options running.host.blank.machine
    × (running.host.blank.bounds ≡ bounds) × HostStandsFor running.host []
    × HostLies running.pages (empty_host running.host.blank.machine.memory)

-- ---- questions

-- 1 where a group has a list of its own
abbrev pub flag_of : Option ℕ → ℕ
flag_of None = 0
flag_of (Some mems) = 1

-- the struct of a group, if it is there
abbrev pub TellsGroup : Option ControlGroup → ℕ → NpGroup → NpGroup → Type 0
TellsGroup None code old new = (code ≡ 91) × (new ≡ old)
TellsGroup (Some group) code old new = (code ≡ 0) × (new.group ≡ group.name)
    × (new.parent ≡ group.parent) × (new.has_mems ≡ flag_of group.mems)
    × (number_of new.mems.words ≡ unwrap_or group.mems 0)

-- the set of nodes of a group, if it is there
abbrev pub TellsGroupNodes : Option ℕ → ℕ → NpNodes → NpNodes → Type 0
TellsGroupNodes None code old new = (code ≡ 91) × (new ≡ old)
TellsGroupNodes (Some nodes) code old new = (code ≡ 0) × (number_of new.words ≡ nodes)

-- the struct of a process, if it is there
abbrev pub TellsProcess : Option Member → ℕ → NpProcess → NpProcess → Type 0
TellsProcess None code old new = (code ≡ 96) × (new ≡ old)
TellsProcess (Some member) code old new = (code ≡ 0)
    × (new ≡ record { process = member.0; group = member.1 })

-- a number of a process, if it is there
abbrev pub TellsNumber : Option ℕ → ℕ → ℕ → ℕ → Type 0
TellsNumber None code old new = (code ≡ 96) × (new ≡ old)
TellsNumber (Some number) code old new = (code ≡ 0) × (new ≡ number)

-- a range of a process, if it is there
abbrev pub TellsRangeIn : Option (Option (Run (Option PolicyRecord))) → ℕ → NpRange → NpRange
    → List ℕ → List ℕ → ℕ → ℕ → Type 0
TellsRangeIn None code span span-then old new told told-then =
    (code ≡ 96) × (span-then ≡ span) × (new ≡ old) × (told-then ≡ told)
TellsRangeIn (Some found) code span span-then old new told told-then =
    TellsRange found code span span-then old new told told-then

-- the policy of a process's task, if the process is there
abbrev pub TellsPolicyIn : Option (Option PolicyRecord) → ℕ → NpPolicy → NpPolicy → Type 0
TellsPolicyIn None code old new = (code ≡ 96) × (new ≡ old)
TellsPolicyIn (Some found) code old new = (code ≡ 0) × TellsPolicy found new

-- how many nodes the list of a page of a process has, if it is there
abbrev pub TellsChoice : Option (Result ℕ ChoiceRefusal) → ℕ → ℕ → ℕ → Type 0
TellsChoice None code old new = (code ≡ 96) × (new ≡ old)
TellsChoice (Some answer) code old new = (code ≡ choice_code answer) × AreTold answer old new

-- whether a plan of a process was kept: it is there, or out of memory; or the process isn't there
abbrev pub AnswersPlan : Option (Result PlanData NoMemory) → ℕ → Type 0
AnswersPlan None code = code ≡ 96
AnswersPlan (Some answer) code = is_done code ≡ true
