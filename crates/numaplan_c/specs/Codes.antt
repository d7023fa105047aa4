-- The numbers by which the C library answers. A number that was given once is never given to
-- another cause.
--     0          it is done
--     1 to 4     the handle is closed; it is open; out of memory; no room for the answer
--     5, 6       no such number; the line was served, out of memory for its answer
--     10 to 25   a command is refused
--     30 to 38   an event or a question is refused
--     40, 41     the worker goes on; every frame of every listed node is met
--     42         every frame of every listed node was found taken
--     50 to 55   the machine, the limits or the workers are refused
--     56 to 58   no rules, no orders, or no format, have this number
--     60 to 63   a list of nodes is faulty
--     70 to 76   a policy word is faulty, says no policy, or no node is allowed
--     80, 81     a script makes no machine; a line of a trace can't be replayed
--     82         a script is a host's, and the answer is about one process
--     90 to 98   a host refuses a command, or a question names what it hasn't
--     100 to 109 a change of pages that are there is refused
--     110 to 114 pools of huge pages, and first touches, refuse
--     115 to 117 no place for a reader; its desk was closed; no version so new
--     118        no reader, or more than 64
use Rattle.std.specs.Prelude.{ℕ, Option, Some, None, Result, Ok, Err}
use Rattle.numa_mask.specs.declared.list.ListFault.{ListFault}
use Rattle.numa_mask.specs.declared.list.ListFault.TheVariants as list
use Rattle.numa_mode.specs.declared.specification.SpecError.{SpecError}
use Rattle.numa_mode.specs.declared.specification.SpecError.TheVariants as spec
use Rattle.numa_script.specs.declared.policy.WordError.{WordError}
use Rattle.numa_script.specs.declared.policy.WordError.TheVariants as word
use Rattle.numa_machine.specs.declared.fault.MachineFault.{MachineFault}
use Rattle.numa_machine.specs.declared.fault.MachineFault.TheVariants as machine
use Rattle.numa_requests.specs.declared.refusal.Refusal.{Refusal}
use Rattle.numa_requests.specs.declared.refusal.Refusal.TheVariants as refusal
use Rattle.numa_machine.specs.declared.refusal.PlaceRefusal.{PlaceRefusal}
use Rattle.numa_machine.specs.declared.refusal.PlaceRefusal.TheVariants as place
use Rattle.numa_requests.specs.declared.event.CoreReply.{CoreReply}
use Rattle.numa_requests.specs.declared.event.CoreReply.TheVariants as reply
use Rattle.numa_requests.specs.declared.event.CoreRefusal.{CoreRefusal}
use Rattle.numa_requests.specs.declared.event.CoreRefusal.TheVariants as cause

abbrev pub refusal_code : Refusal → ℕ
refusal_code refusal.CommandsSpent = 10
refusal_code refusal.Unaligned = 11
refusal_code refusal.OutOfSpace = 12
refusal_code refusal.EmptyLength = 13
refusal_code refusal.BadOffset = 14
refusal_code refusal.Overlap = 15
refusal_code refusal.Hole = 16
refusal_code refusal.NoSuchNode = 17
refusal_code refusal.BadWeight = 18
refusal_code refusal.NodesNotAllowed = 19
refusal_code refusal.NotSupported = 20
refusal_code refusal.TooManyTasks = 21
refusal_code refusal.TooManyRanges = 22
refusal_code refusal.NoPolicy = 23
refusal_code refusal.BadSpan = 24
refusal_code refusal.NoNodes = 25
refusal_code refusal.NoMemory = 3

abbrev pub cause_code : CoreRefusal → ℕ
cause_code (cause.Command r) = refusal_code r
cause_code cause.NoSuchWorker = 30
cause_code cause.Busy = 31
cause_code cause.Idle = 32
cause_code cause.BadTry = 33
cause_code cause.NotOwned = 34
cause_code cause.BadCpu = 35
cause_code (cause.Unmapped version) = 36
cause_code cause.NoSuchNode = 17
cause_code cause.NoMemory = 3

abbrev pub answer_code : Result CoreReply CoreRefusal → ℕ
answer_code (Ok reply.Still) = 40
answer_code (Ok (reply.Exhausted version)) = 41
answer_code (Ok (reply.Accepted version)) = 0
answer_code (Ok (reply.Published version)) = 0
answer_code (Ok (reply.Won placement)) = 0
answer_code (Ok (reply.Found frame)) = 0
answer_code (Ok reply.Full) = 42
answer_code (Ok reply.Given) = 0
answer_code (Err cause) = cause_code cause

abbrev pub place_code : PlaceRefusal → ℕ
place_code place.BadCpu = 35
place_code place.Unmapped = 36

abbrev pub machine_code : MachineFault → ℕ
machine_code machine.NodeCount = 50
machine_code machine.NoMemoryNode = 51
machine_code machine.BadDistance = 52
machine_code machine.TooManyFrames = 53
machine_code machine.NoMemory = 3

abbrev pub list_code : ListFault → ℕ
list_code list.Empty = 60
list_code list.BadDigit = 61
list_code list.BackRange = 62
list_code list.NodeTooHigh = 63

abbrev pub spec_code : SpecError → ℕ
spec_code spec.UnknownMode = 70
spec_code spec.BothFlags = 71
spec_code spec.NodesForbidden = 72
spec_code spec.FlagsForbidden = 73
spec_code spec.NodesMissing = 74

abbrev pub word_code : WordError → ℕ
word_code (word.List f) = list_code f
word_code (word.Policy f) = spec_code f

-- of a call that is refused for want of memory alone
abbrev pub memory_code : {E : Type 0} → Result (Unit {0}) E → ℕ
memory_code (Ok done) = 0
memory_code (Err refusal) = 3

-- the same where a closed handle gives no answer
abbrev pub kept_code : {E : Type 0} → Option (Result (Unit {0}) E) → ℕ
kept_code None = 1
kept_code (Some answer) = memory_code answer
