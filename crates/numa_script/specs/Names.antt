-- The names of faults and refusals in answers.
use Rattle.std.specs.Prelude.{ℕ, List, ◌++◌, codes}
use Rattle.numa_mask.specs.declared.list.ListFault.{ListFault}
use Rattle.numa_mask.specs.declared.list.ListFault.TheVariants as list
use Rattle.numa_mode.specs.declared.specification.SpecError.{SpecError}
use Rattle.numa_mode.specs.declared.specification.SpecError.TheVariants as policy
use Rattle.numa_machine.specs.declared.fault.MachineFault.{MachineFault}
use Rattle.numa_machine.specs.declared.fault.MachineFault.TheVariants as machine
use Rattle.numa_requests.specs.Errors.{errno_of}
use Rattle.numa_requests.specs.declared.refusal.Errno.{Errno}
use Rattle.numa_requests.specs.declared.refusal.Errno.TheVariants as errno
use Rattle.numa_requests.specs.declared.refusal.Refusal.{Refusal}
use Rattle.numa_requests.specs.declared.refusal.Refusal.TheVariants as refusal
use Rattle.numa_machine.specs.declared.refusal.PlaceRefusal.{PlaceRefusal}
use Rattle.numa_machine.specs.declared.refusal.PlaceRefusal.TheVariants as place
use Rattle.numa_requests.specs.declared.event.CoreRefusal.{CoreRefusal}
use Rattle.numa_requests.specs.declared.event.CoreRefusal.TheVariants as core
use Rattle.numa_script.specs.declared.names.Named.{Named}
use Rattle.numa_script.specs.declared.names.Named.TheVariants as named

abbrev pub list_name : ListFault → List ℕ
list_name list.Empty = codes "Empty"
list_name list.BadDigit = codes "BadDigit"
list_name list.BackRange = codes "BackRange"
list_name list.NodeTooHigh = codes "NodeTooHigh"

abbrev pub policy_name : SpecError → List ℕ
policy_name policy.UnknownMode = codes "UnknownMode"
policy_name policy.BothFlags = codes "BothFlags"
policy_name policy.NodesForbidden = codes "NodesForbidden"
policy_name policy.FlagsForbidden = codes "FlagsForbidden"
policy_name policy.NodesMissing = codes "NodesMissing"

abbrev pub machine_name : MachineFault → List ℕ
machine_name machine.NodeCount = codes "NodeCount"
machine_name machine.NoMemoryNode = codes "NoMemoryNode"
machine_name machine.BadDistance = codes "BadDistance"
machine_name machine.TooManyFrames = codes "TooManyFrames"
machine_name machine.NoMemory = codes "NoMemory"

abbrev pub refusal_name : Refusal → List ℕ
refusal_name refusal.CommandsSpent = codes "CommandsSpent"
refusal_name refusal.Unaligned = codes "Unaligned"
refusal_name refusal.OutOfSpace = codes "OutOfSpace"
refusal_name refusal.BadSpan = codes "BadSpan"
refusal_name refusal.EmptyLength = codes "EmptyLength"
refusal_name refusal.BadOffset = codes "BadOffset"
refusal_name refusal.Overlap = codes "Overlap"
refusal_name refusal.Hole = codes "Hole"
refusal_name refusal.NoSuchNode = codes "NoSuchNode"
refusal_name refusal.BadWeight = codes "BadWeight"
refusal_name refusal.NodesNotAllowed = codes "NodesNotAllowed"
refusal_name refusal.NoNodes = codes "NoNodes"
refusal_name refusal.NotSupported = codes "NotSupported"
refusal_name refusal.NoPolicy = codes "NoPolicy"
refusal_name refusal.TooManyTasks = codes "TooManyTasks"
refusal_name refusal.TooManyRanges = codes "TooManyRanges"
refusal_name refusal.NoMemory = codes "NoMemory"

-- errno(3)
abbrev pub errno_name : Errno → List ℕ
errno_name errno.EInval = codes "EINVAL"
errno_name errno.ENoMem = codes "ENOMEM"
errno_name errno.EExist = codes "EEXIST"
errno_name errno.EFault = codes "EFAULT"
errno_name errno.ENoSpc = codes "ENOSPC"
errno_name errno.EOpNotSupp = codes "EOPNOTSUPP"
errno_name errno.ENoEnt = codes "ENOENT"

abbrev pub place_name : PlaceRefusal → List ℕ
place_name place.BadCpu = codes "BadCpu"
place_name place.Unmapped = codes "Unmapped"

abbrev pub name_of : Named → List ℕ
name_of (named.List fault) = list_name fault
name_of (named.Policy fault) = policy_name fault
name_of (named.Machine fault) = machine_name fault
name_of (named.Refusal refusal) = refusal_name refusal
name_of (named.Errno errno) = errno_name errno
name_of (named.Place refusal) = place_name refusal

-- why an event was refused: a command's refusal with its error number
abbrev pub cause_name : CoreRefusal → List ℕ
cause_name (core.Command cause) = refusal_name cause ++ codes " " ++ errno_name (errno_of cause)
cause_name core.NoSuchWorker = codes "NoSuchWorker"
cause_name core.Busy = codes "Busy"
cause_name core.Idle = codes "Idle"
cause_name core.BadTry = codes "BadTry"
cause_name core.NotOwned = codes "NotOwned"
cause_name core.BadCpu = codes "BadCpu"
cause_name (core.Unmapped version) = codes "Unmapped"
cause_name core.NoSuchNode = codes "NoSuchNode"
cause_name core.NoMemory = codes "NoMemory"
