-- The names of the answers, and their error numbers.
use Rattle.std.specs.Prelude.{ℕ, ◌-◌, ◌==◌, ◌&&◌, nat_le, nat_lt, List, [], ◌∷◌, codes, slice_get}
use Rattle.std.specs.Prelude.{slice_index}
use Rattle.std.specs.Prelude.{Option, Some, None, if◌then◌else◌}
use Rattle.std.specs.Borrow.{Bor}
use Rattle.numa_requests.specs.HostErrors.{host_errno_of}
use Rattle.numa_requests.specs.declared.host_refusal.HostErrno.{HostErrno}
use Rattle.numa_requests.specs.declared.host_refusal.HostErrno.TheVariants as host_errno
use Rattle.numa_requests.specs.declared.host_refusal.HostRefusal.{HostRefusal}
use Rattle.numa_requests.specs.declared.host_refusal.HostRefusal.TheVariants as host
use Rattle.numa_requests.specs.PageErrors.{page_errno_of as placed_errno_of, huge_errno_of}
use Rattle.numa_requests.specs.PageErrors.{move_errno_of}
use Rattle.numa_requests.specs.declared.page_refusal.HugeRefusal.TheVariants as huge
use Rattle.numa_requests.specs.declared.page_refusal.MoveRefusal.TheVariants as move
use Rattle.numa_requests.specs.declared.page_refusal.PlacedRefusal.TheVariants as placed
use Rattle.numa_script.specs.Names.{refusal_name}
use Rattle.numa_requests.specs.Errors.{errno_of}
use Rattle.numa_requests.specs.declared.refusal.Errno.{Errno}
use Rattle.numa_requests.specs.declared.refusal.Errno.TheVariants as errno
use Rattle.numa_requests.specs.declared.refusal.Refusal.{Refusal}
use Rattle.numa_requests.specs.declared.refusal.Refusal.TheVariants as refusal

-- ---- refusals of commands

-- the refusals of commands, from 10 on
abbrev pub refusals : List Refusal
refusals =
    refusal.CommandsSpent ∷ refusal.Unaligned ∷ refusal.OutOfSpace ∷ refusal.EmptyLength
    ∷ refusal.BadOffset ∷ refusal.Overlap ∷ refusal.Hole ∷ refusal.NoSuchNode
    ∷ refusal.BadWeight ∷ refusal.NodesNotAllowed ∷ refusal.NotSupported
    ∷ refusal.TooManyTasks ∷ refusal.TooManyRanges ∷ refusal.NoPolicy ∷ refusal.BadSpan
    ∷ refusal.NoNodes ∷ []

-- the refusal of a command that has this number
abbrev pub refusal_numbered : ℕ → Option Refusal
refusal_numbered code =
    if code == 3 then Some refusal.NoMemory
    else if nat_lt code 10 then None
    else slice_get refusals (code - 10)

-- the causes that only a host has, from 90 on
abbrev pub host_causes : List HostRefusal
host_causes =
    host.GroupExists ∷ host.NoSuchGroup ∷ host.TooManyGroups ∷ host.RootGroup ∷ host.Populated
    ∷ host.ProcessExists ∷ host.NoSuchProcess ∷ host.TooManyProcesses ∷ host.GroupMems ∷ []

-- the cause of a host that has this number
abbrev pub host_numbered : ℕ → Option HostRefusal
host_numbered code = if nat_lt code 90 then None else slice_get host_causes (code - 90)

-- ---- names

-- a number and its name
pub record Named : Type 0 where
  pub number : ℕ
  pub name : List ℕ

abbrev pub named : ℕ → List ℕ → Named
named number name = record { number = number; name = name }

-- a number and its name, as a table of the code has them
abbrev pub row_of : ℕ × Bor (List ℕ) → Named
row_of row = named row.0 row.1.now

-- the answers below 50 that are no refusals of commands; of these the script language has the names
abbrev pub call_names : List Named
call_names =
    named 0 (codes "Ok") ∷ named 1 (codes "Closed") ∷ named 2 (codes "Open")
    ∷ named 4 (codes "NoRoom") ∷ named 5 (codes "Unknown") ∷ named 6 (codes "AnswerLost")
    ∷ named 30 (codes "NoSuchWorker") ∷ named 31 (codes "Busy") ∷ named 32 (codes "Idle")
    ∷ named 33 (codes "BadTry") ∷ named 34 (codes "NotOwned") ∷ named 35 (codes "BadCpu")
    ∷ named 36 (codes "Unmapped") ∷ named 37 (codes "NoRange") ∷ named 38 (codes "PlacedTwice")
    ∷ named 40 (codes "Still") ∷ named 41 (codes "Exhausted") ∷ named 42 (codes "AllTaken")
    ∷ []

-- faults of machines, lists, policy words and questions about scripts
abbrev pub fault_names : List Named
fault_names =
    named 50 (codes "BadNodeCount") ∷ named 51 (codes "NoMemoryNode")
    ∷ named 52 (codes "BadDistance") ∷ named 53 (codes "TooManyFrames")
    ∷ named 54 (codes "BadLimits") ∷ named 55 (codes "BadWorkers")
    ∷ named 56 (codes "BadRules") ∷ named 57 (codes "BadOrders") ∷ named 58 (codes "BadFormat")
    ∷ named 60 (codes "ListEmpty") ∷ named 61 (codes "ListBadDigit")
    ∷ named 62 (codes "ListBackwards") ∷ named 63 (codes "ListTooHigh")
    ∷ named 70 (codes "UnknownMode") ∷ named 71 (codes "BothFlags")
    ∷ named 72 (codes "NodesForbidden") ∷ named 73 (codes "FlagsForbidden")
    ∷ named 74 (codes "NodesMissing") ∷ named 75 (codes "NoPolicy")
    ∷ named 76 (codes "NoNodeAllowed")
    ∷ named 80 (codes "NoMachine") ∷ named 81 (codes "BadAccess")
    ∷ named 82 (codes "ManyProcesses") ∷ []

-- causes that only a host, pages or a desk have
abbrev pub late_names : List Named
late_names =
    named 90 (codes "GroupExists") ∷ named 91 (codes "NoSuchGroup")
    ∷ named 92 (codes "TooManyGroups") ∷ named 93 (codes "RootGroup")
    ∷ named 94 (codes "Populated") ∷ named 95 (codes "ProcessExists")
    ∷ named 96 (codes "NoSuchProcess") ∷ named 97 (codes "TooManyProcesses")
    ∷ named 98 (codes "GroupMems")
    ∷ named 100 (codes "TooManyRuns") ∷ named 101 (codes "Astray")
    ∷ named 102 (codes "NoSuchTarget") ∷ named 103 (codes "TargetNotAllowed")
    ∷ named 104 (codes "PageUnmapped") ∷ named 105 (codes "NotPlaced")
    ∷ named 106 (codes "NodeFull") ∷ named 107 (codes "Occupied")
    ∷ named 108 (codes "NoSuchCpu") ∷ named 109 (codes "SpanUnmapped")
    ∷ named 110 (codes "NoSuchPool") ∷ named 111 (codes "Unsure")
    ∷ named 112 (codes "NoHugePages") ∷ named 113 (codes "NodesFull")
    ∷ named 114 (codes "NoPageFree")
    ∷ named 115 (codes "NoPlace") ∷ named 116 (codes "Ended") ∷ named 117 (codes "NotYet")
    ∷ named 118 (codes "BadReaders") ∷ []

-- the name of a number, without a byte where it has none
abbrev pub name_in : List Named → ℕ → List ℕ
name_in [] code = []
name_in (row ∷ rest) code = if code == row.number then row.name else name_in rest code

abbrev pub name_or : Option Refusal → List ℕ → List ℕ
name_or (Some cause) other = refusal_name cause
name_or None other = other

-- the name of an answer, without a byte where no answer has this number; that of 23, `NoPolicy` in
-- a script, is another here, since 75 has had that one first
unfoldable pub answer_name : ℕ → List ℕ
answer_name code =
    if code == 23 then codes "NoPolicyThere"
    else name_or (refusal_numbered code)
    (if nat_lt code 50 then name_in call_names code
    else if nat_lt code 90 then name_in fault_names code
    else name_in late_names code)

-- ---- error numbers

-- errno(3), as Linux numbers them on x86-64 and arm64
abbrev pub errno_number : Errno → ℕ
errno_number errno.EInval = 22
errno_number errno.ENoMem = 12
errno_number errno.EExist = 17
errno_number errno.EFault = 14
errno_number errno.ENoSpc = 28
errno_number errno.EOpNotSupp = 95
errno_number errno.ENoEnt = 2

abbrev pub errno_or : Option Refusal → ℕ → ℕ
errno_or (Some cause) other = errno_number (errno_of cause)
errno_or None other = other

abbrev pub host_errno_number : HostErrno → ℕ
host_errno_number (host_errno.OfSpace errno) = errno_number errno
host_errno_number host_errno.ESrch = 3
host_errno_number host_errno.EAcces = 13
host_errno_number host_errno.EPerm = 1
host_errno_number host_errno.EAgain = 11

abbrev pub host_errno_or : Option HostRefusal → ℕ → ℕ
host_errno_or (Some cause) other = host_errno_number (host_errno_of cause)
host_errno_or None other = other

-- those of the causes that only pages have, from 100 on, and those of desks, from 115 on: EAGAIN,
-- ESHUTDOWN, EAGAIN, EINVAL; 0 where there is none
abbrev pub placed_errnos : List ℕ
placed_errnos =
    placed_errno_of placed.TooManyRuns ∷ placed_errno_of placed.Astray
    ∷ move_errno_of move.NoSuchNode ∷ move_errno_of move.NodesNotAllowed
    ∷ move_errno_of move.Unmapped ∷ move_errno_of move.NotPlaced ∷ move_errno_of move.NoRoom
    ∷ placed_errno_of placed.Occupied ∷ placed_errno_of placed.BadCpu
    ∷ placed_errno_of placed.Unmapped ∷ huge_errno_of huge.NoSuchNode
    ∷ huge_errno_of huge.Unsure ∷ huge_errno_of huge.NoHugePages
    ∷ huge_errno_of huge.Exhausted ∷ huge_errno_of huge.Killed
    ∷ 11 ∷ 108 ∷ 11 ∷ 22 ∷ []

abbrev pub placed_errno : ℕ → ℕ
placed_errno code = if nat_lt code 100 then 0 else slice_index placed_errnos (code - 100)

-- that of an answer that refuses no command of a core
abbrev pub other_errno : ℕ → ℕ
other_errno code = host_errno_or (host_numbered code)
    (if nat_le 70 code && nat_le code 74 then 22 else placed_errno code)

-- the error number of an answer: a faulty policy word is set_mempolicy(2)'s EINVAL; 0 where there
-- is none
abbrev pub answer_errno : ℕ → ℕ
answer_errno code = errno_or (refusal_numbered code) (other_errno code)
