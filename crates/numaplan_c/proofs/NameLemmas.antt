-- The names and numbers of refusals are those that a script's answers have, but for one.
use Rattle.std.proofs.Common.{◌≡◌, ℕ, List, Some, codes, refl}
use Rattle.numa_requests.specs.HostErrors.{host_errno_of}
use Rattle.numa_requests.specs.declared.host_refusal.HostRefusal.{HostRefusal}
use Rattle.numa_requests.specs.declared.host_refusal.HostRefusal.TheVariants as host
use Rattle.numa_requests.specs.PageErrors.{page_errno_of as placed_errno_of, huge_errno_of}
use Rattle.numa_requests.specs.PageErrors.{move_errno_of}
use Rattle.numa_requests.specs.declared.page_refusal.HugeRefusal.{HugeRefusal}
use Rattle.numa_requests.specs.declared.page_refusal.HugeRefusal.TheVariants as huge
use Rattle.numa_requests.specs.declared.page_refusal.MoveRefusal.{MoveRefusal}
use Rattle.numa_requests.specs.declared.page_refusal.MoveRefusal.TheVariants as move
use Rattle.numa_requests.specs.declared.page_refusal.PlacedRefusal.{PlacedRefusal}
use Rattle.numa_requests.specs.declared.page_refusal.PlacedRefusal.TheVariants as placed
use Rattle.numa_script.specs.Names.{refusal_name}
use Rattle.numa_requests.specs.declared.refusal.Refusal.{Refusal}
use Rattle.numa_requests.specs.declared.refusal.Refusal.TheVariants as refusal
use Rattle.numaplan_c.specs.Codes.{refusal_code}
use Rattle.numaplan_c.specs.Hosts.{host_cause_code}
use Rattle.numaplan_c.specs.Names.{answer_errno, answer_name, host_errno_number, refusal_numbered}
use Rattle.numaplan_c.specs.Placed.{huge_code, move_code, placed_code}

pub numbered-same : (cause : Refusal) → refusal_numbered (refusal_code cause) ≡ Some cause
numbered-same refusal.CommandsSpent = refl
numbered-same refusal.Unaligned = refl
numbered-same refusal.OutOfSpace = refl
numbered-same refusal.BadSpan = refl
numbered-same refusal.EmptyLength = refl
numbered-same refusal.BadOffset = refl
numbered-same refusal.Overlap = refl
numbered-same refusal.Hole = refl
numbered-same refusal.NoSuchNode = refl
numbered-same refusal.BadWeight = refl
numbered-same refusal.NodesNotAllowed = refl
numbered-same refusal.NoNodes = refl
numbered-same refusal.NotSupported = refl
numbered-same refusal.TooManyTasks = refl
numbered-same refusal.TooManyRanges = refl
numbered-same refusal.NoPolicy = refl
numbered-same refusal.NoMemory = refl

-- but for that of NoPolicy, whose name a number of before has
abbrev pub name_here : Refusal → List ℕ
name_here refusal.NoPolicy = codes "NoPolicyThere"
name_here cause = refusal_name cause

pub name-same : (cause : Refusal) → answer_name (refusal_code cause) ≡ name_here cause
unfolding answer_name
name-same refusal.CommandsSpent = refl
name-same refusal.Unaligned = refl
name-same refusal.OutOfSpace = refl
name-same refusal.BadSpan = refl
name-same refusal.EmptyLength = refl
name-same refusal.BadOffset = refl
name-same refusal.Overlap = refl
name-same refusal.Hole = refl
name-same refusal.NoSuchNode = refl
name-same refusal.BadWeight = refl
name-same refusal.NodesNotAllowed = refl
name-same refusal.NoNodes = refl
name-same refusal.NotSupported = refl
name-same refusal.TooManyTasks = refl
name-same refusal.TooManyRanges = refl
name-same refusal.NoPolicy = refl
name-same refusal.NoMemory = refl

-- the error number of what a host refuses is that of the host's cause
pub host-errno-same : (cause : HostRefusal)
    → answer_errno (host_cause_code cause) ≡ host_errno_number (host_errno_of cause)
host-errno-same host.CommandsSpent = refl
host-errno-same host.GroupExists = refl
host-errno-same host.NoSuchGroup = refl
host-errno-same host.TooManyGroups = refl
host-errno-same host.RootGroup = refl
host-errno-same host.NoSuchNode = refl
host-errno-same host.Populated = refl
host-errno-same host.ProcessExists = refl
host-errno-same host.NoSuchProcess = refl
host-errno-same host.TooManyProcesses = refl
host-errno-same host.GroupMems = refl
host-errno-same (host.OfSpace refusal.CommandsSpent) = refl
host-errno-same (host.OfSpace refusal.Unaligned) = refl
host-errno-same (host.OfSpace refusal.OutOfSpace) = refl
host-errno-same (host.OfSpace refusal.BadSpan) = refl
host-errno-same (host.OfSpace refusal.EmptyLength) = refl
host-errno-same (host.OfSpace refusal.BadOffset) = refl
host-errno-same (host.OfSpace refusal.Overlap) = refl
host-errno-same (host.OfSpace refusal.Hole) = refl
host-errno-same (host.OfSpace refusal.NoSuchNode) = refl
host-errno-same (host.OfSpace refusal.BadWeight) = refl
host-errno-same (host.OfSpace refusal.NodesNotAllowed) = refl
host-errno-same (host.OfSpace refusal.NoNodes) = refl
host-errno-same (host.OfSpace refusal.NotSupported) = refl
host-errno-same (host.OfSpace refusal.TooManyTasks) = refl
host-errno-same (host.OfSpace refusal.TooManyRanges) = refl
host-errno-same (host.OfSpace refusal.NoPolicy) = refl
host-errno-same (host.OfSpace refusal.NoMemory) = refl
host-errno-same host.NoMemory = refl

-- the error number of what pages refuse is that of their cause, and move_pages(2)'s is its own
pub placed-errno-same : (cause : PlacedRefusal)
    → answer_errno (placed_code cause) ≡ placed_errno_of cause
placed-errno-same placed.Unaligned = refl
placed-errno-same placed.OutOfSpace = refl
placed-errno-same placed.NoSuchNode = refl
placed-errno-same placed.Occupied = refl
placed-errno-same placed.NodesNotAllowed = refl
placed-errno-same placed.Astray = refl
placed-errno-same placed.BadCpu = refl
placed-errno-same placed.Unmapped = refl
placed-errno-same placed.NoRoom = refl
placed-errno-same placed.TooManyRuns = refl
placed-errno-same placed.NoMemory = refl

pub move-errno-same : (cause : MoveRefusal) → answer_errno (move_code cause) ≡ move_errno_of cause
move-errno-same move.NoSuchNode = refl
move-errno-same move.NodesNotAllowed = refl
move-errno-same move.Unmapped = refl
move-errno-same move.NotPlaced = refl
move-errno-same move.NoRoom = refl
move-errno-same move.TooManyRuns = refl
move-errno-same move.NoMemory = refl

-- and of what pages of 2 MiB or their pools refuse
pub huge-errno-same : (cause : HugeRefusal) → answer_errno (huge_code cause) ≡ huge_errno_of cause
huge-errno-same huge.NoSuchNode = refl
huge-errno-same huge.BadCpu = refl
huge-errno-same huge.Unsure = refl
huge-errno-same huge.NoHugePages = refl
huge-errno-same huge.Unmapped = refl
huge-errno-same huge.Exhausted = refl
huge-errno-same huge.Killed = refl
huge-errno-same huge.NotSupported = refl
huge-errno-same huge.TooManyRuns = refl
huge-errno-same huge.NoMemory = refl
