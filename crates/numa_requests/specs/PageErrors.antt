-- The error number that Linux has for each refusal of a call about pages that are there (errno(3)).
use Rattle.std.specs.Prelude.{ℕ}
use Rattle.numa_requests.specs.declared.page_refusal.HugeRefusal.{HugeRefusal}
use Rattle.numa_requests.specs.declared.page_refusal.HugeRefusal.TheVariants as huge
use Rattle.numa_requests.specs.declared.page_refusal.MoveRefusal.{MoveRefusal}
use Rattle.numa_requests.specs.declared.page_refusal.MoveRefusal.TheVariants as move
use Rattle.numa_requests.specs.declared.page_refusal.PlacedRefusal.{PlacedRefusal}
use Rattle.numa_requests.specs.declared.page_refusal.PlacedRefusal.TheVariants as cause

abbrev pub page_errno_of : PlacedRefusal → ℕ
page_errno_of cause.Unaligned = 22
page_errno_of cause.OutOfSpace = 12
page_errno_of cause.NoSuchNode = 22
page_errno_of cause.Occupied = 17
page_errno_of cause.NodesNotAllowed = 22
page_errno_of cause.Astray = 5
page_errno_of cause.BadCpu = 22
page_errno_of cause.Unmapped = 12
page_errno_of cause.NoRoom = 12
page_errno_of cause.TooManyRuns = 12
page_errno_of cause.NoMemory = 12

-- as move_pages(2) gives it
abbrev pub move_errno_of : MoveRefusal → ℕ
move_errno_of move.NoSuchNode = 19
move_errno_of move.NodesNotAllowed = 13
move_errno_of move.Unmapped = 14
move_errno_of move.NotPlaced = 2
move_errno_of move.NoRoom = 12
move_errno_of move.TooManyRuns = 12
move_errno_of move.NoMemory = 12

-- of pages of 2 MiB and their pools; 0 where there is none
abbrev pub huge_errno_of : HugeRefusal → ℕ
huge_errno_of huge.NoSuchNode = 2
huge_errno_of huge.BadCpu = 22
huge_errno_of huge.Unsure = 0
huge_errno_of huge.NoHugePages = 12
huge_errno_of huge.Unmapped = 14
huge_errno_of huge.Exhausted = 0
huge_errno_of huge.Killed = 0
huge_errno_of huge.NotSupported = 95
huge_errno_of huge.TooManyRuns = 12
huge_errno_of huge.NoMemory = 12
