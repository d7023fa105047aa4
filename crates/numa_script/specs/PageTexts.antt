-- The names of refusals of lines about pages that are there, and what moves of pages tell.
use Rattle.std.specs.Prelude.{ℕ, Bool, true, false, List, [], ◌++◌, codes, decimal}
use Rattle.numa_requests.specs.declared.page_refusal.MoveRefusal.{MoveRefusal}
use Rattle.numa_requests.specs.declared.page_refusal.MoveRefusal.TheVariants as move
use Rattle.numa_requests.specs.declared.page_refusal.PlacedRefusal.{PlacedRefusal}
use Rattle.numa_requests.specs.declared.page_refusal.PlacedRefusal.TheVariants as cause

-- ---- refusals, each with its error number (errno(3))

abbrev pub placed_cause : PlacedRefusal → List ℕ
placed_cause cause.Unaligned = codes "Unaligned EINVAL"
placed_cause cause.OutOfSpace = codes "OutOfSpace ENOMEM"
placed_cause cause.NoSuchNode = codes "NoSuchNode EINVAL"
placed_cause cause.Occupied = codes "Occupied EEXIST"
placed_cause cause.NodesNotAllowed = codes "NodesNotAllowed EINVAL"
placed_cause cause.Astray = codes "Astray EIO"
placed_cause cause.BadCpu = codes "BadCpu EINVAL"
placed_cause cause.Unmapped = codes "Unmapped ENOMEM"
placed_cause cause.NoRoom = codes "NoRoom ENOMEM"
placed_cause cause.TooManyRuns = codes "TooManyRuns ENOMEM"
placed_cause cause.NoMemory = codes "NoMemory ENOMEM"

abbrev pub move_cause : MoveRefusal → List ℕ
move_cause move.NoSuchNode = codes "NoSuchNode ENODEV"
move_cause move.NodesNotAllowed = codes "NodesNotAllowed EACCES"
move_cause move.Unmapped = codes "Unmapped EFAULT"
move_cause move.NotPlaced = codes "NotPlaced ENOENT"
move_cause move.NoRoom = codes "NoRoom ENOMEM"
move_cause move.TooManyRuns = codes "TooManyRuns ENOMEM"
move_cause move.NoMemory = codes "NoMemory ENOMEM"

-- ---- moves

-- `moved 3 left 0`
abbrev pub moved_words : ℕ → ℕ → List ℕ
moved_words moved left = codes "moved " ++ decimal moved ++ codes " left " ++ decimal left

-- ` EIO` behind that, where pages had to go
abbrev pub late_words : Bool → List ℕ
late_words true = codes " EIO"
late_words false = []

-- `placed 3 exhausted 0`
abbrev pub placed_words : ℕ → ℕ → List ℕ
placed_words placed exhausted =
    codes "placed " ++ decimal placed ++ codes " exhausted " ++ decimal exhausted

-- `ok 4 moved 5 left 1`
abbrev pub sent_text : ℕ → ℕ → ℕ → Bool → List ℕ
sent_text version moved left late = codes "ok " ++ decimal version ++ codes " "
    ++ moved_words moved left ++ late_words late ++ codes "\n"
