-- What a taker receives of ranges, one after the other.
use Rattle.std.specs.Prelude.{◌≡◌, ◌⊎◌, ℕ, ◌+◌, ◌-◌, ◌<◌, Option, None, List, [], ◌∷◌, slice_index}
use Rattle.std.specs.Borrow.{Bor}
use Rattle.numa_machine.specs.Machine.{Hardware}
use Rattle.numa_mode.specs.Policy.{PolicyRecord}
use Rattle.numa_ranges.specs.declared.run.Run.{Run}
use Rattle.numa_space.specs.Pages.{resolved_policy}
use Rattle.numa_requests.specs.declared.command.Command.{Command}
use Rattle.numa_placed.specs.Laid.{Laid}
use Rattle.numa_reports.specs.Filled.{free_behind, nodes_of}
use Rattle.numa_reports.specs.Lying.{absent_nodes, spots_in, there_on}
use Rattle.numa_reports.specs.declared.prediction.RangePrediction.{RangePrediction}

-- what a range is said to have
abbrev pub Meaning : Type 1
Meaning = Run (Option PolicyRecord) → RangePrediction → Type 0

-- that a taker in one state was told of a range, which left it in another
abbrev pub Telling : Type 0 → Type 1
Telling T = T → Run (Option PolicyRecord) → RangePrediction → T → Type 0

-- that a taker in one state had no memory for a range
abbrev pub Lacking : Type 0 → Type 1
Lacking T = T → Run (Option PolicyRecord) → Type 0

-- the taker had no memory for one of the ranges, in some state
abbrev pub LacksOne : {T : Type 0} → Lacking T → List (Run (Option PolicyRecord)) → Type 0
LacksOne lacks [] = ⊥
LacksOne {T} lacks (range ∷ ranges) = ((state : T) × lacks state range) ⊎ LacksOne lacks ranges

-- the taker was told of the range once, and it is as meant
abbrev pub ToldOne : {T : Type 0} → Telling T → Meaning → Run (Option PolicyRecord) → T → T → Type 0
ToldOne told is_meant range old new =
    (said : RangePrediction) × is_meant range said × told old range said new

-- the taker was told of each range of the list once, in the list's order, and each is as meant
abbrev pub ToldEach : {T : Type 0} → Telling T → Meaning → List (Run (Option PolicyRecord))
    → T → T → Type 0
ToldEach told is_meant [] old new = old ≡ new
ToldEach {T} told is_meant (range ∷ ranges) old new = (between : T)
    × ToldOne told is_meant range old between × ToldEach told is_meant ranges between new

-- the policy that serves the task at the range's first page, and how many of its pages each node
-- has: those that are there, and as many as it has fewer free than before
pub record IsTakenBeside (machine : Hardware) (history : List Command)
    (placed : Option (Bor Laid)) (task : ℕ) (before after : List ℕ)
    (range : Run (Option PolicyRecord)) (said : RangePrediction) : Type 0 where
  pub policy : said.policy ≡ resolved_policy machine history task range.first
  pub counts : (node : ℕ) → node < 256
      → slice_index said.counts node ≡ there_on placed range.first range.pages node
      + (slice_index before node - slice_index after node)

-- what the range's pages take, once all pages of lower addresses have taken theirs; pages that are
-- there take nothing
abbrev pub IsFillingBeside : Hardware → List Command → Option (Bor Laid) → ℕ → ℕ
    → List ℕ → Meaning
IsFillingBeside machine history placed task cpu free range =
    IsTakenBeside machine history placed task
    (free_behind (absent_nodes (spots_in placed) (nodes_of machine history task cpu)) free 0
    range.first)
    (free_behind (absent_nodes (spots_in placed) (nodes_of machine history task cpu)) free 0
    (range.first + range.pages)) range

-- the same where no page is there
abbrev pub IsFilling : Hardware → List Command → ℕ → ℕ → List ℕ → Meaning
IsFilling machine history task cpu free = IsFillingBeside machine history None task cpu free
