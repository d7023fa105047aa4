-- Where pages would go, if a task touched them now from a node.
use Rattle.std.specs.Prelude.{◌≡◌, ℕ, ◌<◌, Option, List, slice_index}
use Rattle.numa_machine.specs.Machine.{Hardware}
use Rattle.numa_mode.specs.Policy.{PolicyRecord}
use Rattle.numa_ranges.specs.declared.run.Run.{Run}
use Rattle.numa_space.specs.Pages.{resolved_policy}
use Rattle.numa_requests.specs.declared.command.Command.{Command}
use Rattle.numa_compile.specs.Spans.{meant_count}
use Rattle.numa_placed.specs.declared.spot.Spot.{Spot}
use Rattle.numa_placed.specs.declared.spot.Spot.TheVariants.{Nowhere}
use Rattle.numa_reports.specs.Lying.{AreLying}
use Rattle.numa_reports.specs.declared.prediction.RangePrediction.{RangePrediction}

-- no node has a page
abbrev pub AreNone : List ℕ → Type 0
AreNone counts = (node : ℕ) → node < 256 → slice_index counts node ≡ 0

-- each node's count is that of the mapped pages of the span whose fallback list begins with it
abbrev pub AreFirsts : Hardware → List Command → ℕ → ℕ → ℕ → ℕ → List ℕ → Type 0
AreFirsts machine history task first pages cpu counts =
    (node : ℕ) → node < 256
    → slice_index counts node ≡ meant_count machine history task first pages cpu node

-- the policy that serves the task at the range's first page, and how many of its pages lie on each
-- node once it touched them
pub record IsLying (machine : Hardware) (history : List Command) (spots : ℕ → Spot) (task cpu : ℕ)
    (range : Run (Option PolicyRecord)) (said : RangePrediction) : Type 0 where
  pub policy : said.policy ≡ resolved_policy machine history task range.first
  pub counts : AreLying machine history spots task range.first range.pages cpu said.counts

-- where no page is there yet: how many of its pages each node is the first for
abbrev pub IsPrediction : Hardware → List Command → ℕ → ℕ → Run (Option PolicyRecord)
    → RangePrediction → Type 0
IsPrediction machine history task cpu =
    IsLying machine history (λ page. Nowhere) task cpu
