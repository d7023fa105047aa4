-- Lists that come again after the turns of a cycle.
use Rattle.std.specs.Prelude.{◌≡◌, ℕ, ◌+◌, ◌%◌, ◌<◌, Option, Some, None, length, min}
use Rattle.numa_machine.specs.Sizes.{round_of}
use Rattle.numa_ranges.specs.declared.run.Run.{Run}
use Rattle.numa_plan.specs.Meaning.{PlanData, planned_list, rule_for}
use Rattle.numa_plan.specs.Rows.{Key, Faulting, Fixed, InTurns, RuleData}
use Rattle.numa_plan.specs.declared.plan.turns.PageTurns.{PageTurns}

-- after how many pages the rows come again, of so many pages with the indexes from one on
abbrev pub cycle_by : Key → ℕ → ℕ → ℕ
cycle_by Faulting index pages = 1
cycle_by Fixed index pages = 1
cycle_by (InTurns cycle) index pages = round_of (length cycle) index pages

abbrev pub cycle_of : RuleData → ℕ → ℕ → ℕ
cycle_of rule index pages = cycle_by rule.key index pages

-- what is said of a run: after how many of its pages the lists come again
pub record IsTurns (plan : PlanData) (task : ℕ) (run : Run (Option ℕ)) (turns : PageTurns)
    : Type 0 where
  pub first : turns.first ≡ run.first
  pub pages : turns.pages ≡ run.pages
  pub cycle : turns.cycle
      ≡ min (cycle_of (rule_for plan task run.value) run.index run.pages) run.pages
  pub again : (cpu k : ℕ) → k < run.pages → planned_list plan task (run.first + k) cpu
      ≡ planned_list plan task (run.first + k % turns.cycle) cpu

-- the same of a run, if there is one
abbrev pub TellsTurns : PlanData → ℕ → Option (Run (Option ℕ)) → Option PageTurns → Type 0
TellsTurns plan task None told = told ≡ None
TellsTurns plan task (Some run) told = (turns : PageTurns) × (told ≡ Some turns)
    × IsTurns plan task run turns
