-- Pages whose lists come again after a period, and the pages of a cycle.
use Rattle.std.specs.Prelude.{◌≡◌, ℕ, ◌+◌, ◌-◌, ◌<◌, ◌≤◌, ◌%◌, Option, Some, None, List}
use Rattle.numa_mask.specs.NodeSet.{weight_of}
use Rattle.numa_machine.specs.Sizes.{round_of}
use Rattle.numa_machine.specs.Weights.{total_weight}
use Rattle.numa_mode.specs.Policy.{PolicyRecord}
use Rattle.numa_mode.specs.declared.modes.Mode.{Mode}
use Rattle.numa_mode.specs.declared.modes.Mode.TheVariants.{Default, Preferred, Bind, Interleave}
use Rattle.numa_mode.specs.declared.modes.Mode.TheVariants.{Local, PreferredMany}
use Rattle.numa_mode.specs.declared.modes.Mode.TheVariants.{WeightedInterleave}
use Rattle.numa_space.specs.Lists.{Setting, list_for}

-- of this many pages from one on, each has the list of the page one period later, if that is one of
-- them
abbrev pub Repeats : (ℕ → List ℕ) → ℕ → ℕ → ℕ → Type 0
Repeats nodes first pages period = (page : ℕ) → first ≤ page → page + period < first + pages
    → nodes (page + period) ≡ nodes page

-- after how many pages the lists of a mode come again, of so many pages with the indexes from one
-- on
abbrev pub period_by : (ℕ → ℕ) → ℕ → ℕ → Mode → ℕ → ℕ
period_by weight index pages Default set = 1
period_by weight index pages Preferred set = 1
period_by weight index pages Bind set = 1
period_by weight index pages Interleave set = round_of (weight_of set) index pages
period_by weight index pages Local set = 1
period_by weight index pages PreferredMany set = 1
period_by weight index pages WeightedInterleave set =
    round_of (total_weight weight set) index pages

-- the same of a policy; none is local
abbrev pub period_for : (ℕ → ℕ) → Option PolicyRecord → ℕ → ℕ → ℕ
period_for weight None index pages = 1
period_for weight (Some r) index pages = period_by weight index pages r.spec.mode r.effective

-- the lists of a policy repeat after this many pages, of so many pages with the indexes from one
-- on
abbrev pub IsPeriod : Setting → Option PolicyRecord → ℕ → ℕ → ℕ → Type 0
IsPeriod setting policy index pages period = (cpu k : ℕ) → k + period < pages
    → list_for setting policy cpu (index + k + period) ≡ list_for setting policy cpu (index + k)

-- the first page from one on that has this place in a cycle of so many nodes
abbrev pub page_with : ℕ → ℕ → ℕ → ℕ
page_with count page place = page + (place + count - page % count) % count
