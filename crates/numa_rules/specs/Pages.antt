-- What is asked of the pages of a span.
use Rattle.std.specs.Prelude.{ℕ, ◌-◌, ◌&&◌, nat_lt, Bool, Option, Some, is_some}
use Rattle.numa_mode.specs.Policy.{PolicyRecord}
use Rattle.numa_ranges.specs.declared.run.Run.{Run}
use Rattle.numa_space.specs.Refusals.{has_policy, takes_no_home}
use Rattle.numa_rules.specs.declared.span.SpanTest.{SpanTest}
use Rattle.numa_rules.specs.declared.span.SpanTest.TheVariants.{IsMapped, HasPolicy, TakesNoHome}

-- whether a page passes a test
abbrev pub passes : SpanTest → Option (ℕ × Option PolicyRecord) → Bool
passes IsMapped = is_some
passes HasPolicy = has_policy
passes TakesNoHome = takes_no_home

-- whether a run reaches into the pages from `first` up to `end`, and its pages pass the test
abbrev pub reaches : SpanTest → ℕ → ℕ → Run (Option PolicyRecord) → Bool
reaches test first end run = nat_lt run.first end &&
    (nat_lt (first - run.first) run.pages && passes test (Some (0, run.value)))
