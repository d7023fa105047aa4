-- Steps that contracts count.
use Rattle.std.specs.Prelude.{◌≡◌, ℕ, ◌+◌, ◌-◌, ◌*◌, ◌^◌, ◌≤◌}
use Rattle.numa_plan.specs.declared.steps.Steps.{Steps}

-- comparisons of a page with the first page of a run, runs that were written, and rules that were
-- written
abbrev pub Counted : Type 0
Counted = Steps

abbrev pub no_steps : Counted
no_steps = record { comparisons = 0; runs = 0; rules = 0 }

abbrev pub one_comparison : Counted → Counted
one_comparison steps = record steps { comparisons = steps.comparisons + 1 }

abbrev pub one_run : Counted → Counted
one_run steps = record steps { runs = steps.runs + 1 }

abbrev pub more_runs : ℕ → Counted → Counted
more_runs runs steps = record steps { runs = steps.runs + runs }

abbrev pub one_rule : Counted → Counted
one_rule steps = record steps { rules = steps.rules + 1 }

-- at most as many comparisons more as the number of runs has binary digits, which is the logarithm
-- of (runs + 1) to the base 2, rounded up; and nothing else
pub record FindsQuickly (old new : Counted) (runs : ℕ) : Type 0 where
  pub compares : old.comparisons ≤ new.comparisons
  pub few : 2 ^ (new.comparisons - old.comparisons) ≤ 2 * runs + 1
  pub writes_no_run : new.runs ≡ old.runs
  pub writes_no_rule : new.rules ≡ old.rules

-- at most so many comparisons more, and nothing else
pub record LooksAtMost (most : ℕ) (old new : Counted) : Type 0 where
  pub compares : old.comparisons ≤ new.comparisons
  pub few : new.comparisons ≤ old.comparisons + most
  pub writes_no_run : new.runs ≡ old.runs
  pub writes_no_rule : new.rules ≡ old.rules

-- at most three comparisons more than such a search makes, and nothing else
pub record FindsByInterpolation (old new : Counted) (runs : ℕ) : Type 0 where
  pub compares : old.comparisons ≤ new.comparisons
  pub few : 2 ^ (new.comparisons - old.comparisons) ≤ 2 ^ 3 * (2 * runs + 1)
  pub writes_no_run : new.runs ≡ old.runs
  pub writes_no_rule : new.rules ≡ old.rules

-- at most as many comparisons more as two such searches make, and nothing else
pub record FindsTwice (old new : Counted) (runs : ℕ) : Type 0 where
  pub compares : old.comparisons ≤ new.comparisons
  pub few : 2 ^ (new.comparisons - old.comparisons) ≤ (2 * runs + 1) * (2 * runs + 1)
  pub writes_no_run : new.runs ≡ old.runs
  pub writes_no_rule : new.rules ≡ old.rules
