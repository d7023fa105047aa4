-- Counts that don't fall.
use Rattle.std.proofs.Common.{◌≡◌, ℕ, ap, arith}
use Rattle.numa_plan.specs.Counted.{Counted, more_runs}
use Rattle.numa_compile.specs.Recompiling.{Rises, WritesRules}

pub rises-none : (steps : Counted) → Rises steps steps
rises-none steps = record { compares = omega arith; runs = omega arith; rules = omega arith }

pub rises-same : (old new : Counted) → new ≡ old → Rises old new
rises-same old new same = record {
  compares = omega (arith, ap (λ (s : Counted). s.comparisons) same);
  runs = omega (arith, ap (λ (s : Counted). s.runs) same);
  rules = omega (arith, ap (λ (s : Counted). s.rules) same);
}

pub rises-both : (old next new : Counted) → Rises old next → Rises next new → Rises old new
rises-both old next new one two = record {
  compares = omega (arith, one.compares, two.compares);
  runs = omega (arith, one.runs, two.runs);
  rules = omega (arith, one.rules, two.rules);
}

pub rises-rules : (old new : Counted) (few : ℕ) → WritesRules few old new → Rises old new
rises-rules old new few writes =
    record {
      compares = writes.compares;
      runs = omega (arith, writes.runs);
      rules =
          writes.rules_rise;
    }

pub rises-runs : (old new : Counted) (runs : ℕ) → new ≡ more_runs runs old → Rises old new
rises-runs old new runs written = record {
  compares = omega (arith, ap (λ (s : Counted). s.comparisons) written);
  runs = omega (arith, ap (λ (s : Counted). s.runs) written);
  rules = omega (arith, ap (λ (s : Counted). s.rules) written);
}
