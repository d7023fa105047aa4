-- Limits that fit, and limits that do not.
use Rattle.std.specs.Prelude.{◌≡◌, ◌≤◌, ℕ, nat_le, ◌&&◌, Bool, true, false, refl}
use Rattle.std.proofs.Common.{arith}
use Rattle.std.proofs.lemmas.Bool.Decides.{nat_tests}
use Rattle.numa_run.specs.Machines.{limits_fit}

pub fit : (ranges tasks : ℕ) → ranges ≤ 65536 → tasks ≤ 1024 → limits_fit ranges tasks ≡ true
fit ranges tasks r t =
    let few_ranges : nat_le ranges 65536 ≡ true = grind (arith, nat_tests) in
    let few_tasks : nat_le tasks 1024 ≡ true = grind (arith, nat_tests) in
    rw (few_ranges, few_tasks) refl

pub exceed : (ranges tasks : ℕ) → ((ranges ≤ 65536) × (tasks ≤ 1024) → false ≡ true)
    → limits_fit ranges tasks ≡ false
exceed ranges tasks not_both = by_tests (nat_le ranges 65536) (nat_le tasks 1024) refl refl
  where
    by_tests : (a b : Bool) → nat_le ranges 65536 ≡ a → nat_le tasks 1024 ≡ b → (a && b) ≡ false
    by_tests true true p q =
        let few_ranges : ranges ≤ 65536 = grind (arith, nat_tests) in
        let few_tasks : tasks ≤ 1024 = grind (arith, nat_tests) in
        let both : false ≡ true = not_both (few_ranges, few_tasks) in cc
    by_tests true false p q = refl
    by_tests false b p q = refl
