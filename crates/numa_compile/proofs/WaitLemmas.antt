-- Runs that wait, put behind those of a plan.
use Rattle.std.proofs.Common.{◌≡◌, ℕ, suc, Option, List, [], ◌∷◌, ◌++◌, length, All, IsSome, refl}
use Rattle.std.proofs.Common.{sym, ap, ◌∙◌, arith}
use Rattle.std.proofs.lemmas.List.{take_all, drop_all, append-nil}
use Rattle.std.specs.List.{slice_range, splice}
use Rattle.std.specs.Option.{ForSome}
use Rattle.numa_ranges.specs.declared.run.Run.{Run}
use Rattle.numa_plan.specs.Editing.{with_uses, with_uses_less, with_runs}
use Rattle.numa_plan.specs.Meaning.{PlanData}
use Rattle.numa_plan.specs.Slots.{kept_in, rule_in, with_use, with_use_less}
use Rattle.numa_plan.specs.declared.slots.Slot.{Slot}
use Rattle.numa_plan.proofs.SlotLemmas.{length-used, length-unused}
use Rattle.numa_compile.specs.Copies.{HasRunsMore}

-- runs put in behind the last
pub spliced-end : (xs ys : List (Run (Option ℕ))) (n : ℕ) → n ≡ length xs → splice xs n n ys ≡ xs
    ++ ys
spliced-end xs ys n is =
    (λ i. take_all n xs (omega (arith, is)) i ++ (ys ++ drop_all n xs (omega (arith, is)) i))
    ∙ ap (λ (zs : List (Run (Option ℕ))). xs ++ zs) (append-nil ys)

-- what holds of all runs holds of the last ones
pub named-behind : (slots : List Slot) (xs ys : List (Run (Option ℕ)))
    → All (λ run. ForSome run.value (λ number. IsSome (rule_in slots number))) (xs ++ ys)
    → All (λ run. ForSome run.value (λ number. IsSome (rule_in slots number))) ys
named-behind slots [] ys all = all
named-behind slots (x ∷ xs) ys all =
    named-behind slots xs ys (λ k d lt. all (suc k) d (omega arith))

length-all_used : (slots : List Slot) (runs : List (Run (Option ℕ))) → length (with_uses slots runs)
    ≡ length slots
length-all_used slots [] = refl
length-all_used slots (run ∷ runs) = length-all_used (with_use slots run.value) runs
    ∙ length-used slots run.value

length-all_unused : (slots : List Slot) (runs : List (Run (Option ℕ)))
    → length (with_uses_less slots runs) ≡ length slots
length-all_unused slots [] = refl
length-all_unused slots (run ∷ runs) = length-all_unused (with_use_less slots run.value) runs
    ∙ length-unused slots run.value

-- the plan with runs put in
pub spliced-more : (plan new : PlanData) (from to : ℕ) (runs : List (Run (Option ℕ)))
    → new ≡ with_runs plan from to runs
    → ((number : ℕ) → kept_in new.slots number ≡ kept_in plan.slots number) → HasRunsMore plan new
spliced-more plan new from to runs is kept = record {
  rest = is ∙ (λ i. record plan { runs = (sym is i).runs; slots = (sym is i).slots });
  kept = kept;
  as_many = ap (λ (p : PlanData). length p.slots) is
      ∙ length-all_unused _ (slice_range plan.runs from to) ∙ length-all_used plan.slots runs;
}

-- the same plan
pub same-runs : (plan : PlanData) → HasRunsMore plan plan
same-runs plan = record { rest = refl; kept = λ number. refl; as_many = refl }
