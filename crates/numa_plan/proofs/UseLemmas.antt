-- Which numbers are used: those that a run or a task names.
use Rattle.std.proofs.Common.{◌≡◌, ◌≢◌, ℕ, zero, suc, ◌+◌, ◌<◌, Bool, cond, eq-eqb, Option, Some}
use Rattle.std.proofs.Common.{None, List, [], ◌∷◌, ◌++◌, length, get_or, take, refl, sym, ap, ◌∙◌}
use Rattle.std.proofs.Common.{arith}
use Rattle.std.specs.Prelude.{All, ◌↔◌, ◌==◌, count_by, slice_get}
use Rattle.std.specs.Map.{keys_of, values_of}
use Rattle.std.specs.Ordering.{nat_cmp}
use Rattle.std.proofs.lemmas.Bool.{ne_eqb}
use Rattle.std.proofs.lemmas.Cmp.{eq_by_cmp_equiv, nat_cmp_total}
use Rattle.std.proofs.lemmas.List.{take_more}
use Rattle.std.proofs.lemmas.List.Sums.{sum_by-append, sum_by-cons}
use Rattle.std.proofs.lemmas.Map.Entries.{lookup_from_place}
use Rattle.std.proofs.lemmas.Map.Keys.{IsDistinct-from_sorted}
use Rattle.numa_ranges.specs.declared.run.Run.{Run}
use Rattle.numa_plan.specs.Editing.{IsUnnamed}
use Rattle.numa_plan.specs.Meaning.{PlanData, is_number, number_of}
use Rattle.numa_plan.specs.Sound.{uses_of}
use Rattle.numa_plan.specs.TaskTable.{AreSorted}
use Rattle.numa_plan.proofs.BuildLemmas.{task-uses}
use Rattle.numa_plan.proofs.EditLemmas.{names, names-cons}

-- one element more is counted
pub count-next : {T : Type 0} (p : T → Bool) (xs : List T) (i : ℕ) (x : T) → i < length xs
    → x ≡ get_or xs i x → count_by p (take (i + 1) xs) ≡ count_by p (take i xs) + cond (p x) 1 0
count-next p xs i x lt is =
    ap (count_by p) (take_more xs i x lt ∙ ap (λ y. take i xs ++ y ∷ []) (sym is))
    ∙ omega (arith, sum_by-append (λ x. cond {A = ℕ} (p x) 1 0) (take i xs) (x ∷ []))

-- a run that names the number is counted
named-one : (number : ℕ) (value : Option ℕ) → value ≡ Some number
    → cond {A = ℕ} (is_number number value) 1 0 ≡ 1
named-one number value is = ap (λ (v : Option ℕ). cond {A = ℕ} (is_number number v) 1 0) is
    ∙ ap (λ (b : Bool). cond {A = ℕ} b 1 0) (eq-eqb number number refl)

none-named : (number : ℕ) (value : Option ℕ) → value ≢ Some number
    → cond {A = ℕ} (is_number number value) 1 0 ≡ 0
none-named number None ne = refl
none-named number (Some other) ne = ap (λ (b : Bool). cond {A = ℕ} b 1 0)
    (ne_eqb other number (λ e. ne (ap (λ (n : ℕ). Some n) e)))

runs-unnamed : (number : ℕ) (runs : List (Run (Option ℕ))) → names number runs ≡ 0
    → All (λ run. run.value ≢ Some number) runs
runs-unnamed number [] none k d lt = absurd (omega arith)
runs-unnamed number (run ∷ runs) none zero d lt =
    λ is. absurd (omega (arith, names-cons number run runs, named-one number run.value is, none))
runs-unnamed number (run ∷ runs) none (suc k) d lt =
    runs-unnamed number runs (omega (arith, names-cons number run runs, none)) k d (omega arith)

unnamed-runs : (number : ℕ) (runs : List (Run (Option ℕ)))
    → All (λ run. run.value ≢ Some number) runs → names number runs ≡ 0
unnamed-runs number [] all = refl
unnamed-runs number (run ∷ runs) all =
    omega (
      arith,
      names-cons number run runs,
      none-named number run.value (all 0 run (omega arith)),
      unnamed-runs number runs (λ k d lt. all (suc k) d (omega arith)),
    )

unnamed-tasks : (number : ℕ) (tasks : List (ℕ × ℕ))
    → ((i task other : ℕ) → slice_get tasks i ≡ Some (task, other) → other ≢ number)
    → count_by (λ other. other == number) (values_of tasks) ≡ 0
unnamed-tasks number [] all = refl
unnamed-tasks number (entry ∷ tasks) all =
    let head : cond {A = ℕ} (entry.1 == number) 1 0 ≡ 0 = ap (λ (b : Bool). cond {A = ℕ} b 1 0)
    (ne_eqb entry.1 number (all 0 entry.0 entry.1 refl)) in
    omega (
      arith,
      sum_by-cons (λ (other : ℕ). cond {A = ℕ} (other == number) 1 0) entry.1
          (values_of tasks),
      head,
      unnamed-tasks number tasks (λ i. all (suc i)),
    )

-- a number that counts no use is that of no run and no task
pub unnamed-unused : (plan : PlanData) (tasks : List (ℕ × ℕ)) (number uses : ℕ)
    → plan.tasks ≡ tasks → AreSorted tasks
    → uses ≡ uses_of plan.runs plan.tasks number → (uses ≡ 0) ↔ IsUnnamed plan number
unnamed-unused plan tasks number uses is sorted counted = (
  λ none. record {
    runs = runs-unnamed number plan.runs (omega (arith, counted, none));
    tasks = λ task named.
        absurd (omega (
          arith,
          counted,
          none,
          task-uses plan.runs plan.tasks task number
              (sym named),
        ));
  },
  λ unnamed. omega (
    arith,
    counted,
    unnamed-runs number plan.runs unnamed.runs,
    unnamed-tasks number plan.tasks (λ i task other at same. unnamed.tasks task
        (ap (λ (l : List (ℕ × ℕ)). number_of l task) is
        ∙ lookup_from_place (eq_by_cmp_equiv nat_cmp_total) tasks i task other
        (IsDistinct-from_sorted nat_cmp (keys_of tasks) sorted)
        (sym (ap (λ (l : List (ℕ × ℕ)). slice_get l i) is) ∙ at)
        ∙ ap (λ (n : ℕ). Some n) same)),
  ),
)
