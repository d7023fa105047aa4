-- What the building calls keep.
use Rattle.std.proofs.Common.{◌≡◌, ℕ, ◌+◌, ◌-◌, ◌<◌, Bool, true, false, cond, eq-eqb, Option, Some}
use Rattle.std.proofs.Common.{None, List, [], ◌∷◌, ◌++◌, length, refl, sym, ap, ◌∙◌, arith, inl}
use Rattle.std.proofs.Common.{inr}
use Rattle.std.specs.Prelude.{IsSome, is_some, count_by, unwrap_or, option_and_then, ◌==◌}
use Rattle.std.specs.Prelude.{if◌then◌else◌}
use Rattle.std.proofs.lemmas.Cmp.{nat_cmp_total}
use Rattle.std.specs.Ordering.{nat_cmp}
use Rattle.std.specs.BTreeMap.{insert_entry, is_at}
use Rattle.std.specs.Map.{keys_of, lookup, remove_entry}
use Rattle.std.proofs.lemmas.List.Sums.{sum_by-append, sum_by-cons}
use Rattle.std.proofs.lemmas.Map.Entries.{sum_by-insert_entry, sum_by-remove_entry}
use Rattle.std.specs.List.Sorted.{IsStrictlySortedBy}
use Rattle.std.specs.Option.{option_map, ForSome}
use Rattle.numa_ranges.specs.Runs.{page_at, in_pages}
use Rattle.numa_ranges.specs.declared.run.Run.{Run}
use Rattle.numa_plan.specs.Rows.{Kept, RuleData, HasRows, row_of}
use Rattle.numa_plan.specs.Slots.{slot_at, rule_of_slot, uses_of_slot, rule_in, uses_in, put_slot}
use Rattle.numa_plan.specs.Slots.{with_use, with_use_less, IsLowestFree}
use Rattle.numa_plan.specs.Meaning.{PlanData, number_of, number_for, rule_for, planned_list}
use Rattle.numa_plan.specs.Meaning.{is_number}
use Rattle.numa_plan.specs.Building.{with_rule}
use Rattle.numa_plan.specs.Sound.{IsPlan, uses_of}
use Rattle.numa_plan.specs.declared.slots.Slot.{Slot}
use Rattle.numa_plan.specs.declared.slots.Slot.TheVariants.{Free, Taken}
use Rattle.numa_plan.proofs.SlotLemmas.{same_or_not, put-same, put-other, length-put, ends-put}
use Rattle.numa_plan.proofs.SlotLemmas.{rule_in-used, rule_in-unused, length-used, length-unused}
use Rattle.numa_plan.proofs.SlotLemmas.{uses_in-used, uses_in-unused}

-- a free slot counts no use
free-unused : (slot : Slot) → rule_of_slot slot ≡ None → uses_of_slot slot ≡ 0
free-unused Free free = refl
free-unused (Taken uses kept) free =
    absurd (let odd : ◌≡◌ {A = Option RuleData} (Some kept.rule) None = free in cc)

-- the lowest free slot is written
pub keeps_with_rule : (nodes : ℕ) (runs : List (Run (Option ℕ))) (slots : List Slot) (low : ℕ)
    (tasks : List (ℕ × ℕ)) (local : RuleData) (number : ℕ) (kept : Kept)
    → IsPlan nodes runs slots low tasks local → IsLowestFree slots number → HasRows nodes kept.rule
    → IsPlan nodes runs (put_slot slots number (Taken 0 kept)) (number + 1) tasks local
keeps_with_rule nodes runs slots low tasks local number kept plan lowest has = record {
  counted = λ k. elim (same_or_not k number) [
    | inl e ↦ rw e (ap uses_of_slot here ∙ sym (free-unused (slot_at slots number) lowest.free)
        ∙ plan.counted number)
    | inr ne ↦ ap uses_of_slot (there k ne) ∙ plan.counted k
  ];
  rows = λ k r is. elim (same_or_not k number) [
    | inl e ↦
        let own : rule_in (put_slot slots number (Taken 0 kept)) k ≡ Some kept.rule =
        rw e (ap rule_of_slot here) in
        let same : r ≡ kept.rule = cc in
        rw same has
    | inr ne ↦ plan.rows k r (sym (ap rule_of_slot (there k ne)) ∙ is)
  ];
  local_rows = plan.local_rows;
  within = omega (arith, (length-put slots number (Taken 0 kept) lowest.within).1);
  taken_below = λ k lt. elim (same_or_not k number) [
    | inl e ↦ rw e (ap (λ s. is_some (rule_of_slot s)) here)
    | inr ne ↦ ap (λ s. is_some (rule_of_slot s)) (there k ne) ∙ lowest.taken_below k (omega arith)
  ];
  ends = ends-put slots number 0 kept lowest.within plan.ends;
}
  where
    here : slot_at (put_slot slots number (Taken 0 kept)) number ≡ Taken 0 kept
    here = put-same slots number (Taken 0 kept) lowest.within

    there : (k : ℕ) → (k ≡ number → ⊥) → slot_at (put_slot slots number (Taken 0 kept)) k
        ≡ slot_at slots k
    there k ne = put-other slots number k (Taken 0 kept) lowest.within ne

-- the rules stay, and the uses are counted anew
pub keeps : (nodes : ℕ) (runs runs' : List (Run (Option ℕ))) (slots slots' : List Slot) (low : ℕ)
    (tasks tasks' : List (ℕ × ℕ)) (local : RuleData) → IsPlan nodes runs slots low tasks local
    → ((k : ℕ) → rule_in slots' k ≡ rule_in slots k) → length slots' ≡ length slots
    → ((k : ℕ) → uses_in slots' k ≡ uses_of runs' tasks' k)
    → IsPlan nodes runs' slots' low tasks' local
keeps nodes runs runs' slots slots' low tasks tasks' local plan same long counts = record {
  counted = counts;
  rows = λ k r is. plan.rows k r (sym (same k) ∙ is);
  local_rows = plan.local_rows;
  within = omega (arith, plan.within);
  taken_below = λ k lt. ap is_some (same k) ∙ plan.taken_below k lt;
  ends = λ last is. ap is_some (same last) ∙ plan.ends last (sym long ∙ is);
}

-- ---- how many runs and tasks name a number

pub uses_in-one : (slots : List Slot) (named : Option ℕ) (k : ℕ)
    → ForSome named (λ number. IsSome (rule_in slots number)) → uses_in (with_use slots named) k
    ≡ uses_in slots k + cond (is_number k named) 1 0
uses_in-one slots None k there = omega arith
uses_in-one slots (Some number) k there = uses_in-used slots number k (there number refl)

pub uses_in-one_less : (slots : List Slot) (named : Option ℕ) (k : ℕ)
    → uses_in (with_use_less slots named) k ≡ uses_in slots k - cond (is_number k named) 1 0
uses_in-one_less slots None k = omega arith
uses_in-one_less slots (Some number) k = uses_in-unused slots number k

count-push : {X : Type 0} (p : X → Bool) (xs : List X) (x : X) → count_by p (xs ++ x ∷ [])
    ≡ count_by p xs + cond (p x) 1 0
count-push p xs x = omega (arith, sum_by-append (λ x. cond {A = ℕ} (p x) 1 0) xs (x ∷ []))

uses-give : (runs : List (Run (Option ℕ))) (tasks : List (ℕ × ℕ)) (task number k : ℕ)
    (had : Option ℕ) → IsStrictlySortedBy nat_cmp (keys_of tasks) → had ≡ number_of tasks task
    → uses_of runs (insert_entry nat_cmp tasks task number) k + unwrap_or
    (option_map (λ n. cond {A = ℕ} (n == k) 1 0) had) 0 ≡ uses_of runs tasks k + cond (number == k)
    1 0
uses-give runs tasks task number k had sorted is =
    let sums = sum_by-insert_entry (λ n. cond {A = ℕ} (n == k) 1 0) nat_cmp_total tasks task number
    sorted in
    let same : ◌≡◌ {A = ℕ} (unwrap_or (option_map (λ n. cond {A = ℕ} (n == k) 1 0) had) 0)
    (unwrap_or (option_map (λ n. cond {A = ℕ} (n == k) 1 0)
    (lookup (is_at (nat_cmp task)) tasks)) 0) =
    ap (λ (o : Option ℕ). unwrap_or (option_map (λ n. cond {A = ℕ} (n == k) 1 0) o) 0) is in
    omega (arith, sums, same)

uses-take : (runs : List (Run (Option ℕ))) (tasks : List (ℕ × ℕ)) (task k : ℕ) (had : Option ℕ)
    → had ≡ number_of tasks task
    → uses_of runs (remove_entry (is_at (nat_cmp task)) tasks) k + unwrap_or
    (option_map (λ n. cond {A = ℕ} (n == k) 1 0) had) 0 ≡ uses_of runs tasks k
uses-take runs tasks task k had is =
    let sums = sum_by-remove_entry (λ n. cond {A = ℕ} (n == k) 1 0) (is_at (nat_cmp task)) tasks in
    let same : ◌≡◌ {A = ℕ} (unwrap_or (option_map (λ n. cond {A = ℕ} (n == k) 1 0) had) 0)
    (unwrap_or (option_map (λ n. cond {A = ℕ} (n == k) 1 0)
    (lookup (is_at (nat_cmp task)) tasks)) 0) =
    ap (λ (o : Option ℕ). unwrap_or (option_map (λ n. cond {A = ℕ} (n == k) 1 0) o) 0) is in
    omega (arith, sums, same)

-- the number of a task's rule is used
pub task-uses : (runs : List (Run (Option ℕ))) (tasks : List (ℕ × ℕ)) (task number : ℕ)
    → Some number ≡ number_of tasks task → 0 < uses_of runs tasks number
task-uses runs tasks task number is =
    let one : cond {A = ℕ} (number == number) 1 0 ≡ 1 = ap (λ (b : Bool). cond {A = ℕ} b 1 0)
    (eq-eqb number number refl) in
    omega (arith, uses-take runs tasks task number (Some number) is, one)

-- ---- the calls

pub keeps_with_run : (nodes : ℕ) (runs : List (Run (Option ℕ))) (slots : List Slot) (low : ℕ)
    (tasks : List (ℕ × ℕ)) (local : RuleData) (run : Run (Option ℕ))
    → IsPlan nodes runs slots low tasks local
    → ForSome run.value (λ number. IsSome (rule_in slots number))
    → IsPlan nodes (runs ++ run ∷ []) (with_use slots run.value) low tasks local
keeps_with_run nodes runs slots low tasks local run plan named =
    keeps nodes runs (runs ++ run ∷ []) slots (with_use slots run.value) low tasks tasks local plan
    (rule_in-used slots run.value) (length-used slots run.value) (λ k.
    omega (
      arith,
      uses_in-one slots run.value k named,
      plan.counted k,
      count-push (λ (r : Run (Option ℕ)). is_number k r.value) runs run,
    ))

-- a task gets a rule, in place of the one that it had
pub keeps_given : (nodes : ℕ) (runs : List (Run (Option ℕ))) (slots : List Slot) (low : ℕ)
    (tasks : List (ℕ × ℕ)) (local : RuleData) (task number : ℕ) (had : Option ℕ)
    → IsPlan nodes runs slots low tasks local → IsStrictlySortedBy nat_cmp (keys_of tasks)
    → had ≡ number_of tasks task → IsSome (rule_in slots number)
    → IsPlan nodes runs (with_use_less (with_use slots (Some number)) had) low
    (insert_entry nat_cmp tasks task number) local
keeps_given nodes runs slots low tasks local task number None plan sorted is some =
    keeps nodes runs runs slots (with_use slots (Some number)) low tasks
    (insert_entry nat_cmp tasks task number) local plan (rule_in-used slots (Some number))
    (length-used slots (Some number)) (λ k.
    omega (
      arith,
      uses_in-used slots number k some,
      plan.counted k,
      uses-give runs tasks task number k None sorted is,
    ))
keeps_given nodes runs slots low tasks local task number (Some had) plan sorted is some =
    keeps nodes runs runs slots (with_use_less (with_use slots (Some number)) (Some had)) low tasks
    (insert_entry nat_cmp tasks task number) local plan
    (λ k. rule_in-unused (with_use slots (Some number)) (Some had) k
    ∙ rule_in-used slots (Some number) k)
    (length-unused (with_use slots (Some number)) (Some had) ∙ length-used slots (Some number))
    (λ k. omega (
      arith,
      uses_in-unused (with_use slots (Some number)) had k,
      uses_in-used slots number k some,
      plan.counted k,
      uses-give runs tasks task number k (Some had) sorted is,
    ))

-- a task's rule is taken away, if it had one
pub keeps_taken : (nodes : ℕ) (runs : List (Run (Option ℕ))) (slots : List Slot) (low : ℕ)
    (tasks : List (ℕ × ℕ)) (local : RuleData) (task : ℕ) (had : Option ℕ)
    → IsPlan nodes runs slots low tasks local → had ≡ number_of tasks task
    → IsPlan nodes runs (with_use_less slots had) low (remove_entry (is_at (nat_cmp task)) tasks)
    local
keeps_taken nodes runs slots low tasks local task None plan is =
    keeps nodes runs runs slots slots low tasks (remove_entry (is_at (nat_cmp task)) tasks) local
    plan (λ k. refl) refl
    (λ k. omega (arith, plan.counted k, uses-take runs tasks task k None is))
keeps_taken nodes runs slots low tasks local task (Some had) plan is =
    keeps nodes runs runs slots (with_use_less slots (Some had)) low tasks
    (remove_entry (is_at (nat_cmp task)) tasks) local plan (rule_in-unused slots (Some had))
    (length-unused slots (Some had)) (λ k.
    omega (
      arith,
      uses_in-unused slots had k,
      plan.counted k,
      uses-take runs tasks task k (Some had)
          is,
    ))

-- ---- a new rule changes no list

-- the number that a page's run names is named by a run
page_at-names : (runs : List (Run (Option ℕ))) (page index number : ℕ)
    → page_at runs page ≡ Some (index, Some number)
    → 0 < count_by (λ run. is_number number run.value) runs
page_at-names [] page index number is =
    absurd (let odd : ◌≡◌ {A = Option (ℕ × Option ℕ)} None (Some (index, Some number)) = is in cc)
page_at-names (run ∷ runs) page index number is = go (in_pages run.first run.pages page)
    (λ e. page_at-names runs page index number e) is
  where
    all : count_by (λ run. is_number number run.value) (run ∷ runs)
        ≡ cond (is_number number run.value) 1 0 + count_by (λ run. is_number number run.value) runs
    all = sum_by-cons (λ (run : Run (Option ℕ)). cond {A = ℕ} (is_number number run.value) 1 0) run
        runs

    go : (b : Bool)
        → (page_at runs page ≡ Some (index, Some number)
        → 0 < count_by (λ run. is_number number run.value) runs)
        → ◌≡◌ {A = Option (ℕ × Option ℕ)}
        (if b then Some (run.index + (page - run.first), run.value) else page_at runs page)
        (Some (index, Some number)) → 0 < count_by (λ run. is_number number run.value) (run ∷ runs)
    go true later e =
        let value : run.value ≡ Some number = ap (option_and_then (λ (p : ℕ × Option ℕ). p.1)) e in
        let one : cond {A = ℕ} (is_number number run.value) 1 0 ≡ 1 =
        ap (λ (v : Option ℕ). cond {A = ℕ} (is_number number v) 1 0) value
        ∙ ap (λ (b : Bool). cond {A = ℕ} b 1 0) (eq-eqb number number refl) in
        omega (arith, all, one)
    go false later e = omega (arith, all, later e)

-- the number that serves a page for a task is used
served-uses : (runs : List (Run (Option ℕ))) (tasks : List (ℕ × ℕ)) (task page index number : ℕ)
    (value : Option ℕ) → page_at runs page ≡ Some (index, value) → number_for tasks task value
    ≡ Some number → 0 < uses_of runs tasks number
served-uses runs tasks task page index number None is named =
    task-uses runs tasks task number (sym named)
served-uses runs tasks task page index number (Some own) is named =
    omega (
      arith,
      page_at-names runs page index number
          (is ∙ ap (λ (v : Option ℕ). Some (index, v)) named),
    )

-- a plan whose used rules are in other slots as in its own has the same lists
pub lists-kept : (plan : PlanData) (slots : List Slot)
    → ((named : ℕ) → 0 < uses_of plan.runs plan.tasks named
    → rule_in slots named ≡ rule_in plan.slots named)
    → (task page cpu : ℕ) → planned_list (record plan { slots = slots }) task page cpu
    ≡ planned_list plan task page cpu
lists-kept plan slots kept task page cpu = go (page_at plan.runs page) refl
  where
    serves : (o : Option ℕ)
        → ((named : ℕ) → o ≡ Some named → 0 < uses_of plan.runs plan.tasks named)
        → option_and_then (rule_in slots) o ≡ option_and_then (rule_in plan.slots) o
    serves None some = refl
    serves (Some named) some = kept named (some named refl)

    go : (o : Option (ℕ × Option ℕ)) → page_at plan.runs page ≡ o
        → option_map (λ at. row_of (rule_for (record plan { slots = slots }) task at.1) cpu at.0) o
        ≡ option_map (λ at. row_of (rule_for plan task at.1) cpu at.0) o
    go None is = refl
    go (Some at) is =
        ap (λ (o : Option RuleData). Some (row_of (unwrap_or o plan.local) cpu at.0))
        (serves (number_for plan.tasks task at.1)
        (λ named here. served-uses plan.runs plan.tasks task page at.0 named at.1 is here))

-- the lowest free slot serves no page, so that a rule written there changes no list
pub lists-with_rule : (plan : PlanData) (low number : ℕ) (kept : Kept)
    → IsPlan plan.nodes plan.runs plan.slots low plan.tasks plan.local
    → IsLowestFree plan.slots number
    → (task page cpu : ℕ) → planned_list (with_rule plan number kept) task page cpu
    ≡ planned_list plan task page cpu
lists-with_rule plan low number kept sound lowest =
    lists-kept plan (put_slot plan.slots number (Taken 0 kept)) (λ named some.
    ap rule_of_slot (put-other plan.slots number named (Taken 0 kept) lowest.within (λ is.
    let none : uses_in plan.slots named ≡ 0 = ap (uses_in plan.slots) is
    ∙ free-unused (slot_at plan.slots number) lowest.free in
    absurd (omega (arith, sound.counted named, none)))))
