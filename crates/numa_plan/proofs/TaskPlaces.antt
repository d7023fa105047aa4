-- What an edit at a task's place makes of the sorted table of tasks' rule numbers.
use Rattle.std.proofs.Common.{◌≡◌, ◌≢◌, ℕ, zero, suc, ◌<◌, ◌≤◌, ◌+◌, Option, Some, None, List, []}
use Rattle.std.proofs.Common.{◌∷◌, length, get_or, refl, sym, ap, ◌∙◌, arith, subst, cond, true}
use Rattle.std.proofs.Common.{false, Bool, Ordering, Less, Equal, Greater}
use Rattle.std.specs.Cmp.{IsEquivalence}
use Rattle.std.specs.Prelude.{slice_get, slice_set}
use Rattle.std.specs.BTreeMap.{insert_entry, is_at}
use Rattle.std.specs.List.{AllByRecursion, insert, remove}
use Rattle.std.specs.List.Sorted.{IsNonDecreasingBy, IsStrictlySortedBy}
use Rattle.std.specs.Map.{keys_of, remove_entry}
use Rattle.std.specs.Ordering.{nat_cmp, is_eq, match_ordering, eq_by_cmp}
use Rattle.std.proofs.lemmas.Bool.Decides.{nat_tests}
use Rattle.std.proofs.lemmas.Cmp.{nat_cmp_total, ranked, eq_by_cmp_equiv}
use Rattle.std.proofs.lemmas.Map.{lookup-none, lookup-remove_entry}
use Rattle.std.proofs.lemmas.Map.Entries.{none_below_head}
use Rattle.std.proofs.lemmas.Map.Keys.{IsDistinct-from_sorted}
use Rattle.numa_plan.specs.Meaning.{number_of}
use Rattle.numa_plan.specs.TaskTable.{AreSorted, IsPlaceOf}

lower : (x y : ℕ) → x < y → nat_cmp x y ≡ Less
lower x y lt = grind (arith, nat_tests)

higher : (x y : ℕ) → y < x → nat_cmp x y ≡ Greater
higher x y lt = grind (arith, nat_tests)

same : (x y : ℕ) → x ≡ y → nat_cmp x y ≡ Equal
same x y is = grind (arith, nat_tests)

-- ---- the place

pub place-from_point : (task : ℕ) (entries : List (ℕ × ℕ)) (place : ℕ) → place ≤ length entries
    → ((k : ℕ) (d : ℕ × ℕ) → k < place → (get_or entries k d).0 < task)
    → ((k : ℕ) (d : ℕ × ℕ) → place ≤ k → k < length entries → task ≤ (get_or entries k d).0)
    → IsPlaceOf task entries place
place-from_point task [] place within before behind = omega arith
place-from_point task (entry ∷ entries) zero within before behind =
    behind 0 entry (omega arith) (omega arith)
place-from_point task (entry ∷ entries) (suc place) within before behind = (
  before 0 entry (omega arith),
  place-from_point task entries place (omega arith) (λ k d lt. before (suc k) d (omega arith))
      (λ k d le lt. behind (suc k) d (omega arith) (omega arith)),
)

-- ---- what is there

pub entry-there : (entries : List (ℕ × ℕ)) (place : ℕ) (d : ℕ × ℕ) → place < length entries
    → slice_get entries place ≡ Some (get_or entries place d)
entry-there [] place d lt = absurd (omega arith)
entry-there (entry ∷ entries) zero d lt = refl
entry-there (entry ∷ entries) (suc place) d lt = entry-there entries place d (omega arith)

pub entry-within : (entries : List (ℕ × ℕ)) (place : ℕ) (entry : ℕ × ℕ)
    → slice_get entries place ≡ Some entry → place < length entries
entry-within [] place entry is =
    absurd (let odd : ◌≡◌ {A = Option (ℕ × ℕ)} None (Some entry) = is in cc)
entry-within (first ∷ entries) zero entry is = omega arith
entry-within (first ∷ entries) (suc place) entry is =
    omega (arith, entry-within entries place entry is)

above : (task : ℕ) (entries : List (ℕ × ℕ))
    → AllByRecursion (λ key. nat_cmp task key ≡ Less) (keys_of entries)
    → (k : ℕ) (d : ℕ × ℕ) → k < length entries → task < (get_or entries k d).0
above task [] all k d lt = absurd (omega arith)
above task (entry ∷ entries) all zero d lt = ranked task entry.0 Less (sym all.0)
above task (entry ∷ entries) all (suc k) d lt = above task entries all.1 k d (omega arith)

pub tasks-rise : (entries : List (ℕ × ℕ)) → AreSorted entries
    → IsNonDecreasingBy (λ entry. entry.0) entries
unfolding IsStrictlySortedBy
tasks-rise [] sorted i j d le lt = absurd (omega arith)
tasks-rise (entry ∷ entries) sorted zero zero d le lt = omega arith
tasks-rise (entry ∷ entries) sorted zero (suc j) d le lt =
    omega (arith, above entry.0 entries sorted.0 j d (omega arith))
tasks-rise (entry ∷ entries) sorted (suc i) zero d le lt = absurd (omega arith)
tasks-rise (entry ∷ entries) sorted (suc i) (suc j) d le lt =
    tasks-rise entries sorted.1 i j d (omega arith) (omega arith)

-- ---- what is looked up

module _ (task : ℕ) where
  found-step : (entry : ℕ × ℕ) (entries : List (ℕ × ℕ)) (order : Ordering)
      → nat_cmp task entry.0 ≡ order
      → number_of (entry ∷ entries) task
      ≡ cond (is_eq order) (Some entry.1) (number_of entries task)
  found-step entry entries order is =
      ap (λ o. cond (is_eq o) (Some entry.1) (number_of entries task)) is

  pub number-there : (entries : List (ℕ × ℕ)) (place number : ℕ) → IsPlaceOf task entries place
      → slice_get entries place ≡ Some (task, number) → number_of entries task ≡ Some number
  number-there [] place number at is =
      absurd (let odd : ◌≡◌ {A = Option (ℕ × ℕ)} None (Some (task, number)) = is in cc)
  number-there (entry ∷ entries) zero number at is =
      let key : entry ≡ (task, number) = cc in
      found-step entry entries Equal (same task entry.0 (sym (ap (λ (e : ℕ × ℕ). e.0) key)))
      ∙ ap (λ (e : ℕ × ℕ). Some e.1) key
  number-there (entry ∷ entries) (suc place) number at is =
      found-step entry entries Greater (higher task entry.0 at.0)
      ∙ number-there entries place number at.1 is

  pub number-nowhere : (entries : List (ℕ × ℕ)) (place : ℕ) → AreSorted entries
      → IsPlaceOf task entries place
      → ((entry : ℕ × ℕ) → slice_get entries place ≡ Some entry → entry.0 ≢ task)
      → number_of entries task ≡ None
  unfolding IsStrictlySortedBy
  number-nowhere [] place sorted at other = refl
  number-nowhere (entry ∷ entries) zero sorted at other =
      let ne : entry.0 ≢ task = other entry refl in
      lookup-none (is_at (nat_cmp task)) (entry ∷ entries)
      (none_below_head nat_cmp_total task entry entries sorted (lower task entry.0 (omega arith)))
  number-nowhere (entry ∷ entries) (suc place) sorted at other =
      found-step entry entries Greater (higher task entry.0 at.0)
      ∙ number-nowhere entries place sorted.1 at.1 other

  -- ---- what is set

  module _ (number : ℕ) where
    put-step : (entry : ℕ × ℕ) (entries : List (ℕ × ℕ)) (order : Ordering)
        → nat_cmp task entry.0 ≡ order
        → insert_entry nat_cmp (entry ∷ entries) task number
        ≡ match_ordering order ((task, number) ∷ entry ∷ entries) ((entry.0, number) ∷ entries)
        (entry ∷ insert_entry nat_cmp entries task number)
    put-step entry entries order is =
        ap (λ o. match_ordering o ((task, number) ∷ entry ∷ entries) ((entry.0, number) ∷ entries)
        (entry ∷ insert_entry nat_cmp entries task number)) is

    pub set-there : (entries : List (ℕ × ℕ)) (place had : ℕ) → IsPlaceOf task entries place
        → slice_get entries place ≡ Some (task, had)
        → slice_set entries place (task, number) ≡ insert_entry nat_cmp entries task number
    set-there [] place had at is =
        absurd (let odd : ◌≡◌ {A = Option (ℕ × ℕ)} None (Some (task, had)) = is in cc)
    set-there (entry ∷ entries) zero had at is =
        let key : entry ≡ (task, had) = cc in
        let here : entry.0 ≡ task = ap (λ (e : ℕ × ℕ). e.0) key in
        ap (λ (t : ℕ). (t, number) ∷ entries) (sym here)
        ∙ sym (put-step entry entries Equal (same task entry.0 (sym here)))
    set-there (entry ∷ entries) (suc place) had at is =
        ap (λ (l : List (ℕ × ℕ)). entry ∷ l) (set-there entries place had at.1 is)
        ∙ sym (put-step entry entries Greater (higher task entry.0 at.0))

    pub insert-there : (entries : List (ℕ × ℕ)) (place : ℕ) → IsPlaceOf task entries place
        → ((entry : ℕ × ℕ) → slice_get entries place ≡ Some entry → entry.0 ≢ task)
        → insert entries place (task, number) ≡ insert_entry nat_cmp entries task number
    insert-there [] place at other =
        ap (λ (p : ℕ). insert {X = ℕ × ℕ} [] p (task, number)) at
    insert-there (entry ∷ entries) zero at other =
        let ne : entry.0 ≢ task = other entry refl in
        sym (put-step entry entries Less (lower task entry.0 (omega arith)))
    insert-there (entry ∷ entries) (suc place) at other =
        ap (λ (l : List (ℕ × ℕ)). entry ∷ l) (insert-there entries place at.1 other)
        ∙ sym (put-step entry entries Greater (higher task entry.0 at.0))

    pub insert-nowhere : (entries : List (ℕ × ℕ)) (place : ℕ) → IsPlaceOf task entries place
        → number_of entries task ≡ None
        → insert entries place (task, number) ≡ insert_entry nat_cmp entries task number
    insert-nowhere entries place at none = insert-there entries place at (λ entry is here.
        let some : number_of entries task ≡ Some entry.1 =
        number-there entries place entry.1 at (is ∙ ap (λ (t : ℕ). Some (t, entry.1)) here) in
        absurd (let odd : ◌≡◌ {A = Option ℕ} (Some entry.1) None = sym some ∙ none in cc))

    lookup-step : (other : ℕ) (entry : ℕ × ℕ) (entries : List (ℕ × ℕ)) (order : Ordering)
        → nat_cmp other entry.0 ≡ order
        → number_of (entry ∷ entries) other
        ≡ cond (is_eq order) (Some entry.1) (number_of entries other)
    lookup-step other entry entries order is =
        ap (λ o. cond (is_eq o) (Some entry.1) (number_of entries other)) is

    pub number-set : (entries : List (ℕ × ℕ))
        → number_of (insert_entry nat_cmp entries task number) task ≡ Some number
    number-set [] = lookup-step task (task, number) [] Equal (same task task refl)
    number-set (entry ∷ entries) = by (nat_cmp task entry.0) refl (number-set entries)
      where
        by : (order : Ordering) → nat_cmp task entry.0 ≡ order
            → number_of (insert_entry nat_cmp entries task number) task ≡ Some number
            → number_of (match_ordering order ((task, number) ∷ entry ∷ entries)
            ((entry.0, number) ∷ entries) (entry ∷ insert_entry nat_cmp entries task number)) task
            ≡ Some number
        by Less is later =
            lookup-step task (task, number) (entry ∷ entries) Equal (same task task refl)
        by Equal is later = lookup-step task (entry.0, number) entries Equal is
        by Greater is later =
            lookup-step task entry (insert_entry nat_cmp entries task number) Greater is ∙ later

    pub number-kept : (other : ℕ) → other ≢ task → (entries : List (ℕ × ℕ))
        → number_of (insert_entry nat_cmp entries task number) other ≡ number_of entries other
    number-kept other ne [] = apart (nat_cmp other task) refl
      where
        apart : (order : Ordering) → nat_cmp other task ≡ order
            → cond (is_eq order) (Some number) None ≡ None
        apart Less is = refl
        apart Equal is = absurd (ne (ranked other task Equal (sym is)))
        apart Greater is = refl
    number-kept other ne (entry ∷ entries) =
        by (nat_cmp task entry.0) refl (number-kept other ne entries)
      where
        apart : (rest : Option ℕ) (order : Ordering) → nat_cmp other task ≡ order
            → cond (is_eq order) (Some number) rest ≡ rest
        apart rest Less is = refl
        apart rest Equal is = absurd (ne (ranked other task Equal (sym is)))
        apart rest Greater is = refl

        by : (order : Ordering) → nat_cmp task entry.0 ≡ order
            → number_of (insert_entry nat_cmp entries task number) other ≡ number_of entries other
            → number_of (match_ordering order ((task, number) ∷ entry ∷ entries)
            ((entry.0, number) ∷ entries) (entry ∷ insert_entry nat_cmp entries task number)) other
            ≡ number_of (entry ∷ entries) other
        by Less is later = apart (number_of (entry ∷ entries) other) (nat_cmp other task) refl
        by Equal is later =
            let here : task ≡ entry.0 = ranked task entry.0 Equal (sym is) in
            subst (λ (t : ℕ). number_of ((t, number) ∷ entries) other
            ≡ number_of ((t, entry.1) ∷ entries) other) here
            (apart (number_of entries other) (nat_cmp other task) refl
            ∙ sym (passed (nat_cmp other task) refl))
          where
            passed : (order : Ordering) → nat_cmp other task ≡ order
                → cond (is_eq order) (Some entry.1) (number_of entries other)
                ≡ number_of entries other
            passed Less is = refl
            passed Equal is = absurd (ne (ranked other task Equal (sym is)))
            passed Greater is = refl
        by Greater is later =
            ap (λ (o : Option ℕ). cond (is_eq (nat_cmp other entry.0)) (Some entry.1) o) later

    pub length-set : (entries : List (ℕ × ℕ))
        → length (insert_entry nat_cmp entries task number) ≤ length entries + 1
    length-set [] = omega arith
    length-set (entry ∷ entries) = by (nat_cmp task entry.0) (length-set entries)
      where
        by : (order : Ordering)
            → length (insert_entry nat_cmp entries task number) ≤ length entries + 1
            → length (match_ordering order ((task, number) ∷ entry ∷ entries)
            ((entry.0, number) ∷ entries) (entry ∷ insert_entry nat_cmp entries task number))
            ≤ length (entry ∷ entries) + 1
        by Less later = omega arith
        by Equal later = omega arith
        by Greater later = omega (arith, later)

    -- ---- the table stays sorted

    all_set : (P : ℕ → Type 0) (entries : List (ℕ × ℕ)) → P task
        → AllByRecursion P (keys_of entries)
        → AllByRecursion P (keys_of (insert_entry nat_cmp entries task number))
    all_set P [] p all = (p, tt)
    all_set P (entry ∷ entries) p all = by (nat_cmp task entry.0) (all_set P entries p all.1)
      where
        by : (order : Ordering)
            → AllByRecursion P (keys_of (insert_entry nat_cmp entries task number))
            → AllByRecursion P (keys_of (match_ordering order ((task, number) ∷ entry ∷ entries)
            ((entry.0, number) ∷ entries) (entry ∷ insert_entry nat_cmp entries task number)))
        by Less later = (p, all)
        by Equal later = all
        by Greater later = (all.0, later)

    all_lower : (entry : ℕ × ℕ) (keys : List ℕ) → nat_cmp task entry.0 ≡ Less
        → AllByRecursion (λ key. nat_cmp entry.0 key ≡ Less) keys
        → AllByRecursion (λ key. nat_cmp task key ≡ Less) keys
    all_lower entry [] below all = tt
    all_lower entry (key ∷ keys) below all =
        (nat_cmp_total.trans task entry.0 key below all.0, all_lower entry keys below all.1)

    pub sorted-set : (entries : List (ℕ × ℕ)) → AreSorted entries
        → AreSorted (insert_entry nat_cmp entries task number)
    unfolding IsStrictlySortedBy
    sorted-set [] sorted = (tt, tt)
    sorted-set (entry ∷ entries) sorted =
        by (nat_cmp task entry.0) refl (sorted-set entries sorted.1)
      where
        by : (order : Ordering) → nat_cmp task entry.0 ≡ order
            → AreSorted (insert_entry nat_cmp entries task number)
            → AreSorted (match_ordering order ((task, number) ∷ entry ∷ entries)
            ((entry.0, number) ∷ entries) (entry ∷ insert_entry nat_cmp entries task number))
        by Less is later = ((is, all_lower entry (keys_of entries) is sorted.0), sorted)
        by Equal is later = sorted
        by Greater is later = (
          all_set (λ key. nat_cmp entry.0 key ≡ Less) entries
              (lower entry.0 task (ranked task entry.0 Greater (sym is))) sorted.0,
          later,
        )

  -- ---- what is removed

  drop-step : (entry : ℕ × ℕ) (entries : List (ℕ × ℕ)) (order : Ordering)
      → nat_cmp task entry.0 ≡ order
      → remove_entry (is_at (nat_cmp task)) (entry ∷ entries)
      ≡ cond (is_eq order) entries (entry ∷ remove_entry (is_at (nat_cmp task)) entries)
  drop-step entry entries order is =
      ap (λ o. cond (is_eq o) entries (entry ∷ remove_entry (is_at (nat_cmp task)) entries)) is

  pub remove-there : (entries : List (ℕ × ℕ)) (place had : ℕ) → IsPlaceOf task entries place
      → slice_get entries place ≡ Some (task, had)
      → remove entries place ≡ remove_entry (is_at (nat_cmp task)) entries
  remove-there [] place had at is =
      absurd (let odd : ◌≡◌ {A = Option (ℕ × ℕ)} None (Some (task, had)) = is in cc)
  remove-there (entry ∷ entries) zero had at is =
      let key : entry ≡ (task, had) = cc in
      sym (drop-step entry entries Equal (same task entry.0 (sym (ap (λ (e : ℕ × ℕ). e.0) key))))
  remove-there (entry ∷ entries) (suc place) had at is =
      ap (λ (l : List (ℕ × ℕ)). entry ∷ l) (remove-there entries place had at.1 is)
      ∙ sym (drop-step entry entries Greater (higher task entry.0 at.0))

  pub remove-nowhere : (entries : List (ℕ × ℕ)) → number_of entries task ≡ None
      → entries ≡ remove_entry (is_at (nat_cmp task)) entries
  remove-nowhere [] none = refl
  remove-nowhere (entry ∷ entries) none =
      by (is_eq (nat_cmp task entry.0)) none (remove-nowhere entries)
    where
      by : (b : Bool) → cond b (Some entry.1) (number_of entries task) ≡ None
          → (number_of entries task ≡ None
          → entries ≡ remove_entry (is_at (nat_cmp task)) entries)
          → entry ∷ entries
          ≡ cond b entries (entry ∷ remove_entry (is_at (nat_cmp task)) entries)
      by true none later = absurd (let odd : ◌≡◌ {A = Option ℕ} (Some entry.1) None = none in cc)
      by false none later = ap (λ (l : List (ℕ × ℕ)). entry ∷ l) (later none)

  all_dropped : (P : ℕ → Type 0) (entries : List (ℕ × ℕ)) → AllByRecursion P (keys_of entries)
      → AllByRecursion P (keys_of (remove_entry (is_at (nat_cmp task)) entries))
  all_dropped P [] all = tt
  all_dropped P (entry ∷ entries) all =
      by (is_eq (nat_cmp task entry.0)) (all_dropped P entries all.1)
    where
      by : (b : Bool)
          → AllByRecursion P (keys_of (remove_entry (is_at (nat_cmp task)) entries))
          → AllByRecursion P
          (keys_of (cond b entries (entry ∷ remove_entry (is_at (nat_cmp task)) entries)))
      by true later = all.1
      by false later = (all.0, later)

  pub sorted-removed : (entries : List (ℕ × ℕ)) → AreSorted entries
      → AreSorted (remove_entry (is_at (nat_cmp task)) entries)
  unfolding IsStrictlySortedBy
  sorted-removed [] sorted = tt
  sorted-removed (entry ∷ entries) sorted =
      by (is_eq (nat_cmp task entry.0)) (sorted-removed entries sorted.1)
    where
      by : (b : Bool) → AreSorted (remove_entry (is_at (nat_cmp task)) entries)
          → AreSorted (cond b entries (entry ∷ remove_entry (is_at (nat_cmp task)) entries))
      by true later = sorted.1
      by false later =
          (all_dropped (λ key. nat_cmp entry.0 key ≡ Less) entries sorted.0, later)

  without : (other : ℕ) (entries : List (ℕ × ℕ)) → AreSorted entries
      → number_of (remove_entry (is_at (nat_cmp task)) entries) other
      ≡ cond (is_eq (nat_cmp task other)) None (number_of entries other)
  without other entries sorted =
      lookup-remove_entry {eq = eq_by_cmp nat_cmp} equiv (is_at (nat_cmp task))
      (λ x y h. equiv.congr task x y h) other entries
      (IsDistinct-from_sorted nat_cmp (keys_of entries) sorted)
    where
      equiv : IsEquivalence (eq_by_cmp nat_cmp)
      equiv = eq_by_cmp_equiv nat_cmp_total

  pub number-removed : (entries : List (ℕ × ℕ)) → AreSorted entries
      → number_of (remove_entry (is_at (nat_cmp task)) entries) task ≡ None
  number-removed entries sorted = without task entries sorted
      ∙ ap (λ o. cond (is_eq o) None (number_of entries task)) (same task task refl)

  pub number-left : (other : ℕ) → other ≢ task → (entries : List (ℕ × ℕ)) → AreSorted entries
      → number_of (remove_entry (is_at (nat_cmp task)) entries) other ≡ number_of entries other
  number-left other ne entries sorted =
      without other entries sorted ∙ apart (nat_cmp task other) refl
    where
      apart : (order : Ordering) → nat_cmp task other ≡ order
          → cond (is_eq order) None (number_of entries other) ≡ number_of entries other
      apart Less is = refl
      apart Equal is = absurd (ne (sym (ranked task other Equal (sym is))))
      apart Greater is = refl

  pub length-removed : (entries : List (ℕ × ℕ))
      → length (remove_entry (is_at (nat_cmp task)) entries) ≤ length entries + 1
  length-removed [] = omega arith
  length-removed (entry ∷ entries) =
      by (is_eq (nat_cmp task entry.0)) (length-removed entries)
    where
      by : (b : Bool) → length (remove_entry (is_at (nat_cmp task)) entries) ≤ length entries + 1
          → length (cond b entries (entry ∷ remove_entry (is_at (nat_cmp task)) entries))
          ≤ length (entry ∷ entries) + 1
      by true later = omega arith
      by false later = omega (arith, later)

-- ---- no task

pub sorted-none : AreSorted []
unfolding IsStrictlySortedBy
sorted-none = tt
