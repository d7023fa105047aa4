-- Runs that copy ranges, and tasks that have the rules of their policies.
use Rattle.std.proofs.Common.{◌≡◌, ◌≢◌, ℕ, zero, suc, ◌+◌, ◌-◌, ◌<◌, ◌≤◌, Bool, true, false, cond}
use Rattle.std.proofs.Common.{Option, Some, None, List, [], ◌∷◌, ◌++◌, length, take, get_or}
use Rattle.std.proofs.Common.{is_some, AllPairs, Contains, refl, sym, ap, subst, ◌∙◌, arith, inl}
use Rattle.std.proofs.Common.{inr, nat_eq, length-append}
use Rattle.std.proofs.lemmas.Bool.{cases_Bool, eqb-true, eq-eqb, false_from_ne_true}
use Rattle.std.proofs.lemmas.List.{take_more, length-take-le, get_or_default, get_or-take}
use Rattle.std.proofs.lemmas.Option.{same_Some, slice_get_within, get_or_from_slice_get}
use Rattle.std.specs.Option.{option_map}
use Rattle.std.specs.Prelude.{slice_get}
use Rattle.numa_mode.specs.Policy.{PolicyRecord, is_live}
use Rattle.numa_ranges.specs.Runs.{page_at, in_pages, AreApart, end_of}
use Rattle.numa_ranges.specs.declared.run.Run.{Run}
use Rattle.numa_ranges.proofs.Apart.{apart-top}
use Rattle.numa_space.specs.Policies.{where_live}
use Rattle.numa_space.specs.Standing.{record_of}
use Rattle.numa_plan.specs.Meaning.{PlanData, number_of}
use Rattle.numa_plan.proofs.SlotLemmas.{same_or_not}
use Rattle.numa_compile.specs.Copies.{IsNumber, IsCopy, AreCopies, HasTasks, Grows}

-- ---- live policies

-- the policy that is live
pub live-some : (policy : Option PolicyRecord) (r : PolicyRecord) → where_live policy ≡ Some r
    → (policy ≡ Some r) × (is_live r ≡ true)
live-some None r is = absurd (let odd : ◌≡◌ {A = Option PolicyRecord} None (Some r) = is in cc)
live-some (Some other) r is =
    elim (cases_Bool (is_live other)) [
      | inl t ↦ let own : other ≡ r =
          same_Some other r (sym (let e : where_live (Some other) ≡ Some other = rw t refl in e)
          ∙ is) in (ap Some own, subst (λ x. is_live x ≡ true) own t)
      | inr f ↦ absurd (let odd : ◌≡◌ {A = Option PolicyRecord} None (Some r) =
          sym (let e : where_live (Some other) ≡ None = rw f refl in e) ∙ is in cc)
    ]

pub live-there : (r : PolicyRecord) → is_live r ≡ true → where_live (Some r) ≡ Some r
live-there r live = rw live refl

-- ---- numbers

pub number-contains : (records : List PolicyRecord) (r : PolicyRecord) (number : Option ℕ)
    → IsNumber (slice_get records) (Some r) number → Contains records r
number-contains records r number is =
    (is.0, slice_get_within records is.0 r is.2, get_or_from_slice_get records is.0 r r is.2)

slice_get-append : (xs ys : List PolicyRecord) (k : ℕ) (x : PolicyRecord) → slice_get xs k ≡ Some x
    → slice_get (xs ++ ys) k ≡ Some x
slice_get-append [] ys k x is =
    absurd (let odd : ◌≡◌ {A = Option PolicyRecord} None (Some x) = is in cc)
slice_get-append (y ∷ xs) ys zero x is = is
slice_get-append (y ∷ xs) ys (suc k) x is = slice_get-append xs ys k x is

-- a number stays where the records grow
pub number-grow : (old new : List PolicyRecord) (policy : Option PolicyRecord)
    → Grows old policy new → (other : Option PolicyRecord) (number : Option ℕ)
    → IsNumber (slice_get old) other number → IsNumber (slice_get new) other number
number-grow old new policy grows None number is = is
number-grow old new policy grows (Some r) number is =
    elim grows [
      | inl same ↦ subst (λ records. IsNumber (slice_get records) (Some r) number) (sym same) is
      | inr more ↦ (
        is.0,
        is.1,
        ap (λ records. slice_get records is.0) more.2
            ∙ slice_get-append old (more.0 ∷ []) is.0 r is.2,
      )
    ]

-- ---- runs

pub copies-length : (at : ℕ → Option PolicyRecord) (ranges : List (Run (Option PolicyRecord)))
    (runs : List (Run (Option ℕ))) → AreCopies at ranges runs → length runs ≡ length ranges
copies-length at [] [] copies = refl
copies-length at [] (run ∷ runs) copies = absurd copies
copies-length at (range ∷ ranges) [] copies = absurd copies
copies-length at (range ∷ ranges) (run ∷ runs) copies =
    ap suc (copies-length at ranges runs copies.1)

-- a run has a page where its range has it
pub same-pages : (at : ℕ → Option PolicyRecord) (range : Run (Option PolicyRecord))
    (run : Run (Option ℕ)) (page : ℕ) → IsCopy at range run → in_pages run.first run.pages page
    ≡ in_pages range.first range.pages page
same-pages at range run page copy = λ i. in_pages (copy.first i) (copy.pages i) page

pub copies-pages : (at : ℕ → Option PolicyRecord) (ranges : List (Run (Option PolicyRecord)))
    (runs : List (Run (Option ℕ))) (page : ℕ) → AreCopies at ranges runs
    → is_some (page_at runs page) ≡ is_some (page_at ranges page)
copies-pages at [] [] page copies = refl
copies-pages at [] (run ∷ runs) page copies = absurd copies
copies-pages at (range ∷ ranges) [] page copies = absurd copies
copies-pages at (range ∷ ranges) (run ∷ runs) page copies =
    go (in_pages range.first range.pages page) (in_pages run.first run.pages page)
    (same-pages at range run page copies.0) (copies-pages at ranges runs page copies.1)
  where
    go : (b c : Bool) → c ≡ b → is_some (page_at runs page) ≡ is_some (page_at ranges page)
        → is_some (cond c (Some (run.index + (page - run.first), run.value)) (page_at runs page))
        ≡ is_some
        (cond b (Some (range.index + (page - range.first), range.value)) (page_at ranges page))
    go true c same rest = rw same refl
    go false c same rest = rw same rest

-- what is said of a page by its run is what is said of it by its range, where that holds run by run
pub copies-related : {X : Type 0} (of_run : ℕ → Option ℕ → X) (of_range : ℕ → Option PolicyRecord
    → X) (at : ℕ → Option PolicyRecord)
    → ((policy : Option PolicyRecord) (number : Option ℕ) (index : ℕ)
    → IsNumber at (where_live policy) number → of_run index number ≡ of_range index policy)
    → (ranges : List (Run (Option PolicyRecord))) (runs : List (Run (Option ℕ))) (page : ℕ)
    → AreCopies at ranges runs
    → option_map (λ part. of_run part.0 part.1) (page_at runs page)
    ≡ option_map (λ part. of_range part.0 part.1) (page_at ranges page)
copies-related of_run of_range at same [] [] page copies = refl
copies-related of_run of_range at same [] (run ∷ runs) page copies = absurd copies
copies-related of_run of_range at same (range ∷ ranges) [] page copies = absurd copies
copies-related {X} of_run of_range at same (range ∷ ranges) (run ∷ runs) page copies =
    let here = copies.0 in
    let place : run.index + (page - run.first) ≡ range.index + (page - range.first) =
    omega (arith, here.first, here.index) in
    go (in_pages range.first range.pages page) (in_pages run.first run.pages page)
    (same-pages at range run page here)
    (same range.value run.value (run.index + (page - run.first)) here.value
    ∙ ap (λ n. of_range n range.value) place)
    (copies-related of_run of_range at same ranges runs page copies.1)
  where
    go : (b c : Bool) → c ≡ b → of_run (run.index + (page - run.first)) run.value
        ≡ of_range (range.index + (page - range.first)) range.value
        → option_map (λ part. of_run part.0 part.1) (page_at runs page)
        ≡ option_map (λ part. of_range part.0 part.1) (page_at ranges page)
        → option_map (λ part. of_run part.0 part.1)
        (cond c (Some (run.index + (page - run.first), run.value)) (page_at runs page))
        ≡ option_map (λ part. of_range part.0 part.1)
        (cond b (Some (range.index + (page - range.first), range.value)) (page_at ranges page))
    go true c same here rest = rw same (ap Some here)
    go false c same here rest = rw same rest

-- the run of a range
pub copies-contain : (at : ℕ → Option PolicyRecord) (ranges : List (Run (Option PolicyRecord)))
    (runs : List (Run (Option ℕ))) (range : Run (Option PolicyRecord)) (k : ℕ)
    → AreCopies at ranges runs → k < length ranges → get_or ranges k range ≡ range
    → (run : Run (Option ℕ)) × IsCopy at range run
copies-contain at [] runs range k copies lt is = absurd (omega arith)
copies-contain at (first ∷ ranges) [] range k copies lt is = absurd copies
copies-contain at (first ∷ ranges) (run ∷ runs) range zero copies lt is =
    (run, subst (λ (range : Run (Option PolicyRecord)). IsCopy at range run) is copies.0)
copies-contain at (first ∷ ranges) (run ∷ runs) range (suc k) copies lt is =
    copies-contain at ranges runs range k copies.1 (omega arith) is

pub copies-grow : (old new : List PolicyRecord) (policy : Option PolicyRecord)
    (ranges : List (Run (Option PolicyRecord))) (runs : List (Run (Option ℕ)))
    → Grows old policy new → AreCopies (slice_get old) ranges runs
    → AreCopies (slice_get new) ranges runs
copies-grow old new policy [] [] grows copies = tt
copies-grow old new policy [] (run ∷ runs) grows copies = absurd copies
copies-grow old new policy (range ∷ ranges) [] grows copies = absurd copies
copies-grow old new policy (range ∷ ranges) (run ∷ runs) grows copies = (
  record {
    first = copies.0.first;
    pages = copies.0.pages;
    index = copies.0.index;
    value =
        number-grow old new policy grows (where_live range.value) run.value copies.0.value;
  },
  copies-grow old new policy ranges runs grows copies.1,
)

copies-push : (at : ℕ → Option PolicyRecord) (ranges : List (Run (Option PolicyRecord)))
    (runs : List (Run (Option ℕ))) (range : Run (Option PolicyRecord)) (run : Run (Option ℕ))
    → AreCopies at ranges runs → IsCopy at range run
    → AreCopies at (ranges ++ range ∷ []) (runs ++ run ∷ [])
copies-push at [] [] range run copies copy = (copy, tt)
copies-push at [] (q ∷ runs) range run copies copy = absurd copies
copies-push at (r ∷ ranges) [] range run copies copy = absurd copies
copies-push at (r ∷ ranges) (q ∷ runs) range run copies copy =
    (copies.0, copies-push at ranges runs range run copies.1 copy)

-- one range more, and its run
pub copies-next : (at : ℕ → Option PolicyRecord) (ranges : List (Run (Option PolicyRecord)))
    (runs : List (Run (Option ℕ))) (i : ℕ) (d : Run (Option PolicyRecord)) (run : Run (Option ℕ))
    → i < length ranges → AreCopies at (take i ranges) runs → IsCopy at (get_or ranges i d) run
    → AreCopies at (take (i + 1) ranges) (runs ++ run ∷ [])
copies-next at ranges runs i d run lt copies copy =
    subst (λ (some : List (Run (Option PolicyRecord))). AreCopies at some (runs ++ run ∷ []))
    (sym (take_more ranges i d lt))
    (copies-push at (take i ranges) runs (get_or ranges i d) run copies copy)

-- copies are apart where the ranges are
pub copies-apart : (at : ℕ → Option PolicyRecord) (from : ℕ)
    (ranges : List (Run (Option PolicyRecord))) (runs : List (Run (Option ℕ)))
    → AreCopies at ranges runs → AreApart from ranges → AreApart from runs
copies-apart at from [] [] copies apart = apart
copies-apart at from [] (run ∷ runs) copies apart = absurd copies
copies-apart at from (range ∷ ranges) [] copies apart = absurd copies
copies-apart at from (range ∷ ranges) (run ∷ runs) copies apart =
    let copy = copies.0 in
    let end : end_of range ≡ end_of run = omega (arith, copy.first, copy.pages) in (
      omega (arith, apart.0, copy.first),
      omega (arith, apart.1, copy.pages),
      omega (arith, apart.2, copy.index, copy.pages),
      subst (λ n. AreApart n runs) end
          (copies-apart at (end_of range) ranges runs copies.1 apart.3),
    )

pub apart-take : {T : Type 0} (from k : ℕ) (ranges : List (Run T)) → AreApart from ranges
    → AreApart from (take k ranges)
apart-take from zero ranges apart = apart-top from ranges apart
apart-take from (suc k) [] apart = apart
apart-take from (suc k) (range ∷ ranges) apart =
    (apart.0, apart.1, apart.2, apart-take (end_of range) k ranges apart.3)

-- ---- tasks

pub tasks-grow : (old new : List PolicyRecord) (policy : Option PolicyRecord)
    (tasks : List (ℕ × PolicyRecord)) (plan : PlanData) → Grows old policy new
    → HasTasks (slice_get old) tasks plan → HasTasks (slice_get new) tasks plan
tasks-grow old new policy tasks plan grows has task =
    number-grow old new policy grows (where_live (record_of tasks task)) (number_of plan.tasks task)
    (has task)

record_of-push : (tasks : List (ℕ × PolicyRecord)) (task : ℕ) (r : PolicyRecord) (other : ℕ)
    → (other ≡ task → ⊥) → record_of (tasks ++ (task, r) ∷ []) other ≡ record_of tasks other
record_of-push [] task r other ne = let no : nat_eq other task ≡ false =
    false_from_ne_true (nat_eq other task) (λ t. ne (eqb-true other task t)) in rw no refl
record_of-push (held ∷ tasks) task r other ne = elim (cases_Bool (nat_eq other held.0))
    [ inl t ↦ rw t refl | inr f ↦ rw f (record_of-push tasks task r other ne) ]

record_of-new : (tasks : List (ℕ × PolicyRecord)) (task : ℕ) (r : PolicyRecord)
    → ((k : ℕ) (d : ℕ × PolicyRecord) → k < length tasks → (get_or tasks k d).0 ≢ task)
    → record_of (tasks ++ (task, r) ∷ []) task ≡ Some r
record_of-new [] task r apart = let yes : nat_eq task task ≡ true = eq-eqb task task refl in
    rw yes refl
record_of-new (held ∷ tasks) task r apart =
    let no : nat_eq task held.0 ≡ false = false_from_ne_true (nat_eq task held.0)
    (λ t. apart 0 held (omega arith) (sym (eqb-true task held.0 t))) in
    rw no (record_of-new tasks task r (λ k d lt. apart (suc k) d (omega arith)))

-- one task more, and its rule
pub tasks-next : (at : ℕ → Option PolicyRecord) (tasks : List (ℕ × PolicyRecord)) (k : ℕ) (task : ℕ)
    (r : PolicyRecord) (old new : PlanData) (number : Option ℕ) → slice_get tasks k ≡ Some (task, r)
    → AllPairs (λ earlier later. earlier.0 ≢ later.0) tasks
    → HasTasks at (take k tasks) old → IsNumber at (where_live (Some r)) number
    → number_of new.tasks task ≡ number
    → ((other : ℕ) → other ≢ task → number_of new.tasks other ≡ number_of old.tasks other)
    → HasTasks at (take (k + 1) tasks) new
tasks-next at tasks k task r old new number is once before own here others other =
    let lt : k < length tasks = slice_get_within tasks k (task, r) is in
    let read : get_or tasks k (task, r) ≡ (task, r) = get_or_from_slice_get tasks k (task, r)
    (task, r) is in
    let more : take (k + 1) tasks ≡ take k tasks ++ (task, r) ∷ [] = take_more tasks k (task, r) lt
    ∙ ap (λ (held : ℕ × PolicyRecord). take k tasks ++ held ∷ []) read in
    elim (same_or_not other task) [
      | inl same ↦
          let found : record_of (take k tasks ++ (task, r) ∷ []) other ≡ Some r =
          subst (λ t. record_of (take k tasks ++ (task, r) ∷ []) t ≡ Some r) (sym same)
          (record_of-new (take k tasks) task r (earlier lt read)) in
          let whole : record_of (take (k + 1) tasks) other ≡ Some r =
          ap (λ (some : List (ℕ × PolicyRecord)). record_of some other) more ∙ found in
          let numbered : number_of new.tasks other ≡ number = ap (λ t. number_of new.tasks t) same
          ∙ here in
          subst (λ (p : Option PolicyRecord).
          IsNumber at (where_live p) (number_of new.tasks other)) (sym whole)
          (subst (λ (n : Option ℕ). IsNumber at (where_live (Some r)) n) (sym numbered) own)
      | inr ne ↦
          let whole : record_of (take (k + 1) tasks) other ≡ record_of (take k tasks) other =
          ap (λ (some : List (ℕ × PolicyRecord)). record_of some other) more
          ∙ record_of-push (take k tasks) task r other ne in
          subst (λ (p : Option PolicyRecord).
          IsNumber at (where_live p) (number_of new.tasks other)) (sym whole)
          (subst (λ (n : Option ℕ). IsNumber at (where_live (record_of (take k tasks) other)) n)
          (sym (others other ne)) (before other))
    ]
  where
    earlier : k < length tasks → get_or tasks k (task, r) ≡ (task, r)
        → (j : ℕ) (d : ℕ × PolicyRecord) → j < length (take k tasks) → (get_or (take k tasks) j d).0
        ≢ task
    earlier lt read j d short same =
        let inside : j < k =
        omega (
          arith,
          short,
          lt,
          length-take-le k tasks (let le : k ≤ length tasks = omega arith in le),
        ) in
        once j k (task, r) inside lt
        (ap (λ (held : ℕ × PolicyRecord). held.0)
        (get_or_default tasks j (task, r) d (omega (arith, inside, lt))
        ∙ sym (get_or-take k tasks j d inside)) ∙ same
        ∙ sym (ap (λ (held : ℕ × PolicyRecord). held.0) read))

-- one policy more is one record more at most
pub grows-one : (old : List PolicyRecord) (policy : Option PolicyRecord) (new : List PolicyRecord)
    → Grows old policy new → length new ≤ length old + 1
grows-one old policy new grows =
    elim grows [
      | inl same ↦ omega (arith, ap length same)
      | inr more ↦
          omega (arith, ap length more.2, length-append old (more.0 ∷ []))
    ]
