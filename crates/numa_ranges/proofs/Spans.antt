-- A span that is edited: the runs afterwards, and how many they are.
use Rattle.std.proofs.Common.{◌≡◌, ℕ, ◌+◌, ◌-◌, ◌<◌, ◌≤◌, Bool, true, Option, Some, None, List, []}
use Rattle.std.proofs.Common.{◌∷◌, length, length-take, drop, get_or, refl, sym, ap, subst, ◌∙◌}
use Rattle.std.proofs.Common.{arith}
use Rattle.std.specs.Prelude.{All, nat_lt, if◌then◌else◌, false, OnOk, Result, Ok, Err}
use Rattle.std.proofs.lemmas.Bool.{le-ltb, lt-ltb}
use Rattle.numa_ranges.specs.declared.fault.RangeError.{RangeError}
use Rattle.numa_ranges.specs.declared.fault.RangeError.TheVariants.{TooManyRanges, NoMemory}
use Rattle.std.specs.List.{slice_range, splice}
use Rattle.std.proofs.lemmas.List.{get_or-drop, get_or-take}
use Rattle.numa_ranges.specs.Runs.{in_pages, page_at, AreApart, AreMaximal}
use Rattle.numa_ranges.specs.Counts.{range_count}
use Rattle.numa_ranges.specs.Maps.{IsRefusal, changed_page, changed_span, without_span}
use Rattle.numa_ranges.specs.Maps.{count_refusal}
use Rattle.numa_ranges.specs.Edits.{IsInRange, edit_of, maximal_runs, edited_span, edited_page}
use Rattle.numa_ranges.specs.declared.run.Run.{Run}
use Rattle.numa_ranges.proofs.Apart.{apart-bounds, apart-some}
use Rattle.numa_ranges.proofs.Joined.{page_at-joined, apart-joined, maximal-joined}
use Rattle.numa_ranges.proofs.Counted.{range_count-length}

module _ {T : Type 0} where
  pub in-range-window : (runs : List (Run T)) (from to : ℕ) → AreApart 0 runs → from ≤ to
      → to ≤ length runs → All IsInRange (slice_range runs from to)
  in-range-window runs from to apart le within k d l =
      let size : length (slice_range runs from to) ≤ to - from =
      omega (arith, length-take (to - from) (drop from runs)) in
      let same : get_or (slice_range runs from to) k d ≡ get_or runs (from + k) d =
      get_or-take (to - from) (drop from runs) k d (omega arith) ∙ get_or-drop from runs k d in
      let bounds = apart-bounds 0 runs (from + k) d apart (omega arith) in
      subst IsInRange (sym same) (record { end = bounds.0; index = bounds.1 })

  pub some-window : (runs : List (Run T)) (from to : ℕ) → AreApart 0 runs → from ≤ to
      → to ≤ length runs → All (λ run. 0 < run.pages) (slice_range runs from to)
  some-window runs from to apart le within k d l =
      let size : length (slice_range runs from to) ≤ to - from =
      omega (arith, length-take (to - from) (drop from runs)) in
      let same : get_or (slice_range runs from to) k d ≡ get_or runs (from + k) d =
      get_or-take (to - from) (drop from runs) k d (omega arith) ∙ get_or-drop from runs k d in
      subst (λ (run : Run T). 0 < run.pages) (sym same)
      (apart-some 0 runs (from + k) d apart (omega arith))

module _ {T : Type 0} (same : T → T → Bool) (exact : (a b : T) → same a b ≡ true → a ≡ b)
    (itself : (a : T) → same a a ≡ true) where
  pub apart-joined-all : (runs : List (Run T)) → AreApart 0 runs
      → AreApart 0 (maximal_runs same runs)
  apart-joined-all [] apart = apart
  apart-joined-all (run ∷ runs) apart = apart-joined same exact itself 0 runs run apart

  pub maximal-joined-all : (runs : List (Run T)) → AreMaximal (maximal_runs same runs)
  maximal-joined-all [] = tt
  maximal-joined-all (run ∷ runs) = maximal-joined same exact itself runs run

  pub page_at-joined-all : (runs : List (Run T)) (page : ℕ) → page_at (maximal_runs same runs) page
      ≡ page_at runs page
  page_at-joined-all [] page = refl
  page_at-joined-all (run ∷ runs) page = page_at-joined same exact itself runs run page

  -- runs that say what a map says are as many as its maximal ranges, once joined
  pub count-joined : (runs : List (Run T)) (at : ℕ → Option (ℕ × T)) → AreApart 0 runs
      → ((page : ℕ) → page_at runs page ≡ at page)
      → range_count same at ≡ length (maximal_runs same runs)
  count-joined runs at apart says =
      let whole : page_at (maximal_runs same runs) ≡ at =
      λ i page. (page_at-joined-all runs page ∙ says page) i in
      ap (range_count same) (sym whole) ∙ range_count-length same exact itself
      (maximal_runs same runs) (apart-joined-all runs apart) (maximal-joined-all runs)

  -- what an edit of a span has to show where it is accepted
  pub record Stands (runs new : List (Run T)) (at : ℕ → Option (ℕ × T)) (limit : ℕ) : Type 0 where
    pub apart : AreApart 0 new
    pub maximal : AreMaximal new
    pub size : length new ≤ limit
    pub page : (page : ℕ) → page_at new page ≡ at page
    pub accepted : count_refusal same limit at ≡ None

  pub stands-joined : (runs edited_runs new : List (Run T)) (at : ℕ → Option (ℕ × T)) (limit : ℕ)
      → AreApart 0 edited_runs → ((page : ℕ) → page_at edited_runs page ≡ at page)
      → new ≡ maximal_runs same edited_runs → length new ≤ limit → Stands runs new at limit
  stands-joined runs edited_runs new at limit apart says is fits =
      let count : range_count same at ≡ length (maximal_runs same edited_runs) =
      count-joined edited_runs at apart says in
      let few : nat_lt limit (range_count same at) ≡ false =
      le-ltb _ _ (omega (arith, count, ap length is)) in
      record {
        apart = subst (AreApart 0) (sym is) (apart-joined-all edited_runs apart);
        maximal = subst AreMaximal (sym is) (maximal-joined-all edited_runs);
        size = fits;
        page = λ page. ap (λ l. page_at l page) is ∙ page_at-joined-all edited_runs page
            ∙ says page;
        accepted = rw few refl;
      }

  pub refused-joined : (edited_runs whole : List (Run T)) (at : ℕ → Option (ℕ × T)) (limit : ℕ)
      (refusal : RangeError) → AreApart 0 edited_runs
      → ((page : ℕ) → page_at edited_runs page ≡ at page) → whole ≡ maximal_runs same edited_runs
      → refusal ≡ (if nat_lt limit (length whole) then TooManyRanges else NoMemory)
      → IsRefusal (count_refusal same limit at) refusal
  refused-joined edited_runs whole at limit refusal apart says is cause =
      let count : length whole ≡ range_count same at = ap length is
      ∙ sym (count-joined edited_runs at apart says) in
      let cause' : refusal
      ≡ (if nat_lt limit (range_count same at) then TooManyRanges else NoMemory) = cause
      ∙ ap (λ n. if nat_lt limit n then TooManyRanges else NoMemory) count in
      go (nat_lt limit (range_count same at)) cause'
    where
      go : (b : Bool) → refusal ≡ (if b then TooManyRanges else NoMemory)
          → IsRefusal (if b then Some TooManyRanges else None) refusal
      go true h = h
      go false h = h

  -- the window of an edit, put in its place
  pub window-edited : (now seen new : List (Run T)) (from to first end limit : ℕ)
      (edit : T → Option T) → seen ≡ now
      → splice now from to (maximal_runs same (edit_of first end edit (slice_range now from to)))
      ≡ maximal_runs same (edit_of first end edit now)
      → (new ≡ splice seen from to
      (maximal_runs same (edit_of first end edit (slice_range seen from to))))
      × (length new ≤ limit)
      → (new ≡ maximal_runs same (edit_of first end edit now)) × (length new ≤ limit)
  window-edited now seen new from to first end limit edit a whole put = (
    put.0 ∙ (ap (λ l. splice l from to (maximal_runs same
        (edit_of first end edit (slice_range l from to)))) a ∙ whole),
    put.1,
  )

  pub window-refused : (now seen : List (Run T)) (from to first end limit : ℕ)
      (refusal : RangeError) (edit : T → Option T) → seen ≡ now
      → splice now from to (maximal_runs same (edit_of first end edit (slice_range now from to)))
      ≡ maximal_runs same (edit_of first end edit now)
      → refusal ≡ (if nat_lt limit (length (splice seen from to
      (maximal_runs same (edit_of first end edit (slice_range seen from to)))))
      then TooManyRanges else NoMemory)
      → refusal
      ≡ (if nat_lt limit (length (maximal_runs same (edit_of first end edit now)))
      then TooManyRanges else NoMemory)
  window-refused now seen from to first end limit refusal edit a whole put =
      put ∙ ap (λ l. if nat_lt limit (length l) then TooManyRanges else NoMemory)
      (ap (λ l. splice l from to (maximal_runs same
      (edit_of first end edit (slice_range l from to)))) a ∙ whole)

module _ {T : Type 0} where
  pub without-is : (first pages : ℕ) (at : ℕ → Option (ℕ × T))
      → edited_span first pages (λ value. None) at ≡ without_span first pages at
  without-is first pages at =
      let none : (o : Option (ℕ × T)) → edited_page (λ value. None) o ≡ None =
      λ o. elim o as (λ o. edited_page (λ value. None) o ≡ None)
      [ None ↦ refl | Some p ↦ refl ] in
      λ i page. if in_pages first pages page then none (at page) i else at page

  pub changed-is : (first pages : ℕ) (change : T → T) (at : ℕ → Option (ℕ × T))
      → edited_span first pages (λ value. Some (change value)) at ≡ changed_span first pages change
      at
  changed-is first pages change at =
      let one : (o : Option (ℕ × T)) → edited_page (λ value. Some (change value)) o
      ≡ changed_page change o =
      λ o. elim o as (λ o. edited_page (λ value. Some (change value)) o ≡ changed_page change o)
      [ None ↦ refl | Some p ↦ refl ] in
      λ i page. if in_pages first pages page then one (at page) i else at page

pub on_ok : {A E P Q : Type 0} (r : Result A E) → (P → Q) → OnOk r P → OnOk r Q
on_ok (Ok x) f h = f h
on_ok (Err e) f h = tt

-- the cause by a count
pub no-memory : (limit n : ℕ) → n ≤ limit
    → NoMemory ≡ (if nat_lt limit n then TooManyRanges else NoMemory)
no-memory limit n few = rw (le-ltb limit n few) refl

pub too-many : (limit n : ℕ) → limit < n
    → TooManyRanges ≡ (if nat_lt limit n then TooManyRanges else NoMemory)
too-many limit n many = rw (lt-ltb limit n many) refl
