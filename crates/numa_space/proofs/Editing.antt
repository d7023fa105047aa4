-- What a map of pages answers, as a space's refusals.
use Rattle.std.proofs.Common.{◌≡◌, ℕ, Bool, true, false, Option, Some, None, Result, Ok, Err, OnOk}
use Rattle.std.proofs.Common.{OnErr, IfErr, MatchResult, is_some, not, refl, sym, ap, ◌∙◌, subst}
use Rattle.std.specs.Prelude.{nat_lt, if◌then◌else◌}
use Rattle.std.specs.Option.{option_map}
use Rattle.numa_mode.specs.Policy.{PolicyRecord}
use Rattle.numa_ranges.specs.Maps.{any_page}
use Rattle.numa_ranges.specs.Runs.{page_at}
use Rattle.numa_ranges.specs.Counts.{range_count}
use Rattle.numa_ranges.specs.Maps.{IsRefusal, count_refusal, map_refusal, set_refusal, with_span}
use Rattle.numa_ranges.specs.Maps.{changed_span}
use Rattle.numa_ranges.specs.Ranges.{Ranges}
use Rattle.numa_ranges.specs.declared.fault.RangeError.{RangeError}
use Rattle.numa_ranges.specs.declared.fault.RangeError.TheVariants as fault
use Rattle.numa_requests.specs.declared.refusal.Refusal.{Refusal}
use Rattle.numa_requests.specs.declared.refusal.Refusal.TheVariants.{Overlap, Hole, TooManyRanges}
use Rattle.numa_space.specs.Edits.{PageRanges, IsEdit, too_many, overlap_cause, hole_cause}
use Rattle.numa_space.specs.Edits.{refusal_from}
use Rattle.numa_space.specs.Refusals.{PageMap, first_of, when}
use Rattle.numa_space.specs.Same.{same_record}

-- a test of records
abbrev pub Test : Type 0
Test = Option PolicyRecord → Option PolicyRecord → Bool

pub count-cause : (same : Test) → same ≡ same_record → (limit : ℕ) (after : PageMap)
    → option_map refusal_from (count_refusal same limit after) ≡ too_many limit after
count-cause same e limit after =
    let P : Test → Type 0 = λ s. option_map refusal_from (count_refusal s limit after)
    ≡ too_many limit after in
    subst P (sym e)
    (elim (nat_lt limit (range_count same_record after)) as
    (λ b. option_map refusal_from (if b then Some fault.TooManyRanges else None)
    ≡ when b TooManyRanges) [ true ↦ refl | false ↦ refl ])

pub map-cause : (same : Test) → same ≡ same_record
    → (limit : ℕ) (at : PageMap) (first pages index : ℕ) (value : Option PolicyRecord)
    → option_map refusal_from (map_refusal same limit at first pages index value)
    ≡ first_of (overlap_cause at first pages)
    (too_many limit (with_span first pages index value at))
map-cause same e limit at first pages index value =
    elim (any_page (λ page. is_some (at page)) first pages) as
    (λ b.
    option_map refusal_from
    (if b then Some fault.Overlap else count_refusal same limit
    (with_span first pages index value at)) ≡ first_of (when b Overlap)
    (too_many limit (with_span first pages index value at))) [
      | true ↦ refl
      | false ↦ count-cause same e limit (with_span first pages index value at)
    ]

pub set-cause : (same : Test) → same ≡ same_record → (limit : ℕ) (at : PageMap) (first pages : ℕ)
    (value : Option PolicyRecord)
    → option_map refusal_from (set_refusal same limit at first pages value)
    ≡ first_of (hole_cause false at first pages)
    (too_many limit (changed_span first pages (λ old. value) at))
set-cause same e limit at first pages value =
    elim (any_page (λ page. not (is_some (at page))) first pages) as
    (λ b.
    option_map refusal_from
    (if b then Some fault.Hole else count_refusal same limit
    (changed_span first pages (λ old. value) at)) ≡ first_of (when b Hole)
    (too_many limit (changed_span first pages (λ old. value) at))) [
      | true ↦ refl
      | false ↦ count-cause same e limit (changed_span first pages (λ old. value) at)
    ]

-- an edit, from what the map answered
pub edit-from : (cause : Option RangeError) (named : Option Refusal) (after : PageMap)
    (old new : PageRanges) (inner : Result (Unit {0}) RangeError)
    (outer : Result (Unit {0}) Refusal)
    → option_map refusal_from cause ≡ named
    → OnOk inner ((page : ℕ) → page_at new.runs page ≡ after page)
    → OnOk inner (cause ≡ None)
    → IfErr inner (IsRefusal cause)
    → OnErr inner (new ≡ old)
    → MatchResult inner (λ done. outer ≡ Ok done) (λ f. outer ≡ Err (refusal_from f))
    → IsEdit named after old outer new
edit-from cause named after old new inner outer same done free err kept answered =
    let P : Option Refusal → Type 0 = λ n. IsEdit n after old outer new in
    subst P same (by_inner cause inner done free err kept answered)
  where
    by_inner : (c : Option RangeError) (inner : Result (Unit {0}) RangeError)
        → OnOk inner ((page : ℕ) → page_at new.runs page ≡ after page)
        → OnOk inner (c ≡ None)
        → IfErr inner (IsRefusal c)
        → OnErr inner (new ≡ old)
        → MatchResult inner (λ done. outer ≡ Ok done) (λ f. outer ≡ Err (refusal_from f))
        → IsEdit (option_map refusal_from c) after old outer new
    by_inner None (Ok u) done free err kept answered = rw answered done
    by_inner None (Err f) done free err kept answered = rw answered (ap refusal_from err, kept)
    by_inner (Some first) (Ok u) done free err kept answered = absurd (cc)
    by_inner (Some first) (Err f) done free err kept answered =
        (answered ∙ ap (λ x. Err (refusal_from x)) err, kept)

-- what a map shows
abbrev pub shown : Ranges (Option PolicyRecord) → PageRanges
shown map = record { runs = map.runs; limit = map.max_ranges }

kept_shown : (inner : Result (Unit {0}) RangeError) (old new : Ranges (Option PolicyRecord))
    → OnErr inner (new ≡ old) → OnErr inner (shown new ≡ shown old)
kept_shown (Ok u) old new h = tt
kept_shown (Err f) old new h = ap shown h

module _ (same : Test) (e : same ≡ same_record) (old new : Ranges (Option PolicyRecord))
    (now : PageRanges) (view_is : shown old ≡ now) (first pages : ℕ)
    (inner : Result (Unit {0}) RangeError) (outer : Result (Unit {0}) Refusal)
    (answered : MatchResult inner (λ done. outer ≡ Ok done) (λ f. outer ≡ Err (refusal_from f)))
    (unchanged : OnErr inner (new ≡ old)) where
  pub map-edit : (index : ℕ) (value wanted : Option PolicyRecord) → value ≡ wanted
      → OnOk inner ((page : ℕ) → page_at new.runs page ≡ with_span first pages index value
      (page_at old.runs) page)
      → OnOk inner (map_refusal same old.max_ranges (page_at old.runs) first pages index value
      ≡ None)
      → IfErr inner
      (IsRefusal (map_refusal same old.max_ranges (page_at old.runs) first pages index value))
      → IsEdit
      (first_of (overlap_cause (page_at now.runs) first pages)
      (too_many now.limit (with_span first pages index wanted (page_at now.runs))))
      (with_span first pages index wanted (page_at now.runs)) now outer (shown new)
  map-edit index value wanted is ok accepted err =
      let P : PageRanges → Type 0 =
      λ s.
      IsEdit (first_of (overlap_cause (page_at s.runs) first pages)
      (too_many s.limit (with_span first pages index wanted (page_at s.runs))))
      (with_span first pages index wanted (page_at s.runs)) s outer (shown new) in
      let Q : Option PolicyRecord → Type 0 =
      λ v.
      IsEdit (first_of (overlap_cause (page_at old.runs) first pages)
      (too_many old.max_ranges (with_span first pages index v (page_at old.runs))))
      (with_span first pages index v (page_at old.runs)) (shown old) outer (shown new) in
      subst P view_is (subst Q is
      (edit-from (map_refusal same old.max_ranges (page_at old.runs) first pages index value) _
      (with_span first pages index value (page_at old.runs)) (shown old) (shown new) inner outer
      (map-cause same e old.max_ranges (page_at old.runs) first pages index value) ok accepted err
      (kept_shown inner old new unchanged) answered))

  pub set-edit : (value wanted : Option PolicyRecord) → value ≡ wanted
      → OnOk inner ((page : ℕ) → page_at new.runs page ≡ changed_span first pages (λ old. value)
      (page_at old.runs) page)
      → OnOk inner (set_refusal same old.max_ranges (page_at old.runs) first pages value ≡ None)
      → IfErr inner
      (IsRefusal (set_refusal same old.max_ranges (page_at old.runs) first pages value))
      → IsEdit
      (first_of (hole_cause false (page_at now.runs) first pages)
      (too_many now.limit (changed_span first pages (λ old. wanted) (page_at now.runs))))
      (changed_span first pages (λ old. wanted) (page_at now.runs)) now outer (shown new)
  set-edit value wanted is ok accepted err =
      let P : PageRanges → Type 0 =
      λ s.
      IsEdit (first_of (hole_cause false (page_at s.runs) first pages)
      (too_many s.limit (changed_span first pages (λ old. wanted) (page_at s.runs))))
      (changed_span first pages (λ old. wanted) (page_at s.runs)) s outer (shown new) in
      let Q : Option PolicyRecord → Type 0 =
      λ v.
      IsEdit (first_of (hole_cause false (page_at old.runs) first pages)
      (too_many old.max_ranges (changed_span first pages (λ old. v) (page_at old.runs))))
      (changed_span first pages (λ old. v) (page_at old.runs)) (shown old) outer (shown new) in
      subst P view_is (subst Q is
      (edit-from (set_refusal same old.max_ranges (page_at old.runs) first pages value) _
      (changed_span first pages (λ old. value) (page_at old.runs)) (shown old) (shown new) inner
      outer
      (set-cause same e old.max_ranges (page_at old.runs) first pages value) ok accepted err
      (kept_shown inner old new unchanged) answered))

  -- an edit that only the number of ranges can refuse
  pub count-edit : (after : PageMap → PageMap)
      → OnOk inner ((page : ℕ) → page_at new.runs page ≡ after (page_at old.runs) page)
      → OnOk inner (count_refusal same old.max_ranges (after (page_at old.runs)) ≡ None)
      → IfErr inner (IsRefusal (count_refusal same old.max_ranges (after (page_at old.runs))))
      → IsEdit (too_many now.limit (after (page_at now.runs))) (after (page_at now.runs)) now outer
      (shown new)
  count-edit after ok accepted err =
      let P : PageRanges → Type 0 = λ s. IsEdit (too_many s.limit (after (page_at s.runs)))
      (after (page_at s.runs)) s outer (shown new) in
      subst P view_is
      (edit-from (count_refusal same old.max_ranges (after (page_at old.runs))) _
      (after (page_at old.runs)) (shown old) (shown new) inner outer
      (count-cause same e old.max_ranges (after (page_at old.runs))) ok accepted err
      (kept_shown inner old new unchanged) answered)
