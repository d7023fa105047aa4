-- From page 2^35 on no page is mapped, so that a span means no more than its part below.
use Rattle.std.proofs.Common.{◌≡◌, ℕ, ◌+◌, ◌-◌, ◌<◌, ◌≤◌, ◌^◌, Bool, true, false, not, is_some}
use Rattle.std.proofs.Common.{Option, None, Result, Ok, List, [], ◌∷◌, refl, sym, ap, ◌∙◌, subst}
use Rattle.std.proofs.Common.{arith, inl, inr, nat_lt}
use Rattle.std.specs.Prelude.{if◌then◌else◌}
use Rattle.std.proofs.lemmas.Bool.{cases_lt, lt-ltb}
use Rattle.numa_mode.specs.Policy.{PolicyRecord}
use Rattle.numa_ranges.specs.Counts.{range_count}
use Rattle.numa_ranges.specs.Maps.{any_page, changed_page, changed_span}
use Rattle.numa_ranges.specs.Runs.{page_at, end_of, in_pages, AreApart}
use Rattle.numa_ranges.specs.declared.run.Run.{Run}
use Rattle.numa_ranges.proofs.Apart.{in_pages-above, in_pages-below, apart-top}
use Rattle.numa_ranges.proofs.Pages.{any_page-true}
use Rattle.numa_requests.specs.declared.refusal.Refusal.{Refusal}
use Rattle.numa_space.specs.Edits.{AreMappable, IsEdit, PageRanges, too_many}
use Rattle.numa_space.specs.Refusals.{PageMap}
use Rattle.numa_space.specs.Same.{same_record}

pub page-past : (from : ℕ) (runs : List (Run (Option PolicyRecord))) (page : ℕ)
    → AreApart from runs → 2 ^ 35 ≤ page → page_at runs page ≡ None
page-past from [] page apart far = refl
page-past from (run ∷ runs) page apart far =
    let top = apart-top (end_of run) runs apart.3 in
    rw (in_pages-above run.first run.pages page (omega arith))
    (page-past (end_of run) runs page apart.3 far)

-- a span that ends behind has a hole
pub past-hole : (runs : List (Run (Option PolicyRecord))) (first pages : ℕ) → AreApart 0 runs
    → 0 < pages → 2 ^ 35 < first + pages
    → any_page (λ page. not (is_some (page_at runs page))) first pages ≡ true
past-hole runs first pages apart some far =
    any_page-true (λ page. not (is_some (page_at runs page))) first pages (first + pages - 1)
    (omega arith) (omega arith)
    (let last : page_at runs (first + pages - 1) ≡ None =
    page-past 0 runs (first + pages - 1) apart (omega arith) in rw last refl)

-- a page below is one of the span, where it is one of the part
mappable-pages : (first pages there page : ℕ) → AreMappable first pages there → page < 2 ^ 35
    → in_pages first there page ≡ in_pages first pages page
mappable-pages first pages there page is low =
    elim (cases_lt (first + there) (2 ^ 35)) [
      | inl short ↦ ap (λ (n : ℕ). in_pages first n page) (is.all short)
      | inr long ↦
          let part : nat_lt page (first + there) ≡ true =
          lt-ltb page (first + there) (omega (arith, long, low)) in
          let whole : nat_lt page (first + pages) ≡ true =
          lt-ltb page (first + pages) (omega (arith, long, low, is.at_most)) in
          rw (part, whole) refl
    ]

module _ (runs : List (Run (Option PolicyRecord))) (apart : AreApart 0 runs) (first pages : ℕ)
    (change : Option PolicyRecord → Option PolicyRecord) where
  same-none : (a b : Bool)
      → (if a then changed_page {T = Option PolicyRecord} change None else None)
      ≡ (if b then changed_page change None else None)
  same-none true true = refl
  same-none true false = refl
  same-none false true = refl
  same-none false false = refl

  same-page : (there : ℕ) → AreMappable first pages there → (page : ℕ)
      → changed_span first there change (page_at runs) page
      ≡ changed_span first pages change (page_at runs) page
  same-page there is page =
      elim (cases_lt page (2 ^ 35)) [
        | inl low ↦ ap (λ (b : Bool). if b then changed_page change (page_at runs page)
            else page_at runs page) (mappable-pages first pages there page is low)
        | inr high ↦ rw (page-past 0 runs page apart high)
            (same-none (in_pages first there page) (in_pages first pages page))
      ]

  -- to change the part is to change the span
  pub change-mappable : (there : ℕ) → AreMappable first pages there
      → changed_span first there change (page_at runs)
      ≡ changed_span first pages change (page_at runs)
  change-mappable there is = λ i page. same-page there is page i

  no-page : (page : ℕ) → in_pages first 0 page ≡ false
  no-page page =
      elim (cases_lt page first) [
        | inl low ↦ in_pages-below first 0 page low
        | inr high ↦ in_pages-above first 0 page (omega arith)
      ]

  same-rest : (page : ℕ) → changed_span first 0 change (page_at runs) page ≡ page_at runs page
  same-rest page = rw (no-page page) refl

  change-none : AreMappable first pages 0
      → page_at runs ≡ changed_span first pages change (page_at runs)
  change-none is = (λ i page. sym (same-rest page) i) ∙ change-mappable 0 is

-- an edit of the part is one of the span
pub edit-mappable : (now new : PageRanges) → AreApart 0 now.runs → (first pages there : ℕ)
    → AreMappable first pages there → (change : Option PolicyRecord → Option PolicyRecord)
    → (result : Result (Unit {0}) Refusal)
    → IsEdit (too_many now.limit (changed_span first there change (page_at now.runs)))
    (changed_span first there change (page_at now.runs)) now result new
    → IsEdit (too_many now.limit (changed_span first pages change (page_at now.runs)))
    (changed_span first pages change (page_at now.runs)) now result new
edit-mappable now new apart first pages there is change result edit =
    subst (λ (after : PageMap). IsEdit (too_many now.limit after) after now result new)
    (change-mappable now.runs apart first pages change there is) edit

-- where the part has no page nothing is edited
pub edit-none : (now : PageRanges) → AreApart 0 now.runs → (first pages : ℕ)
    → AreMappable first pages 0 → (change : Option PolicyRecord → Option PolicyRecord)
    → nat_lt now.limit (range_count same_record (page_at now.runs)) ≡ false
    → IsEdit (too_many now.limit (changed_span first pages change (page_at now.runs)))
    (changed_span first pages change (page_at now.runs)) now (Ok (tt {0})) now
edit-none now apart first pages is change few =
    subst (λ (after : PageMap). IsEdit (too_many now.limit after) after now (Ok (tt {0})) now)
    (change-none now.runs apart first pages change is)
    (let none : too_many now.limit (page_at now.runs) ≡ None = rw few refl in
    rw none (λ page. refl))
