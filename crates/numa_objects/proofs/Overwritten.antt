-- Runs of which a span gets another policy: what they say of each place, and that they rise.
use Rattle.std.proofs.Common.{◌≡◌, ℕ, ◌+◌, ◌-◌, ◌<◌, ◌≤◌, ◌^◌, min, max, true, false, Option, Some}
use Rattle.std.proofs.Common.{None, List, [], ◌∷◌, ◌++◌, length, refl, sym, ap, ◌∙◌, arith, inl, inr}
use Rattle.std.specs.Prelude.{if◌then◌else◌, option_map}
use Rattle.std.specs.Option.{ForSome}
use Rattle.std.proofs.lemmas.Bool.{cases_lt, cases_Bool, lt-ltb, le-ltb}
use Rattle.std.proofs.lemmas.Bool.Decides.{nat_tests}
use Rattle.numa_mode.specs.Policy.{PolicyRecord}
use Rattle.numa_ranges.specs.Runs.{page_at, in_pages, end_of, AreApart}
use Rattle.numa_ranges.specs.Edits.{maximal_runs, part_before, part_from}
use Rattle.numa_ranges.specs.declared.run.Run.{Run}
use Rattle.numa_ranges.proofs.Apart.{apart-top, in_pages-true, in_pages-below, in_pages-above}
use Rattle.numa_ranges.proofs.Cut.{apart-lower}
use Rattle.numa_ranges.proofs.Spans.{count-joined}
use Rattle.numa_objects.specs.Changes.{bound_policy}
use Rattle.numa_objects.specs.Counting.{befores, behinds, bound_run, overwritten}
use Rattle.numa_objects.specs.Exact.{policy-exact}
use Rattle.numa_objects.specs.Objects.{by_place, ranges_by}
use Rattle.numa_objects.specs.Same.{same_policy}
use Rattle.numa_objects.proofs.Same.{same_policy-refl}

-- ---- what a list of runs says

else_at : {A : Type 0} → Option A → Option A → Option A
else_at None other = other
else_at (Some x) other = Some x

else-none : {A : Type 0} (o : Option A) → else_at o None ≡ o
unfolding else_at
else-none None = refl
else-none (Some x) = refl

page_at-both : (xs ys : List (Run PolicyRecord)) (page : ℕ) → page_at (xs ++ ys) page
    ≡ else_at (page_at xs page) (page_at ys page)
unfolding else_at
page_at-both [] ys page = refl
page_at-both (run ∷ xs) ys page =
    elim (cases_Bool (in_pages run.first run.pages page)) [
      | inl here ↦ rw here refl
      | inr past ↦ rw past (page_at-both xs ys page)
    ]

-- ---- what stands before a place

before-said : (cut : ℕ) (run : Run PolicyRecord) (rest : List (Run PolicyRecord)) (page : ℕ)
    → page < cut → page_at (part_before cut run ++ rest) page
    ≡ (if in_pages run.first run.pages page then Some (run.index + (page - run.first), run.value)
    else page_at rest page)
before-said cut run rest page low =
    elim (cases_lt run.first cut) [
      | inl some ↦
          let shorter : in_pages run.first (min run.pages (cut - run.first)) page
          ≡ in_pages run.first run.pages page = grind (arith, nat_tests) in
          rw (lt-ltb _ _ some)
          (ap (λ b. if b then Some (run.index + (page - run.first), run.value) else page_at
          rest page) shorter)
      | inr none ↦ rw (le-ltb _ _ none, in_pages-below run.first run.pages page (omega arith))
          refl
    ]

before-silent : (cut : ℕ) (run : Run PolicyRecord) (rest : List (Run PolicyRecord)) (page : ℕ)
    → cut ≤ page → page_at (part_before cut run ++ rest) page ≡ page_at rest page
before-silent cut run rest page high =
    elim (cases_lt run.first cut) [
      | inl some ↦
          rw (
            lt-ltb _ _ some,
            in_pages-above run.first (min run.pages (cut - run.first)) page
                (omega arith),
          ) refl
      | inr none ↦ rw (le-ltb _ _ none) refl
    ]

pub befores-below : (first page : ℕ) (runs : List (Run PolicyRecord)) → page < first
    → page_at (befores first runs) page ≡ page_at runs page
befores-below first page [] low = refl
befores-below first page (run ∷ runs) low =
    before-said first run (befores first runs) page low
    ∙ ap (λ o. if in_pages run.first run.pages page
    then Some (run.index + (page - run.first), run.value) else o) (befores-below first page runs low)

pub befores-from : (first page : ℕ) (runs : List (Run PolicyRecord)) → first ≤ page
    → page_at (befores first runs) page ≡ None
befores-from first page [] high = refl
befores-from first page (run ∷ runs) high =
    before-silent first run (befores first runs) page high ∙ befores-from first page runs high

-- ---- what stands from a place on

from-said : (cut : ℕ) (run : Run PolicyRecord) (rest : List (Run PolicyRecord)) (page : ℕ)
    → cut ≤ page → page_at (part_from cut run ++ rest) page
    ≡ (if in_pages run.first run.pages page then Some (run.index + (page - run.first), run.value)
    else page_at rest page)
from-said cut run rest page high =
    elim (cases_lt cut (end_of run)) [
      | inr none ↦ rw (le-ltb _ _ none, in_pages-above run.first run.pages page (omega arith))
          refl
      | inl some ↦ elim (cases_lt page run.first) [
        | inl early ↦
            rw (
              lt-ltb _ _ some,
              in_pages-below (max cut run.first)
                  (end_of run - max cut run.first) page (omega arith),
              in_pages-below run.first run.pages page early,
            ) refl
        | inr late ↦ elim (cases_lt page (end_of run)) [
          | inl here ↦
              let place : run.index + (max cut run.first - run.first) + (page - max cut run.first)
              ≡ run.index + (page - run.first) = omega arith in
              rw (
                lt-ltb _ _ some,
                in_pages-true (max cut run.first) (end_of run - max cut run.first) page
                    (omega arith) (omega arith),
                in_pages-true run.first run.pages page late here,
              )
              (ap (λ n. Some (n, run.value)) place)
          | inr past ↦
              rw (
                lt-ltb _ _ some,
                in_pages-above (max cut run.first) (end_of run - max cut run.first) page
                    (omega arith),
                in_pages-above run.first run.pages page past,
              ) refl
        ]
      ]
    ]

from-silent : (cut : ℕ) (run : Run PolicyRecord) (rest : List (Run PolicyRecord)) (page : ℕ)
    → page < cut → page_at (part_from cut run ++ rest) page ≡ page_at rest page
from-silent cut run rest page low =
    elim (cases_lt cut (end_of run)) [
      | inl some ↦
          rw (
            lt-ltb _ _ some,
            in_pages-below (max cut run.first) (end_of run - max cut run.first)
                page (omega arith),
          ) refl
      | inr none ↦ rw (le-ltb _ _ none) refl
    ]

pub behinds-from : (end page : ℕ) (runs : List (Run PolicyRecord)) → end ≤ page
    → page_at (behinds end runs) page ≡ page_at runs page
behinds-from end page [] high = refl
behinds-from end page (run ∷ runs) high =
    from-said end run (behinds end runs) page high
    ∙ ap (λ o. if in_pages run.first run.pages page
    then Some (run.index + (page - run.first), run.value) else o) (behinds-from end page runs high)

pub behinds-below : (end page : ℕ) (runs : List (Run PolicyRecord)) → page < end
    → page_at (behinds end runs) page ≡ None
behinds-below end page [] low = refl
behinds-below end page (run ∷ runs) low =
    from-silent end run (behinds end runs) page low ∙ behinds-below end page runs low

-- ---- the span

bound-inside : (first pages page : ℕ) (policy : Option PolicyRecord) → first ≤ page
    → page < first + pages
    → page_at (bound_run first pages policy) page ≡ option_map (λ r. (page, r)) policy
bound-inside first pages page None low high = refl
bound-inside first pages page (Some r) low high =
    let place : first + (page - first) ≡ page = omega arith in
    rw (in_pages-true first pages page low high) (ap (λ n. Some (n, r)) place)

bound-below : (first pages page : ℕ) (policy : Option PolicyRecord) → page < first
    → page_at (bound_run first pages policy) page ≡ None
bound-below first pages page None low = refl
bound-below first pages page (Some r) low = rw (in_pages-below first pages page low) refl

bound-above : (first pages page : ℕ) (policy : Option PolicyRecord) → first + pages ≤ page
    → page_at (bound_run first pages policy) page ≡ None
bound-above first pages page None high = refl
bound-above first pages page (Some r) high = rw (in_pages-above first pages page high) refl

-- ---- the whole

-- a place's index is the place, so a map of places is told by the policies alone
pub itself : (o : Option (ℕ × PolicyRecord)) (place : ℕ) → ForSome o (λ at. at.0 ≡ place)
    → option_map (λ r. (place, r)) (option_map (λ at. at.1) o) ≡ o
itself None place is = refl
itself (Some at) place is = ap (λ n. Some (n, at.1)) (sym (is at refl))

pub says-overwritten : (first pages : ℕ) (policy : Option PolicyRecord)
    (runs : List (Run PolicyRecord)) → ((place : ℕ) → ForSome (page_at runs place)
    (λ at. at.0 ≡ place)) → (page : ℕ) → page_at (overwritten first pages policy runs) page
    ≡ by_place (bound_policy first pages policy (λ place. option_map (λ at. at.1)
    (page_at runs place))) page
unfolding else_at
says-overwritten first pages policy runs places page =
    let front = befores first runs in
    let span = bound_run first pages policy in
    let back = behinds (first + pages) runs in
    let all : page_at (front ++ (span ++ back)) page
    ≡ else_at (page_at front page) (else_at (page_at span page) (page_at back page)) =
    page_at-both front (span ++ back) page
    ∙ ap (else_at (page_at front page)) (page_at-both span back page) in
    all ∙ elim (cases_lt page first) [
      | inl low ↦
          rw (
            befores-below first page runs low,
            bound-below first pages page policy low,
            behinds-below (first + pages) page runs (omega (arith, low)),
            in_pages-below first pages page low,
          ) (else-none (page_at runs page) ∙ sym (itself (page_at runs page) page (places page)))
      | inr from ↦ elim (cases_lt page (first + pages)) [
        | inl here ↦
            rw (
              befores-from first page runs from,
              bound-inside first pages page policy from here,
              behinds-below (first + pages) page runs here,
              in_pages-true first pages page from here,
            ) (else-none (option_map (λ r. (page, r)) policy))
        | inr past ↦
            rw (
              befores-from first page runs from,
              bound-above first pages page policy past,
              behinds-from (first + pages) page runs past,
              in_pages-above first pages page past,
            ) (sym (itself (page_at runs page) page (places page)))
      ]
    ]

-- ---- that they rise

apart-befores : (from first : ℕ) (runs rest : List (Run PolicyRecord)) → AreApart from runs
    → from ≤ first → AreApart first rest → AreApart from (befores first runs ++ rest)
apart-befores from first [] rest apart low behind = apart-lower from first rest low behind
apart-befores from first (run ∷ runs) rest apart low behind =
    elim (cases_lt run.first first) [
      | inl some ↦
          let end = run.first + min run.pages (first - run.first) in
          rw (lt-ltb _ _ some) (
            apart.0,
            omega (arith, apart.1, some),
            omega (arith, apart.2),
            apart-befores end first runs rest (apart-lower end (end_of run) runs (omega arith)
                apart.3) (omega (arith, some)) behind,
          )
      | inr none ↦
          rw (le-ltb _ _ none)
          (apart-befores from first runs rest
          (apart-lower from (end_of run) runs (omega (arith, apart.0)) apart.3) low behind)
    ]

apart-behinds : (from end low : ℕ) (runs : List (Run PolicyRecord)) → AreApart from runs
    → low ≤ 2 ^ 35 → low ≤ max from end → AreApart low (behinds end runs)
apart-behinds from end low [] apart few below = few
apart-behinds from end low (run ∷ runs) apart few below =
    elim (cases_lt end (end_of run)) [
      | inl some ↦
          let next = max end run.first + (end_of run - max end run.first) in
          rw (lt-ltb _ _ some) (
            omega (arith, apart.0, below),
            omega (arith, apart.1, some),
            omega (arith, apart.2, some),
            apart-behinds (end_of run) end next runs apart.3
                (omega (arith, some, apart.1, apart-top (end_of run) runs apart.3))
                (omega (arith, some, apart.1)),
          )
      | inr none ↦
          rw (le-ltb _ _ none)
          (apart-behinds (end_of run) end low runs apart.3 few (omega (arith, apart.0, below)))
    ]

apart-span : (first pages : ℕ) (policy : Option PolicyRecord) (back : List (Run PolicyRecord))
    → 0 < pages → first + pages ≤ 2 ^ 35 → AreApart (first + pages) back
    → AreApart first (bound_run first pages policy ++ back)
apart-span first pages None back some within behind =
    apart-lower first (first + pages) back (omega arith) behind
apart-span first pages (Some r) back some within behind =
    (omega arith, some, omega (arith, within), behind)

pub apart-overwritten : (first pages : ℕ) (policy : Option PolicyRecord)
    (runs : List (Run PolicyRecord)) → AreApart 0 runs → 0 < pages → first + pages ≤ 2 ^ 35
    → AreApart 0 (overwritten first pages policy runs)
apart-overwritten first pages policy runs apart some within =
    let end = first + pages in
    apart-befores 0 first runs (bound_run first pages policy ++ behinds end runs) apart (omega arith)
    (apart-span first pages policy (behinds end runs) some within
    (apart-behinds 0 end end runs apart within (omega arith)))

-- ---- how many ranges there are

pub whole-map : (runs : List (Run PolicyRecord)) → ((place : ℕ) → ForSome (page_at runs place)
    (λ at. at.0 ≡ place)) → by_place (λ place. option_map (λ at. at.1) (page_at runs place))
    ≡ page_at runs
whole-map runs places = λ i page. itself (page_at runs page) page (places page) i

pub count-after : (first pages : ℕ) (policy : Option PolicyRecord)
    (runs : List (Run PolicyRecord)) → AreApart 0 runs → 0 < pages → first + pages ≤ 2 ^ 35
    → ((place : ℕ) → ForSome (page_at runs place) (λ at. at.0 ≡ place))
    → ranges_by (bound_policy first pages policy (λ place. option_map (λ at. at.1)
    (page_at runs place))) ≡ length (maximal_runs same_policy (overwritten first pages policy runs))
count-after first pages policy runs apart some within places =
    count-joined same_policy policy-exact same_policy-refl (overwritten first pages policy runs)
    (by_place (bound_policy first pages policy (λ place. option_map (λ at. at.1)
    (page_at runs place)))) (apart-overwritten first pages policy runs apart some within)
    (says-overwritten first pages policy runs places)
