-- The areas of a span, one after the other: up to which page they are judged where it has a hole.
use Rattle.std.proofs.Common.{◌≡◌, ℕ, zero, suc, ◌+◌, ◌-◌, ◌<◌, ◌≤◌, true, false}
use Rattle.std.proofs.Common.{Option, None, List, [], ◌∷◌, is_some, eqb, refl, sym, ap, ◌∙◌}
use Rattle.std.proofs.Common.{arith, inl, inr}
use Rattle.std.specs.Prelude.{Contains, ◌==◌, min, max, nat_lt, if◌then◌else◌}
use Rattle.std.proofs.lemmas.Bool.{cases_Bool, cases_lt, eq-eqb, ne_eqb, lt-ltb, le-ltb}
use Rattle.numa_mode.specs.Policy.{PolicyRecord}
use Rattle.numa_ranges.specs.Counts.{IsRange, is_start}
use Rattle.numa_ranges.specs.Runs.{page_at, end_of, AreApart}
use Rattle.numa_ranges.specs.declared.run.Run.{Run}
use Rattle.numa_ranges.proofs.Apart.{page_at-before, in_pages-above}
use Rattle.numa_space.specs.Refusals.{PageMap}
use Rattle.numa_space.specs.Same.{same_record}
use Rattle.numa_space.proofs.Same.{same_record-refl}
use Rattle.numa_placed.specs.Astray.{judged_end}

abbrev pub Range : Type 0
Range = Run (Option PolicyRecord)

-- where the walk ends before a page, if there is one to come
abbrev pub ended : ℕ → ℕ → ℕ → ℕ
ended area page end = if page == end then end else area

-- the pages up to `end`, range by range
abbrev pub walked : List Range → ℕ → ℕ → ℕ → ℕ
walked [] area page end = ended area page end
walked (run ∷ runs) area page end = if page == end then end
    else if nat_lt page run.first then area
    else walked runs (if run.first == page then page else area)
    (max page (min end (end_of run))) end

-- ---- the pages of a range

-- it begins at none but its first
no-start : (map : PageMap) (run : Range) (page : ℕ) → IsRange same_record map run
    → run.first < page → page < end_of run → is_start same_record map page ≡ false
no-start map run zero is low high = absurd (omega arith)
no-start map run (suc page) is low high =
    let here = is.pages (suc page) (omega arith) high in
    let before = is.pages page (omega arith) (omega arith) in
    let next : run.index + (suc page - run.first) ≡ run.index + (page - run.first) + 1 =
    omega arith in
    let steps : eqb (run.index + (suc page - run.first)) (run.index + (page - run.first) + 1)
    ≡ true = eq-eqb _ _ next in
    rw (here, before, steps, same_record-refl run.value) refl

-- n pages of it behind its first
behind-first : (map : PageMap) (run : Range) → IsRange same_record map run → (n m k area page : ℕ)
    → n + m ≡ k → run.first < page → page + n ≤ end_of run
    → judged_end map area page k ≡ judged_end map area (page + n) m
unfolding judged_end
behind-first map run is zero m k area page e low high =
    let same : m ≡ k = omega (arith, e) in
    let there : page ≡ page + 0 = omega arith in
    λ i. judged_end map area (there i) (sym same i)
behind-first map run is (suc n) m zero area page e low high = absurd (omega (arith, e))
behind-first map run is (suc n) m (suc k) area page e low high =
    let there : page + 1 + n ≡ page + suc n = omega arith in
    rw (
      is.pages page (omega arith) (omega arith),
      no-start map run page is low (omega arith),
    ) (behind-first map run is n m k area (page + 1) (omega (arith, e)) (omega arith) (omega arith)
    ∙ ap (λ p. judged_end map area p m) there)

-- from a page of it up to another, or its end
over : (map : PageMap) (run : Range) → IsRange same_record map run → (n m k area page : ℕ)
    → n + m ≡ k → 0 < n → run.first ≤ page → page + n ≤ end_of run
    → judged_end map area page k
    ≡ judged_end map (if run.first == page then page else area) (page + n) m
unfolding judged_end
over map run is zero m k area page e some low high = absurd (omega arith)
over map run is (suc n) m zero area page e some low high = absurd (omega (arith, e))
over map run is (suc n) m (suc k) area page e some low high =
    let there : page + 1 + n ≡ page + suc n = omega arith in
    elim (cases_lt run.first page) [
      | inl l ↦
          let later : (run.first == page) ≡ false =
          ne_eqb run.first page (λ e. absurd (omega (arith, e))) in
          rw (
            later,
            is.pages page (omega arith) (omega arith),
            no-start map run page is l (omega arith),
          ) (behind-first map run is n m k area (page + 1) (omega (arith, e)) (omega arith)
          (omega arith) ∙ ap (λ p. judged_end map area p m) there)
      | inr l ↦
          let first : run.first ≡ page = omega arith in
          let begins : is_start same_record map page ≡ true =
          ap (is_start same_record map) (sym first) ∙ is.begins in
          let here : (run.first == page) ≡ true = eq-eqb run.first page first in
          rw (
            here,
            is.pages page (omega arith) (omega arith),
            begins,
          ) (behind-first map run is n m k page (page + 1) (omega (arith, e)) (omega arith)
          (omega arith) ∙ ap (λ p. judged_end map page p m) there)
    ]

-- ---- range by range

-- the pages that are left lie in the ranges that are left
pub record AreAhead (map : PageMap) (runs : List Range) (page end : ℕ) : Type 0 where
  pub from : ℕ
  pub apart : AreApart from runs
  pub pages : (p : ℕ) → page ≤ p → p < end → map p ≡ page_at runs p
  pub ranges : (run : Range) → Contains runs run → IsRange same_record map run

ends : (map : PageMap) (area page end : ℕ) → page ≡ end
    → end ≡ judged_end map area page (end - page)
unfolding judged_end
ends map area page end is =
    let none : 0 ≡ end - page = omega (arith, is) in
    sym is ∙ ap (judged_end map area page) none

stops : (map : PageMap) (area page end : ℕ) → page < end → map page ≡ None
    → area ≡ judged_end map area page (end - page)
unfolding judged_end
stops map area page end low none =
    let some : end - page ≡ suc (end - page - 1) = omega arith in
    rw (some, none) refl

-- a range that ends before the page changes nothing
passed-all : (map : PageMap) (run : Range) (runs : List Range) (page end : ℕ)
    → AreAhead map (run ∷ runs) page end → end_of run ≤ page → AreAhead map runs page end
passed-all map run runs page end ahead past =
    record {
      from = end_of run;
      apart = ahead.apart.3;
      pages =
          λ p low high. ahead.pages p low high
          ∙ rw (in_pages-above run.first run.pages p (omega arith)) refl;
      ranges = λ other held. ahead.ranges other (suc held.0, omega (arith, held.1), held.2);
    }

passed-some : (map : PageMap) (run : Range) (runs : List Range) (page next end : ℕ)
    → AreAhead map (run ∷ runs) page end → page ≤ next → (next < end → end_of run ≤ next)
    → AreAhead map runs next end
passed-some map run runs page next end ahead later past =
    record {
      from = end_of run;
      apart = ahead.apart.3;
      pages =
          λ p low high. let here : end_of run ≤ next = past (omega arith) in
          ahead.pages p (omega arith) high
          ∙ rw (in_pages-above run.first run.pages p (omega arith)) refl;
      ranges = λ other held. ahead.ranges other (suc held.0, omega (arith, held.1), held.2);
    }

-- what the walk finds
pub walk-is : (map : PageMap) (runs : List Range) (area page end : ℕ) → page ≤ end
    → AreAhead map runs page end → walked runs area page end
    ≡ judged_end map area page (end - page)
walk-is map [] area page end within ahead =
    elim (cases_lt page end) [
      | inl l ↦
          let more : (page == end) ≡ false = ne_eqb page end (λ e. absurd (omega (arith, e))) in
          rw more (stops map area page end l (ahead.pages page (omega arith) l))
      | inr l ↦
          let done : page ≡ end = omega arith in
          let same : (page == end) ≡ true = eq-eqb page end done in
          rw same (ends map area page end done)
    ]
walk-is map (run ∷ runs) area page end within ahead =
    let some : 0 < run.pages = ahead.apart.1 in
    elim (cases_lt page end) [
      | inr l ↦
          let done : page ≡ end = omega arith in
          let same : (page == end) ≡ true = eq-eqb page end done in
          rw same (ends map area page end done)
      | inl l ↦
          let more : (page == end) ≡ false = ne_eqb page end (λ e. absurd (omega (arith, e))) in
          elim (cases_lt page run.first) [
            | inl hole ↦
                let before : nat_lt page run.first ≡ true = lt-ltb page run.first hole in
                rw (more, before) (stops map area page end l (ahead.pages page (omega arith) l
                ∙ page_at-before run.first (run ∷ runs) page
                (omega arith, ahead.apart.1, ahead.apart.2, ahead.apart.3) hole))
            | inr low ↦
                let on : nat_lt page run.first ≡ false = le-ltb page run.first low in
                elim (cases_lt page (end_of run)) [
                  | inr past ↦
                      let other : (run.first == page) ≡ false =
                      ne_eqb run.first page (λ e. absurd (omega (arith, e))) in
                      let stays : max page (min end (end_of run)) ≡ page = omega arith in
                      rw (more, on, other, stays)
                      (walk-is map runs area page end within
                      (passed-all map run runs page end ahead past))
                  | inl high ↦
                      let next = max page (min end (end_of run)) in
                      let is = ahead.ranges run (0, omega arith, refl) in
                      let there : page + (next - page) ≡ next = omega arith in
                      rw (more, on)
                      (walk-is map runs (if run.first == page then page else area) next end
                      (omega arith)
                      (passed-some map run runs page next end ahead (omega arith)
                      (λ less. omega (arith, less)))
                      ∙ sym (over map run is (next - page) (end - next) (end - page) area page
                      (omega arith) (omega arith) low (omega arith)
                      ∙ ap (λ p. judged_end map (if run.first == page then page else area) p
                      (end - next)) there))
                ]
          ]
    ]

-- ---- what a loop over the ranges keeps

pub walk-begins : (runs : List Range) (first end : ℕ) → first ≤ end → AreApart 0 runs
    → ((run : Range) → Contains runs run → IsRange same_record (page_at runs) run)
    → walked runs first first end ≡ judged_end (page_at runs) first first (end - first)
walk-begins runs first end within apart ranges =
    walk-is (page_at runs) runs first first end within (record {
      from = 0;
      apart = apart;
      pages = λ p low high. refl;
      ranges = ranges;
    })

pub walk-next : (before rest : List Range) (run : Range) (area page next end : ℕ)
    → before ≡ run ∷ rest → (page ≡ end → ⊥) → run.first ≤ page
    → next ≡ max page (min end (end_of run))
    → walked rest (if run.first == page then page else area) next end ≡ walked before area page end
walk-next before rest run area page next end steps more low is =
    rw is (sym (ap (λ (runs : List Range). walked runs area page end) steps
    ∙ rw (ne_eqb page end more, le-ltb page run.first low) refl))

pub walk-hole : (before rest : List Range) (run : Range) (area page end : ℕ) → before ≡ run ∷ rest
    → (page ≡ end → ⊥) → page < run.first → walked before area page end ≡ area
walk-hole before rest run area page end steps more hole =
    ap (λ (runs : List Range). walked runs area page end) steps
    ∙ rw (ne_eqb page end more, lt-ltb page run.first hole) refl

pub walk-done : (runs : List Range) (area page end : ℕ) → page ≡ end
    → walked runs area page end ≡ end
walk-done [] area page end is = rw (eq-eqb page end is) refl
walk-done (run ∷ runs) area page end is = rw (eq-eqb page end is) refl

pub walk-out : (runs : List Range) (area page end : ℕ) → runs ≡ [] → (page ≡ end → ⊥)
    → walked runs area page end ≡ area
walk-out runs area page end none more =
    ap (λ (r : List Range). walked r area page end) none ∙ rw (ne_eqb page end more) refl

-- between the page where it begins and its end
pub judged-within : (map : PageMap) (area page n : ℕ) → area ≤ page
    → (area ≤ judged_end map area page n) × (judged_end map area page n ≤ page + n)
unfolding judged_end
judged-within map area page zero low = (low, omega arith)
judged-within map area page (suc n) low =
    elim (cases_Bool (is_some (map page))) [
      | inr gone ↦ rw gone (omega arith, omega (arith, low))
      | inl there ↦ elim (cases_Bool (is_start same_record map page)) [
        | inl begins ↦
            let rest = judged-within map page (page + 1) n (omega arith) in
            rw (there, begins) (omega (arith, rest.0, low), omega (arith, rest.1))
        | inr goes ↦
            let rest = judged-within map area (page + 1) n (omega (arith, low)) in
            rw (there, goes) (rest.0, omega (arith, rest.1))
      ]
    ]
