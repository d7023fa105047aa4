-- Which pages the kernel judges before it finds a hole.
use Rattle.std.proofs.Common.{◌≡◌, ℕ, zero, suc, ◌+◌, ◌-◌, ◌<◌, ◌≤◌, true, false, not}
use Rattle.std.proofs.Common.{is_some, refl, sym, ap, subst, ◌∙◌, arith, inl, inr}
use Rattle.std.specs.Prelude.{if◌then◌else◌}
use Rattle.std.proofs.lemmas.Bool.{both_ways, cases_Bool, cases_lt}
use Rattle.numa_machine.specs.declared.rules.Rules.TheVariants.{Linux}
use Rattle.numa_ranges.specs.Counts.{is_start}
use Rattle.numa_ranges.specs.Maps.{any_page}
use Rattle.numa_ranges.proofs.Pages.{any_page-true}
use Rattle.numa_space.specs.Refusals.{PageMap}
use Rattle.numa_space.specs.Same.{same_record}
use Rattle.numa_placed.specs.Astray.{judged_end, judged_pages}
use Rattle.numa_placed.proofs.Walking.{judged-within}

abbrev Mapped : PageMap → ℕ → ℕ → Type 0
Mapped map from to = (p : ℕ) → from ≤ p → p < to → is_some (map p) ≡ true

-- a span without a hole
no-hole : (map : PageMap) (first n : ℕ)
    → any_page (λ page. not (is_some (map page))) first n ≡ false
    → Mapped map first (first + n)
no-hole map first n none page low high =
    elim (cases_Bool (is_some (map page))) [
      | inl there ↦ there
      | inr gone ↦ absurd (both_ways (any_page (λ p. not (is_some (map p))) first n) none
          (any_page-true (λ p. not (is_some (map p))) first n page low high (ap not gone)))
    ]

all-judged : (map : PageMap) (area page n : ℕ) → Mapped map page (page + n)
    → judged_end map area page n ≡ page + n
unfolding judged_end
all-judged map area page zero all = omega arith
all-judged map area page (suc n) all =
    rw (all page (omega arith) (omega arith)) (omega (
      arith,
      all-judged map (if is_start same_record map page then page else area) (page + 1) n
          (λ p low high. all p (omega arith) (omega arith)),
    ))

pub whole : (map : PageMap) (first n : ℕ)
    → any_page (λ page. not (is_some (map page))) first n ≡ false
    → judged_pages Linux map first n ≡ n
whole map first n none =
    omega (arith, all-judged map first first n (no-hole map first n none))

area-low : (map : PageMap) (area page : ℕ) → area ≤ page
    → (if is_start same_record map page then page else area) ≤ page + 1
area-low map area page low =
    elim (cases_Bool (is_start same_record map page)) [
      | inl t ↦ rw t (omega arith)
      | inr e ↦ rw e (omega (arith, low))
    ]

judged-mapped : (map : PageMap) (area page n p : ℕ) → area ≤ page → page ≤ p
    → p < judged_end map area page n → is_some (map p) ≡ true
unfolding judged_end
judged-mapped map area page zero p low from to = absurd (omega (arith, from, to))
judged-mapped map area page (suc n) p low from to =
    elim (cases_Bool (is_some (map page))) [
      | inr gone ↦
          let area_is : judged_end map area page (suc n) ≡ area = rw gone refl in
          absurd (omega (arith, low, from, to, area_is))
      | inl there ↦ elim (cases_lt page p) [
        | inr l ↦
            let here : page ≡ p = omega (arith, from) in
            ap (λ q. is_some (map q)) (sym here) ∙ there
        | inl l ↦
            let goes : judged_end map area page (suc n) ≡ judged_end map
            (if is_start same_record map page then page else area) (page + 1) n =
            rw there refl in
            judged-mapped map (if is_start same_record map page then page else area) (page + 1) n
            p (area-low map area page low) (omega (arith, l)) (omega (arith, to, goes))
      ]
    ]

pub mapped : (map : PageMap) (first n page : ℕ) → first ≤ page
    → page < first + judged_pages Linux map first n → is_some (map page) ≡ true
mapped map first n page low high =
    let within = judged-within map first first n (omega arith) in
    judged-mapped map first first n page (omega arith) low (omega (arith, high, within.0))

-- where a hole ends it, a range begins at the page, or the area did
judged-starts : (map : PageMap) (area page n : ℕ) → area ≤ page
    → judged_end map area page n < page + n → (judged_end map area page n ≡ area → ⊥)
    → is_start same_record map (judged_end map area page n) ≡ true
unfolding judged_end
judged-starts map area page zero low ends other = absurd (omega (arith, ends))
judged-starts map area page (suc n) low ends other =
    elim (cases_Bool (is_some (map page))) [
      | inr gone ↦
          let area_is : judged_end map area page (suc n) ≡ area = rw gone refl in
          absurd (other area_is)
      | inl there ↦ elim (cases_Bool (is_start same_record map page)) [
        | inl begins ↦
            let goes : judged_end map area page (suc n) ≡ judged_end map page (page + 1) n =
            rw (there, begins) refl in
            let within = judged-within map page (page + 1) n (omega arith) in
            subst (λ e. is_start same_record map e ≡ true) (sym goes)
            (elim (cases_lt page (judged_end map page (page + 1) n)) [
              | inl l ↦ judged-starts map page (page + 1) n (omega arith)
                  (omega (arith, ends, goes)) (λ is. absurd (omega (arith, l, is)))
              | inr l ↦
                  let here : page ≡ judged_end map page (page + 1) n =
                  omega (arith, l, within.0) in
                  ap (is_start same_record map) (sym here) ∙ begins
            ])
        | inr continues ↦
            let goes : judged_end map area page (suc n) ≡ judged_end map area (page + 1) n =
            rw (there, continues) refl in
            subst (λ e. is_start same_record map e ≡ true) (sym goes)
            (judged-starts map area (page + 1) n (omega (arith, low)) (omega (arith, ends, goes))
            (λ is. other (goes ∙ is)))
      ]
    ]

pub starts : (map : PageMap) (first n : ℕ) → 0 < judged_pages Linux map first n
    → judged_pages Linux map first n < n
    → is_start same_record map (first + judged_pages Linux map first n) ≡ true
starts map first n some ends =
    let within = judged-within map first first n (omega arith) in
    let at : judged_end map first first n ≡ first + judged_pages Linux map first n =
    omega (arith, within.0) in
    ap (is_start same_record map) (sym at) ∙ judged-starts map first first n (omega arith)
    (omega (arith, ends, at)) (λ is. absurd (omega (arith, some, is)))

-- no range begins between that page and the hole
judged-last : (map : PageMap) (area page n p : ℕ) → area ≤ page → page ≤ p → p < page + n
    → judged_end map area page n < p → Mapped map page (p + 1)
    → is_start same_record map p ≡ false
unfolding judged_end
judged-last map area page zero p low from to behind all = absurd (omega (arith, from, to))
judged-last map area page (suc n) p low from to behind all =
    let there = all page (omega arith) (omega (arith, from)) in
    elim (cases_Bool (is_start same_record map page)) [
      | inl begins ↦
          let goes : judged_end map area page (suc n) ≡ judged_end map page (page + 1) n =
          rw (there, begins) refl in
          let within = judged-within map page (page + 1) n (omega arith) in
          judged-last map page (page + 1) n p (omega arith)
          (omega (arith, behind, goes, within.0)) (omega (arith, to)) (omega (arith, behind, goes))
          (λ q above below. all q (omega (arith, above)) below)
      | inr continues ↦
          let goes : judged_end map area page (suc n) ≡ judged_end map area (page + 1) n =
          rw (there, continues) refl in
          elim (cases_lt page p) [
            | inr l ↦
                let here : page ≡ p = omega (arith, from, l) in
                ap (is_start same_record map) (sym here) ∙ continues
            | inl l ↦ judged-last map area (page + 1) n p (omega (arith, low)) (omega (arith, l))
                (omega (arith, to)) (omega (arith, behind, goes))
                (λ q above below. all q (omega (arith, above)) below)
          ]
    ]

pub last : (map : PageMap) (first n page : ℕ) → judged_pages Linux map first n < n
    → first + judged_pages Linux map first n < page → page < first + n
    → any_page (λ p. not (is_some (map p))) first (page + 1 - first) ≡ false
    → is_start same_record map page ≡ false
last map first n page ends behind within all =
    let low = judged-within map first first n (omega arith) in
    judged-last map first first n page (omega arith) (omega (arith, behind)) within
    (omega (arith, behind, low.0))
    (λ p above below. no-hole map first (page + 1 - first) all p above
    (omega (arith, below, behind)))
