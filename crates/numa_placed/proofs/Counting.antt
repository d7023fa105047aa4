-- How many ranges there are once values changed: no more where all pages were changed alike, and at
-- most two more where the pages of a span were.
use Rattle.std.proofs.Common.{◌≡◌, ℕ, zero, suc, ◌+◌, ◌≤◌, ◌&&◌, ◌||◌, not, eqb, Bool}
use Rattle.std.proofs.Common.{true, is_some, Option, Some, None, refl, arith, inl}
use Rattle.std.proofs.Common.{inr}
use Rattle.std.proofs.lemmas.Bool.{cases_Bool, cases_lt, both_ways, and_parts, and_from, not-true}
use Rattle.std.proofs.lemmas.Bool.{eq-eqb, ne_eqb, cases_eq, or_left, or_right}
use Rattle.numa_ranges.specs.Counts.{goes_on, is_start, count_pages, range_count}
use Rattle.numa_ranges.specs.Maps.{changed_page, changed_span}
use Rattle.numa_ranges.specs.Runs.{in_pages}
use Rattle.numa_ranges.proofs.Apart.{in_pages-true, in_pages-below, in_pages-above}
use Rattle.numa_ranges.proofs.Counted.{count-none}

-- ---- counts

-- fewer pages pass where each page that passes the one test passes the other
pub count-fewer : (f g : ℕ → Bool) (a n : ℕ) → ((page : ℕ) → f page ≡ true → g page ≡ true)
    → count_pages f a n ≤ count_pages g a n
unfolding count_pages
count-fewer f g a zero h = omega arith
count-fewer f g a (suc n) h =
    let rest : count_pages f (a + 1) n ≤ count_pages g (a + 1) n = count-fewer f g (a + 1) n h in
    elim (cases_Bool (f a)) [
      | inl t ↦ rw (t, h a t) (omega (arith, rest))
      | inr e ↦ elim (cases_Bool (g a)) [
        | inl t ↦ rw (e, t) (omega (arith, rest))
        | inr o ↦ rw (e, o) (omega (arith, rest))
      ]
    ]

-- a test that one page passes, counted
one-page : (page a n : ℕ) → count_pages (eqb page) a n ≤ 1
unfolding count_pages
one-page page a zero = omega arith
one-page page a (suc n) =
    let rest : count_pages (eqb page) (a + 1) n ≤ 1 = one-page page (a + 1) n in
    elim (cases_eq page a) [
      | inl same ↦
          let none : count_pages (eqb page) (a + 1) n ≡ 0 = count-none (eqb page) (a + 1) n
          (λ p low high. ne_eqb page p (λ is. omega arith)) in
          rw (eq-eqb page a same) (omega (arith, none))
      | inr other ↦ rw (ne_eqb page a other) (omega (arith, rest))
    ]

-- at most one page more for each page that passes besides
beside : (f g : ℕ → Bool) (page a n : ℕ) → ((p : ℕ) → f p ≡ true → (eqb page p || g p) ≡ true)
    → count_pages f a n ≤ count_pages (eqb page) a n + count_pages g a n
unfolding count_pages
beside f g page a zero h = omega arith
beside f g page a (suc n) h =
    let rest : count_pages f (a + 1) n
    ≤ count_pages (eqb page) (a + 1) n + count_pages g (a + 1) n = beside f g page (a + 1) n h in
    elim (cases_Bool (eqb page a)) [
      | inl t ↦ elim (cases_Bool (f a)) [
        | inl u ↦ elim (cases_Bool (g a)) [
          | inl v ↦ rw (t, u, v) (omega (arith, rest))
          | inr v ↦ rw (t, u, v) (omega (arith, rest))
        ]
        | inr u ↦ elim (cases_Bool (g a)) [
          | inl v ↦ rw (t, u, v) (omega (arith, rest))
          | inr v ↦ rw (t, u, v) (omega (arith, rest))
        ]
      ]
      | inr t ↦ elim (cases_Bool (f a)) [
        | inl u ↦
            let v : g a ≡ true = rw t at (h a u) in
            rw (t, u, v) (omega (arith, rest))
        | inr u ↦ elim (cases_Bool (g a)) [
          | inl v ↦ rw (t, u, v) (omega (arith, rest))
          | inr v ↦ rw (t, u, v) (omega (arith, rest))
        ]
      ]
    ]

-- two pages may pass besides
count-two : (f g : ℕ → Bool) (x y a n : ℕ)
    → ((p : ℕ) → f p ≡ true → (eqb x p || (eqb y p || g p)) ≡ true)
    → count_pages f a n ≤ count_pages g a n + 2
count-two f g x y a n h =
    let one = beside f (λ p. eqb y p || g p) x a n h in
    let two = beside (λ p. eqb y p || g p) g y a n (λ p is. is) in
    omega (arith, one, two, one-page x a n, one-page y a n)

-- ---- pages where ranges begin

module _ {T : Type 0} (same : T → T → Bool) (exact : (a b : T) → same a b ≡ true → a ≡ b)
    (itself : (a : T) → same a a ≡ true) (change : T → T) where
  -- values that were equal are equal after the same change
  same-changed : (a b : T) → same a b ≡ true → same (change a) (change b) ≡ true
  same-changed a b h = rw (← exact a b h) (itself (change a))

  -- where a range begins after the change, one began before it
  begins-changed : (before here : Option (ℕ × T))
      → (is_some (changed_page change here)
      && not (goes_on same (changed_page change before) (changed_page change here))) ≡ true
      → (is_some here && not (goes_on same before here)) ≡ true
  begins-changed None None h = h
  begins-changed None (Some y) h = refl
  begins-changed (Some x) None h = h
  begins-changed (Some x) (Some y) h =
      elim (cases_Bool (eqb y.0 (x.0 + 1) && same x.1 y.1)) [
        | inl t ↦
            let parts = and_parts (eqb y.0 (x.0 + 1)) (same x.1 y.1) t in
            let on = and_from (eqb y.0 (x.0 + 1)) (same (change x.1) (change y.1)) parts.0
            (same-changed x.1 y.1 parts.1) in
            absurd (both_ways (eqb y.0 (x.0 + 1) && same (change x.1) (change y.1))
            (not-true _ h) on)
        | inr e ↦ rw e refl
      ]

  some-changed : (o : Option (ℕ × T)) → is_some (changed_page change o) ≡ true → is_some o ≡ true
  some-changed None h = h
  some-changed (Some p) h = refl

  pub start-changed : (at : ℕ → Option (ℕ × T)) (page : ℕ)
      → is_start same (λ p. changed_page change (at p)) page ≡ true
      → is_start same at page ≡ true
  start-changed at zero h = some-changed (at zero) h
  start-changed at (suc page) h = begins-changed (at page) (at (suc page)) h

  pub count-changed : (at : ℕ → Option (ℕ × T))
      → range_count same (λ page. changed_page change (at page)) ≤ range_count same at
  count-changed at = count-fewer _ _ 0 _ (start-changed at)

  -- where a range begins after the pages of a span were changed, one began before, or it is an end
  -- of the span
  start-span : (first pages : ℕ) (at : ℕ → Option (ℕ × T)) (page : ℕ)
      → is_start same (changed_span first pages change at) page ≡ true
      → (eqb first page || (eqb (first + pages) page || is_start same at page)) ≡ true
  start-span first pages at zero h =
      elim (cases_Bool (in_pages first pages zero)) [
        | inl t ↦ or_right (eqb first zero) _ (or_right (eqb (first + pages) zero) _
            (some-changed (at zero) (rw t at h)))
        | inr e ↦ or_right (eqb first zero) _ (or_right (eqb (first + pages) zero) _
            (rw e at h))
      ]
  start-span first pages at (suc page) h =
      elim (cases_eq first (suc page)) [
        | inl is ↦ or_left (eqb first (suc page)) _ (eq-eqb first (suc page) is)
        | inr not_first ↦ or_right (eqb first (suc page)) _ (elim (cases_eq (first + pages)
            (suc page)) [
              | inl is ↦ or_left (eqb (first + pages) (suc page)) _
                  (eq-eqb (first + pages) (suc page) is)
              | inr not_end ↦ or_right (eqb (first + pages) (suc page)) _ (elim
                  (cases_lt page first) [
                    | inl low ↦
                        let here = in_pages-below first pages (suc page) (omega arith) in
                        let before = in_pages-below first pages page low in
                        rw (here, before) at h
                    | inr from ↦ elim (cases_lt (suc page) (first + pages)) [
                      | inl to ↦
                          let here = in_pages-true first pages (suc page) (omega arith) to in
                          let before = in_pages-true first pages page from (omega arith) in
                          begins-changed (at page) (at (suc page)) (rw (here, before) at h)
                      | inr past ↦
                          let here = in_pages-above first pages (suc page) past in
                          let before = in_pages-above first pages page (omega arith) in
                          rw (here, before) at h
                    ]
                  ])
            ])
      ]

  pub count-span : (first pages : ℕ) (at : ℕ → Option (ℕ × T))
      → range_count same (changed_span first pages change at) ≤ range_count same at + 2
  count-span first pages at = count-two _ _ first (first + pages) 0 _ (start-span first pages at)
