-- How many runs of a window there are, and how many of them begin in the span.
use Rattle.std.proofs.Common.{◌≡◌, ℕ, zero, suc, ◌+◌, ◌-◌, ◌<◌, ◌≤◌, ◌&&◌, eqb, cond, Bool, true}
use Rattle.std.proofs.Common.{false, is_some, List, [], ◌∷◌, length, get_or, refl, ap, subst, ◌∙◌}
use Rattle.std.proofs.Common.{arith, inl, inr}
use Rattle.std.specs.Prelude.{count_by, nat_le, nat_lt}
use Rattle.std.specs.List.{AllWithin}
use Rattle.std.proofs.Math.Bool.{and-false}
use Rattle.std.proofs.lemmas.Bool.{cases_lt, cases_Bool, lt-ltb, le-ltb, le-leb, lt-leb, leb-true}
use Rattle.std.proofs.lemmas.Bool.{ltb-true, eq-eqb, ne_eqb, eqb-true}
use Rattle.std.proofs.lemmas.List.{get_or_default}
use Rattle.std.proofs.lemmas.List.Sums.{sum_by-cons}
use Rattle.numa_ranges.specs.Runs.{end_of, page_at, AreApart}
use Rattle.numa_ranges.specs.Windows.{meets, begins_in, met, starts_in, IsWindow}
use Rattle.numa_ranges.specs.declared.run.Run.{Run}
use Rattle.numa_ranges.proofs.Apart.{in_pages-true, in_pages-below, in_pages-above, page_at-before}
use Rattle.numa_ranges.proofs.Joined.{and_split}
use Rattle.numa_ranges.proofs.Moves.{ends-rising, each-some}

one-if : (b : Bool) → b ≡ true → cond {A = ℕ} b 1 0 ≡ 1
one-if b is = ap (λ (c : Bool). cond {A = ℕ} c 1 0) is

none-if : (b : Bool) → b ≡ false → cond {A = ℕ} b 1 0 ≡ 0
none-if b is = ap (λ (c : Bool). cond {A = ℕ} c 1 0) is

pub few-if : (b : Bool) → cond {A = ℕ} b 1 0 ≤ 1
few-if true = omega arith
few-if false = omega arith

module _ {T : Type 0} where
  pub count-cons : (test : Run T → Bool) (run : Run T) (runs : List (Run T))
      → count_by test (run ∷ runs) ≡ cond (test run) 1 0 + count_by test runs
  count-cons test run runs = sum_by-cons (λ (r : Run T). cond {A = ℕ} (test r) 1 0) run runs

  -- ---- what a span's tests say

  pub meets-true : (first end : ℕ) (run : Run T) → run.first < end → first < end_of run
      → meets first end run ≡ true
  meets-true first end run low high = rw (lt-ltb run.first end low, lt-ltb first (end_of run) high)
      refl

  pub begins-true : (first end : ℕ) (run : Run T) → first ≤ run.first → run.first < end
      → begins_in first end run ≡ true
  begins-true first end run low high = rw (le-leb first run.first low, lt-ltb run.first end high)
      refl

  pub begins-split : (first end : ℕ) (run : Run T) → begins_in first end run ≡ true
      → (first ≤ run.first) × (run.first < end)
  begins-split first end run is =
      let both = and_split (nat_le first run.first) (nat_lt run.first end) is in
      (leb-true first run.first both.0, ltb-true run.first end both.1)

  -- ---- how many runs a window holds

  abbrev starts_at : ℕ → Run T → Bool
  starts_at page run = eqb run.first page

  starts-none : (low page : ℕ) (runs : List (Run T)) → AreApart low runs → page < low
      → count_by (starts_at page) runs ≡ 0
  starts-none low page [] apart past = refl
  starts-none low page (run ∷ runs) apart past =
      let other : starts_at page run ≡ false =
      ne_eqb run.first page (λ same. omega (arith, apart.0)) in
      omega (
        arith,
        count-cons (starts_at page) run runs,
        none-if (starts_at page run) other,
        starts-none (end_of run) page runs apart.3 (omega (arith, apart.0)),
      )

  -- at most one run begins at a page
  starts-once : (low page : ℕ) (runs : List (Run T)) → AreApart low runs
      → count_by (starts_at page) runs ≤ 1
  starts-once low page [] apart = omega arith
  starts-once low page (run ∷ runs) apart =
      elim (cases_Bool (starts_at page run)) [
        | inl here ↦
            let is : run.first ≡ page = eqb-true run.first page here in
            omega (
              arith,
              count-cons (starts_at page) run runs,
              one-if (starts_at page run) here,
              starts-none (end_of run) page runs apart.3 (omega (arith, apart.1)),
            )
        | inr other ↦
            omega (
              arith,
              count-cons (starts_at page) run runs,
              none-if (starts_at page run) other,
              starts-once (end_of run) page runs apart.3,
            )
      ]

  -- runs that begin at the span's end or before, and end behind its first page, meet it or begin at
  -- its end
  window-inner : (first end from to : ℕ) (runs : List (Run T)) → to ≤ length runs
      → AllWithin (λ run. first < end_of run) runs from (length runs)
      → AllWithin (λ run. run.first ≤ end) runs 0 to
      → to - from ≤ met first end runs + count_by (starts_at end) runs
  window-inner first end from zero runs within long low = omega arith
  window-inner first end from (suc to) [] within long low = absurd (omega arith)
  window-inner first end (suc from) (suc to) (run ∷ runs) within long low =
      let rest = window-inner first end from to runs (omega arith)
      (λ k d a b. long (suc k) d (omega arith) (omega arith))
      (λ k d a b. low (suc k) d (omega arith) (omega arith)) in
      omega (
        arith,
        rest,
        count-cons (meets first end) run runs,
        count-cons (starts_at end) run runs,
      )
  window-inner first end zero (suc to) (run ∷ runs) within long low =
      let rest = window-inner first end zero to runs (omega arith)
      (λ k d a b. long (suc k) d (omega arith) (omega arith))
      (λ k d a b. low (suc k) d (omega arith) (omega arith)) in
      let past : first < end_of run = long 0 run (omega arith) (omega arith) in
      let near : run.first ≤ end = low 0 run (omega arith) (omega arith) in
      elim (cases_lt run.first end) [
        | inl in_span ↦
            omega (
              arith,
              rest,
              count-cons (meets first end) run runs,
              count-cons (starts_at end) run runs,
              one-if (meets first end run) (meets-true first end run in_span past),
            )
        | inr beside ↦
            let is : run.first ≡ end = omega arith in
            omega (
              arith,
              rest,
              count-cons (meets first end) run runs,
              count-cons (starts_at end) run runs,
              one-if (starts_at end run) (eq-eqb run.first end is),
            )
      ]

  module _ (runs : List (Run T)) (first end from to : ℕ) (apart : AreApart 0 runs)
      (window : IsWindow runs first end from to) where
    -- behind the first run of a window the runs end behind the span's first page
    inner-long : AllWithin (λ run. first < end_of run) runs (from + 1) (length runs)
    inner-long k d a b =
        omega (
          arith,
          ends-rising 0 runs from k d apart (omega arith) b,
          each-some 0 runs k d apart b,
          window.reaching from d (omega arith) (omega arith),
        )

    -- a window but for its first run holds at most one run more than meet the span
    pub window-rest : to - (from + 1) ≤ met first end runs + 1
    window-rest =
        omega (
          arith,
          window-inner first end (from + 1) to runs window.within inner-long
              window.beginning,
          starts-once 0 end runs apart,
        )

    -- a window holds at most two runs more than meet the span
    pub window-few : to - from ≤ met first end runs + 2
    window-few = omega (arith, window-rest)

    -- and one more where its first run has a page of the span or stands behind it
    pub window-fewer : (d : Run T) → first < end_of (get_or runs from d)
        → to - from ≤ met first end runs + 1
    window-fewer d long =
        let all : AllWithin (λ run. first < end_of run) runs from (length runs) =
        λ k e a b. elim (cases_lt from k) [
          | inl later ↦ inner-long k e (omega arith) b
          | inr here ↦
              let same : get_or runs from d ≡ get_or runs k e =
              get_or_default runs from d e (omega arith)
              ∙ ap (λ n. get_or runs n e) (let is : from ≡ k = omega arith in is) in
              subst (λ (run : Run T). first < end_of run) same long
        ] in
        omega (
          arith,
          window-inner first end from to runs window.within all window.beginning,
          starts-once 0 end runs apart,
        )

  -- ---- runs that begin in a span, of two lists

  -- whether a run begins at a page
  abbrev pub begins_at : List (Run T) → ℕ → Bool
  begins_at [] page = false
  begins_at (run ∷ runs) page = cond (eqb run.first page) true (begins_at runs page)

  pub begins-place : (runs : List (Run T)) (page : ℕ) (d : Run T) → begins_at runs page ≡ true
      → (k : ℕ) × (k < length runs) × ((get_or runs k d).first ≡ page)
  begins-place [] page d h = absurd (cc)
  begins-place (run ∷ runs) page d h =
      elim (cases_Bool (eqb run.first page)) [
        | inl here ↦ (0, omega arith, eqb-true run.first page here)
        | inr out ↦
            let rest = begins-place runs page d (rw out at h) in
            (suc rest.0, omega (arith, rest.1), rest.2)
      ]

  begins-later : (run : Run T) (runs : List (Run T)) (page : ℕ) → begins_at runs page ≡ true
      → begins_at (run ∷ runs) page ≡ true
  begins-later run runs page is =
      elim (cases_Bool (eqb run.first page)) [
        | inl here ↦ rw here refl
        | inr out ↦ rw out is
      ]

  pub place-begins : (runs : List (Run T)) (k page : ℕ) (d : Run T) → k < length runs
      → (get_or runs k d).first ≡ page → begins_at runs page ≡ true
  place-begins [] k page d l is = absurd (omega arith)
  place-begins (run ∷ runs) zero page d l is = rw (eq-eqb run.first page is) refl
  place-begins (run ∷ runs) (suc k) page d l is =
      begins-later run runs page (place-begins runs k page d (omega arith) is)

  begins-low : (low : ℕ) (runs : List (Run T)) (page : ℕ) → AreApart low runs
      → begins_at runs page ≡ true → low ≤ page
  begins-low low [] page apart is = absurd (cc)
  begins-low low (run ∷ runs) page apart is =
      elim (cases_Bool (eqb run.first page)) [
        | inl here ↦ omega (arith, apart.0, eqb-true run.first page here)
        | inr out ↦ omega (arith, apart.0, begins-low (end_of run) runs page apart.3 (rw out at is))
      ]

  begins-skip : (run : Run T) (runs : List (Run T)) (page : ℕ) → run.first < page
      → begins_at (run ∷ runs) page ≡ true → begins_at runs page ≡ true
  begins-skip run runs page past is = rw (ne_eqb run.first page (λ same. omega arith)) at is

  begins-head : (run : Run T) (runs : List (Run T)) → begins_at (run ∷ runs) run.first ≡ true
  begins-head run runs = rw (eq-eqb run.first run.first refl) refl

  -- where each page of a span at which a run of the second list begins is one at which one of the
  -- first begins, the second has at most as many
  pub begun-fewer : (low low' a b : ℕ) (xs ys : List (Run T)) → AreApart low xs → AreApart low' ys
      → ((page : ℕ) → a ≤ page → page < b → begins_at ys page ≡ true → begins_at xs page ≡ true)
      → starts_in a b ys ≤ starts_in a b xs
  begun-fewer low low' a b xs [] apart apart' h = omega arith
  begun-fewer low low' a b [] (y ∷ ys) apart apart' h =
      elim (cases_Bool (begins_in a b y)) [
        | inr out ↦ omega (
          arith,
          count-cons (begins_in a b) y ys,
          none-if (begins_in a b y) out,
          begun-fewer low (end_of y) a b [] ys apart apart'.3
              (λ page l u is. h page l u (begins-later y ys page is)),
        )
        | inl in_span ↦
            let bounds = begins-split a b y in_span in
            let odd : false ≡ true = h y.first bounds.0 bounds.1 (begins-head y ys) in
            absurd (cc)
      ]
  begun-fewer low low' a b (x ∷ xs) (y ∷ ys) apart apart' h =
      elim (cases_Bool (begins_in a b y)) [
        | inr out ↦ omega (
          arith,
          count-cons (begins_in a b) y ys,
          none-if (begins_in a b y) out,
          begun-fewer low (end_of y) a b (x ∷ xs) ys apart apart'.3
              (λ page l u is. h page l u (begins-later y ys page is)),
        )
        | inl in_span ↦
            let bounds = begins-split a b y in_span in
            elim (cases_lt x.first y.first) [
              | inl before ↦
                  omega (
                    arith,
                    count-cons (begins_in a b) x xs,
                    begun-fewer (end_of x) low' a b xs (y ∷ ys) apart.3 apart'
                        (λ page l u is.
                        begins-skip x xs page
                        (omega (
                          arith,
                          begins-low y.first (y ∷ ys) page (
                            omega arith,
                            apart'.1,
                            apart'.2,
                            apart'.3,
                          )
                              is,
                        )) (h page l u is)),
                  )
              | inr ge ↦ elim (cases_lt y.first x.first) [
                | inl after ↦
                    absurd (omega (
                      arith,
                      begins-low x.first (x ∷ xs) y.first (
                        omega arith,
                        apart.1,
                        apart.2,
                        apart.3,
                      ) (h y.first bounds.0 bounds.1 (begins-head y ys)),
                    ))
                | inr le ↦
                    let there : begins_in a b x ≡ true = begins-true a b x (omega (arith, bounds.0))
                    (omega (arith, bounds.1)) in
                    omega (
                      arith,
                      count-cons (begins_in a b) y ys,
                      count-cons (begins_in a b) x xs,
                      one-if (begins_in a b x) there,
                      one-if (begins_in a b y) in_span,
                      begun-fewer (end_of x) (end_of y) a b xs ys apart.3 apart'.3
                          (λ page l u is.
                          begins-skip x xs page
                          (omega (arith, apart'.1, begins-low (end_of y) ys page apart'.3 is))
                          (h page l u (begins-later y ys page is))),
                    )
              ]
            ]
      ]

  -- ---- runs that meet a span

  -- one has its first page, where that is mapped, and the others begin behind that
  pub met-split : (low first end : ℕ) (runs : List (Run T)) → AreApart low runs → first < end
      → met first end runs ≡ cond (is_some (page_at runs first)) 1 0 + starts_in (first + 1) end
      runs
  met-split low first end [] apart lt = refl
  met-split low first end (run ∷ runs) apart lt =
      let m = count-cons (meets first end) run runs in
      let b = count-cons (begins_in (first + 1) end) run runs in
      let rest = met-split (end_of run) first end runs apart.3 lt in
      elim (cases_lt first run.first) [
        | inl after ↦
            let page : page_at (run ∷ runs) first ≡ page_at runs first =
            rw (in_pages-below run.first run.pages first after) refl in
            let shown : cond {A = ℕ} (is_some (page_at (run ∷ runs) first)) 1 0
            ≡ cond {A = ℕ} (is_some (page_at runs first)) 1 0 =
            ap (λ o. cond {A = ℕ} (is_some o) 1 0) page in
            let equal : meets first end run ≡ begins_in (first + 1) end run =
            rw (
              lt-ltb first (end_of run) (omega arith),
              le-leb (first + 1) run.first (omega arith),
            ) (and-true (nat_lt run.first end)) in
            omega (arith, m, b, rest, shown, ap (λ (t : Bool). cond {A = ℕ} t 1 0) equal)
        | inr le ↦
            let other : begins_in (first + 1) end run ≡ false =
            rw (lt-leb (first + 1) run.first (omega arith)) refl in
            elim (cases_lt first (end_of run)) [
              | inl in_run ↦
                  let page : is_some (page_at (run ∷ runs) first) ≡ true =
                  rw (in_pages-true run.first run.pages first le in_run) refl in
                  let none : is_some (page_at runs first) ≡ false =
                  ap is_some (page_at-before (end_of run) runs first apart.3 in_run) in
                  omega (
                    arith,
                    m,
                    b,
                    rest,
                    one-if (is_some (page_at (run ∷ runs) first)) page,
                    none-if (is_some (page_at runs first)) none,
                    none-if (begins_in (first + 1) end run) other,
                    one-if (meets first end run) (meets-true first end run (omega arith) in_run),
                  )
              | inr past ↦
                  let page : page_at (run ∷ runs) first ≡ page_at runs first =
                  rw (in_pages-above run.first run.pages first past) refl in
                  let shown : cond {A = ℕ} (is_some (page_at (run ∷ runs) first)) 1 0
                  ≡ cond {A = ℕ} (is_some (page_at runs first)) 1 0 =
                  ap (λ o. cond {A = ℕ} (is_some o) 1 0) page in
                  let apart_from : meets first end run ≡ false =
                  rw (le-ltb first (end_of run) past) (and-false (nat_lt run.first end)) in
                  omega (
                    arith,
                    m,
                    b,
                    rest,
                    shown,
                    none-if (begins_in (first + 1) end run) other,
                    none-if (meets first end run) apart_from,
                  )
            ]
      ]
    where
      and-true : (t : Bool) → (t && true) ≡ t
      and-true true = refl
      and-true false = refl

  -- a run that begins in a span meets it
  pub begun-met : (low first end : ℕ) (runs : List (Run T)) → AreApart low runs
      → starts_in first end runs ≤ met first end runs
  begun-met low first end [] apart = omega arith
  begun-met low first end (run ∷ runs) apart =
      let m = count-cons (meets first end) run runs in
      let b = count-cons (begins_in first end) run runs in
      let rest = begun-met (end_of run) first end runs apart.3 in
      elim (cases_Bool (begins_in first end run)) [
        | inl in_span ↦
            let bounds = begins-split first end run in_span in
            omega (
              arith,
              m,
              b,
              rest,
              one-if (meets first end run)
                  (meets-true first end run bounds.1 (omega (arith, bounds.0, apart.1))),
              few-if (begins_in first end run),
            )
        | inr out ↦ omega (arith, m, b, rest, none-if (begins_in first end run) out)
      ]
