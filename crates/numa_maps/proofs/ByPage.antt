-- Counts of placements are counts of pages.
use Rattle.std.proofs.Common.{◌≡◌, ◌≢◌, ℕ, zero, suc, ◌+◌, Bool, true, false, ◌==◌, cond, [], ◌∷◌}
use Rattle.std.proofs.Common.{Option, Some, None, is_some, length, filter, count_by, inl, inr, refl}
use Rattle.std.proofs.Common.{sym, ap, ◌∙◌, arith}
use Rattle.std.specs.List.{AllByRecursion}
use Rattle.std.specs.List.Sorted.{IsStrictlySortedBy}
use Rattle.std.specs.Map.{keys_of}
use Rattle.std.specs.Ordering.{is_eq, nat_cmp}
use Rattle.std.specs.declared.cmp.Ordering.TheVariants.{Less}
use Rattle.std.proofs.lemmas.Bool.{cases_Bool, cases_eq}
use Rattle.std.proofs.lemmas.Grind.{common_steps}
use Rattle.std.proofs.lemmas.List.Sums.{sum_by-cons}
use Rattle.numa_requests.specs.declared.placement.Placement.{Placement}
use Rattle.numa_mode.specs.Policy.{PolicyRecord}
use Rattle.numa_ranges.specs.Counts.{count_pages}
use Rattle.numa_ranges.specs.Runs.{in_pages}
use Rattle.numa_ranges.specs.declared.run.Run.{Run}
use Rattle.numa_maps.specs.Listing.{is_on, pages_on, placed_in}
use Rattle.numa_maps.specs.Residents.{IsRising, Kept, placed_at}

-- ---- windows of two tests that differ at one page

one : Bool → ℕ
one b = cond b 1 0

inside-none : (first k : ℕ) → in_pages first 0 k ≡ false
inside-none first k = grind (arith, common_steps)

inside-here : (first n k : ℕ) → first ≡ k → in_pages first (suc n) k ≡ true
inside-here first n k e = grind (arith, common_steps)

inside-past : (first n k : ℕ) → first ≡ k → in_pages (first + 1) n k ≡ false
inside-past first n k e = grind (arith, common_steps)

inside-next : (first n k : ℕ) → first ≢ k → in_pages first (suc n) k ≡ in_pages (first + 1) n k
inside-next first n k ne = grind (arith, common_steps)

point : (p q : ℕ → Bool) (k : ℕ) → ((page : ℕ) → page ≢ k → p page ≡ q page) → q k ≡ false
    → (first n : ℕ) → count_pages p first n ≡ cond (in_pages first n k) (one (p k)) 0 + count_pages
    q first n
unfolding count_pages one
point p q k same none first zero = ap (λ (b : Bool). cond {A = ℕ} b (one (p k)) 0 + 0)
    (sym (inside-none first k))
point p q k same none first (suc n) = elim (cases_eq first k) [
  | inl e ↦
      let rest : count_pages p (first + 1) n ≡ count_pages q (first + 1) n =
      point p q k same none (first + 1) n
      ∙ ap (λ (b : Bool). cond {A = ℕ} b (one (p k)) 0 + count_pages q (first + 1) n)
      (inside-past first n k e) ∙ omega arith in
      let here : cond {A = ℕ} (p first) 1 0 ≡ cond {A = ℕ} (p k) 1 0 =
      ap (λ (page : ℕ). cond {A = ℕ} (p page) 1 0) e in
      let other : cond {A = ℕ} (q first) 1 0 ≡ 0 = ap (λ (page : ℕ). cond {A = ℕ} (q page) 1 0) e
      ∙ ap (λ (b : Bool). cond {A = ℕ} b 1 0) none in
      let there : cond {A = ℕ} (in_pages first (suc n) k) (cond (p k) 1 0) 0 ≡ cond {A = ℕ} (p k) 1
      0 = ap (λ (b : Bool). cond {A = ℕ} b (cond (p k) 1 0) 0) (inside-here first n k e) in
      omega (arith, rest, here, other, there)
  | inr ne ↦
      let rest = point p q k same none (first + 1) n in
      let here : cond {A = ℕ} (p first) 1 0 ≡ cond {A = ℕ} (q first) 1 0 =
      ap (λ (b : Bool). cond {A = ℕ} b 1 0) (same first ne) in
      let there : cond {A = ℕ} (in_pages first (suc n) k) (cond (p k) 1 0) 0
      ≡ cond {A = ℕ} (in_pages (first + 1) n k) (cond (p k) 1 0) 0 =
      ap (λ (b : Bool). cond {A = ℕ} b (cond (p k) 1 0) 0) (inside-next first n k ne) in
      omega (arith, rest, here, there)
]

-- ---- placements that pass a test

abbrev passes : (Placement → Bool) → Option Placement → Bool
passes test None = false
passes test (Some placement) = test placement

-- a page below those that are kept has no placement
none-below : (page : ℕ) (kept : Kept) → AllByRecursion (λ other. nat_cmp page other ≡ Less)
    (keys_of kept) → placed_at kept page ≡ None
none-below page [] below = refl
none-below page (at ∷ rest) below = ap (λ o. cond (is_eq o) (Some at.1) (placed_at rest page))
    below.0 ∙ none-below page rest below.1

other-page : (page k : ℕ) → page ≢ k → is_eq (nat_cmp page k) ≡ false
other-page page k ne = grind (arith, common_steps)

own-page : (k : ℕ) → is_eq (nat_cmp k k) ≡ true
own-page k = grind (arith, common_steps)

-- how many of the placements that are inside pass
inside : (ℕ → Bool) → (Placement → Bool) → Kept → ℕ
inside within test kept = count_by (λ at. test at.1) (filter (λ at. within at.0) kept)

inside-cons : (within : ℕ → Bool) (test : Placement → Bool) (at : ℕ × Placement) (rest : Kept)
    → inside within test (at ∷ rest) ≡ cond (within at.0) (one (test at.1)) 0 + inside within test
    rest
unfolding inside one
inside-cons within test at rest =
    let count : Kept → ℕ = count_by (λ (at : ℕ × Placement). test at.1) in
    elim (cases_Bool (within at.0)) [
      | inl within-it ↦
          rw within-it (sum_by-cons (λ (at : ℕ × Placement). cond {A = ℕ} (test at.1) 1 0) at
          (filter (λ (at : ℕ × Placement). within at.0) rest))
      | inr outside ↦ rw outside (omega arith)
    ]

nothing-inside : (within : ℕ → Bool) (test : Placement → Bool) → inside within test [] ≡ 0
unfolding inside
nothing-inside within test = refl

no-page : (first n : ℕ) → count_pages (λ page. false) first n ≡ 0
unfolding count_pages
no-page first zero = refl
no-page first (suc n) = omega (arith, no-page (first + 1) n)

by-page : (test : Placement → Bool) (first pages : ℕ) (kept : Kept) → IsRising kept
    → inside (in_pages first pages) test kept
    ≡ count_pages (λ page. passes test (placed_at kept page)) first pages
unfolding IsStrictlySortedBy
by-page test first pages [] rising = nothing-inside (in_pages first pages) test
    ∙ sym (no-page first pages)
by-page test first pages (at ∷ rest) rising =
    let p : ℕ → Bool = λ page. passes test (placed_at (at ∷ rest) page) in
    let q : ℕ → Bool = λ page. passes test (placed_at rest page) in
    let same : (page : ℕ) → page ≢ at.0 → p page ≡ q page = λ page ne.
    ap (λ (b : Bool). passes test (cond b (Some at.1) (placed_at rest page)))
    (other-page page at.0 ne) in
    let none : q at.0 ≡ false = ap (passes test) (none-below at.0 rest rising.0) in
    let here : p at.0 ≡ test at.1 =
    ap (λ (b : Bool). passes test (cond b (Some at.1) (placed_at rest at.0))) (own-page at.0) in
    inside-cons (in_pages first pages) test at rest
    ∙ (λ i. cond (in_pages first pages at.0) (one (sym here i)) 0 + by-page test first pages
    rest rising.1 i)
    ∙ sym (point p q at.0 same none first pages)

-- ---- all pages, and those on a node

all-pass : (kept : Kept) → count_by (λ at. true) kept ≡ length kept
all-pass [] = refl
all-pass (at ∷ rest) = sum_by-cons (λ (at : ℕ × Placement). 1) at rest
    ∙ omega (arith, all-pass rest)

some-passes : (o : Option Placement) → passes (λ placement. true) o ≡ is_some o
some-passes None = refl
some-passes (Some placement) = refl

node-passes : (node : ℕ) (o : Option Placement) → passes (λ placement. placement.node == node) o
    ≡ is_on node o
node-passes node None = refl
node-passes node (Some placement) = refl

pub placed-by_page : (kept : Kept) (range : Run (Option PolicyRecord)) → IsRising kept
    → length (placed_in kept range) ≡ count_pages (λ page. is_some (placed_at kept page))
    range.first range.pages
unfolding inside
placed-by_page kept range rising =
    sym (all-pass (placed_in kept range)) ∙ by-page (λ placement. true) range.first range.pages kept
    rising
    ∙ ap (λ (test : ℕ → Bool). count_pages test range.first range.pages)
    (λ i page. some-passes (placed_at kept page) i)

pub on_node-by_page : (kept : Kept) (range : Run (Option PolicyRecord)) (node : ℕ) → IsRising kept
    → pages_on (placed_in kept range) node ≡ count_pages (λ page. is_on node (placed_at kept page))
    range.first range.pages
unfolding inside
on_node-by_page kept range node rising =
    by-page (λ placement. placement.node == node) range.first range.pages kept rising
    ∙ ap (λ (test : ℕ → Bool). count_pages test range.first range.pages)
    (λ i page. node-passes node (placed_at kept page) i)
