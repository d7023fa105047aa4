-- Pages counted by node.
use Rattle.std.proofs.Common.{◌≡◌, ℕ, zero, suc, ◌+◌, ◌<◌, ◌≤◌, Bool, false, cond, eqb, leb, Option}
use Rattle.std.proofs.Common.{Some, None, List, [], ◌∷◌, length, get_or, set, refl, sym, ap, subst}
use Rattle.std.proofs.Common.{◌∙◌, arith, inl, inr, add-zero}
use Rattle.std.specs.Prelude.{sum}
use Rattle.std.proofs.lemmas.Bool.{cases_eq}
use Rattle.std.proofs.lemmas.Bool.Decides.{nat_tests}
use Rattle.std.proofs.lemmas.List.{get_or-set_same, get_or-set_other}
use Rattle.std.proofs.lemmas.List.Sums.{sum_by-cons}
use Rattle.numa_lanes.specs.Spans.{node_count}
use Rattle.numa_ranges.specs.Counts.{count_pages}
use Rattle.numa_plan.specs.Meaning.{PlanData, is_number, planned_count, planned_first}
use Rattle.numa_plan.proofs.CountLemmas.{count-most}

-- pages of a span whose test says what stands in the span's place
counted-span : (test : ℕ → Bool) (node : ℕ) (span : List ℕ) (first : ℕ)
    → ((k : ℕ) → k < length span → test (first + k) ≡ eqb (get_or span k 0) node)
    → count_pages test first (length span) ≡ node_count node span
unfolding count_pages
counted-span test node [] first same = refl
counted-span test node (x ∷ span) first same =
    let here : test first ≡ eqb x node = ap test (sym (add-zero first)) ∙ same 0 (omega arith) in
    let rest : count_pages test (first + 1) (length span) ≡ node_count node span =
    counted-span test node span (first + 1) (λ k lt.
    let place : first + 1 + k ≡ first + suc k = omega arith in
    ap test place ∙ same (suc k) (omega arith)) in
    (λ i. cond {A = ℕ} (here i) 1 0 + rest i)
    ∙ sym (sum_by-cons (λ x. cond {A = ℕ} (eqb x node) 1 0) x span)

-- what a plan wrote for a span of `n` pages
module _ (plan : PlanData) (task cpu first : ℕ) (nodes : List ℕ) (n : ℕ) (long : length nodes ≡ n)
    (filled : (k : ℕ) → k < length nodes → planned_first plan task (first + k) cpu
    ≡ Some (get_or nodes k 0)) where
  -- has each node as often as its pages have it first
  pub filled-places : (node : ℕ) → planned_count plan task first n cpu node ≡ node_count node nodes
  filled-places node =
      ap (λ (m : ℕ). planned_count plan task first m cpu node) (sym long)
      ∙ counted-span (λ page. is_number node (planned_first plan task page cpu)) node nodes first
      (λ k lt. ap (is_number node) (filled k lt))

-- ---- each page has one first node at most

abbrev at_least : ℕ → Option ℕ → Bool
at_least base None = false
at_least base (Some n) = leb base n

count-both : (p q r : ℕ → Bool) (first n : ℕ)
    → ((page : ℕ) → cond {A = ℕ} (p page) 1 0 + cond {A = ℕ} (q page) 1 0 ≤ cond {A = ℕ} (r page) 1
    0) → count_pages p first n + count_pages q first n ≤ count_pages r first n
unfolding count_pages
count-both p q r first zero parts = omega arith
count-both p q r first (suc n) parts =
    omega (arith, parts first, count-both p q r (first + 1) n parts)

one-first : (base : ℕ) (o : Option ℕ) → cond {A = ℕ} (is_number base o) 1 0 + cond {A = ℕ}
    (at_least (base + 1) o) 1 0 ≤ cond {A = ℕ} (at_least base o) 1 0
one-first base None = omega arith
one-first base (Some n) = grind (arith, nat_tests)

few : (f : ℕ → Option ℕ) (first n base : ℕ) (counts : List ℕ)
    → ((k : ℕ) → k < length counts
    → get_or counts k 0 ≡ count_pages (λ page. is_number (base + k) (f page)) first n)
    → sum counts ≤ count_pages (λ page. at_least base (f page)) first n
few f first n base [] are = omega arith
few f first n base (x ∷ counts) are =
    let here : x ≡ count_pages (λ page. is_number base (f page)) first n = are 0 (omega arith)
    ∙ ap (λ (b : ℕ). count_pages (λ page. is_number b (f page)) first n) (add-zero base) in
    let rest : sum counts ≤ count_pages (λ page. at_least (base + 1) (f page)) first n =
    few f first n (base + 1) counts (λ k lt.
    let place : base + suc k ≡ base + 1 + k = omega arith in
    are (suc k) (omega arith) ∙ ap (λ (b : ℕ). count_pages (λ page. is_number b (f page)) first n)
    place) in
    omega (
      arith,
      here,
      rest,
      sum_by-cons (λ (y : ℕ). y) x counts,
      count-both (λ page. is_number base (f page)) (λ page. at_least (base + 1) (f page))
          (λ page. at_least base (f page)) first n (λ page. one-first base (f page)),
    )

-- so all nodes have no more pages than there are
pub few-numbers : (f : ℕ → Option ℕ) (first n : ℕ) (counts : List ℕ) → length counts ≡ 256
    → ((node : ℕ) → node < 256
    → get_or counts node 0 ≡ count_pages (λ page. is_number node (f page)) first n)
    → sum counts ≤ n
few-numbers f first n counts long are =
    let all : sum counts ≤ count_pages (λ page. at_least 0 (f page)) first n =
    few f first n 0 counts (λ k lt.
    let place : k ≡ 0 + k = omega arith in
    are k (omega (arith, long)) ∙ ap (λ (b : ℕ). count_pages (λ page. is_number b (f page)) first n)
    place) in
    omega (arith, all, count-most (λ page. at_least 0 (f page)) first n)

-- ---- counts that are moved, a node's after another

pub moved-kept : (all counts : List ℕ) (at n : ℕ) → at < length all → at < length counts
    → get_or (set all at (get_or all at 0 + get_or counts at 0)) n 0 + get_or (set counts at 0) n 0
    ≡ get_or all n 0 + get_or counts n 0
moved-kept all counts at n within_all within =
    let total = get_or all at 0 + get_or counts at 0 in
    elim (cases_eq at n) [
      | inl same ↦
          subst (λ (k : ℕ). get_or (set all at total) k 0 + get_or (set counts at 0) k 0
          ≡ get_or all k 0 + get_or counts k 0) same
          (omega (
            arith,
            get_or-set_same all at total 0 within_all,
            get_or-set_same counts at 0 0 within,
          ))
      | inr other ↦ omega (
        arith,
        get_or-set_other all at n total 0 (λ e. other (sym e)),
        get_or-set_other counts at n 0 0 (λ e. other (sym e)),
      )
    ]

pub moved-none : (counts : List ℕ) (at : ℕ) → at < length counts
    → ((n : ℕ) → n < at → get_or counts n 0 ≡ 0) → (n : ℕ) → n < at + 1
    → get_or (set counts at 0) n 0 ≡ 0
moved-none counts at within none n early = elim (cases_eq at n) [
  | inl same ↦ subst (λ (k : ℕ). get_or (set counts at 0) k 0 ≡ 0) same
      (get_or-set_same counts at 0 0 within)
  | inr other ↦ get_or-set_other counts at n 0 0 (λ e. other (sym e))
      ∙ none n (omega (arith, other))
]
