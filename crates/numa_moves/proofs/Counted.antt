-- Shares, counted by node.
use Rattle.std.proofs.Common.{◌≡◌, ◌≢◌, ℕ, zero, suc, ◌+◌, ◌<◌, ◌≤◌, ◌++◌, List, [], ◌∷◌, refl}
use Rattle.std.proofs.Common.{arith, inl, inr, subst}
use Rattle.std.proofs.lemmas.Bool.{cases_eq, cases_lt, eq-eqb, ne_eqb}
use Rattle.numa_reports.specs.declared.outlook.PageSpan.{PageSpan}
use Rattle.numa_moves.specs.Shares.{pages_on, share_by, shares_within}
use Rattle.numa_moves.specs.declared.share.Share.{Share}

pub pages-append : (xs ys : List Share) (node : ℕ)
    → pages_on (xs ++ ys) node ≡ pages_on xs node + pages_on ys node
pages-append [] ys node = omega arith
pages-append (x ∷ xs) ys node = omega (arith, pages-append xs ys node)

pub by-same : (span : PageSpan) (node there : ℕ) → pages_on (share_by span node there) node ≡ there
by-same span node there =
    elim (cases_eq there 0) [
      | inl none ↦ rw (eq-eqb there 0 none) (omega (arith, none))
      | inr some ↦ rw (ne_eqb there 0 some, eq-eqb node node refl) (omega arith)
    ]

pub by-other : (span : PageSpan) (node there other : ℕ) → node ≢ other
    → pages_on (share_by span node there) other ≡ 0
by-other span node there other apart =
    elim (cases_eq there 0) [
      | inl none ↦ rw (eq-eqb there 0 none) refl
      | inr some ↦ rw (ne_eqb there 0 some, ne_eqb node other apart) refl
    ]

pub within-above : (count : ℕ → ℕ) (span : PageSpan) (nodes node : ℕ) → nodes ≤ node
    → pages_on (shares_within count span nodes) node ≡ 0
within-above count span zero node high = refl
within-above count span (suc n) node high =
    omega (
      arith,
      pages-append (shares_within count span n) (share_by span n (count n)) node,
      within-above count span n node (omega arith),
      by-other span n (count n) node (λ same. omega arith),
    )

pub within-below : (count : ℕ → ℕ) (span : PageSpan) (nodes node : ℕ) → node < nodes
    → pages_on (shares_within count span nodes) node ≡ count node
within-below count span zero node low = absurd (omega arith)
within-below count span (suc n) node low =
    elim (cases_lt node n) [
      | inl l ↦ omega (
        arith,
        pages-append (shares_within count span n) (share_by span n (count n)) node,
        within-below count span n node l,
        by-other span n (count n) node (λ same. omega arith),
      )
      | inr h ↦
          let same : n ≡ node = omega arith in
          let here : pages_on (share_by span n (count n)) node ≡ count node =
          subst (λ (m : ℕ). pages_on (share_by span n (count n)) m ≡ count m) same
          (by-same span n (count n)) in
          omega (
            arith,
            pages-append (shares_within count span n) (share_by span n (count n)) node,
            within-above count span n node h,
            here,
          )
    ]
