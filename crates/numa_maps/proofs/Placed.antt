-- Placements in the pages of a range, and on a node.
use Rattle.std.proofs.Common.{◌≡◌, ℕ, ◌+◌, ◌<◌, ◌^◌, Bool, true, not, ◌&&◌, ◌==◌, cond, List, []}
use Rattle.std.proofs.Common.{◌∷◌, Option, length, filter, get_or, set, refl, sym, ap, ◌∙◌, arith}
use Rattle.std.proofs.Common.{inl, inr}
use Rattle.std.specs.Ordering.{nat_cmp, is_le}
use Rattle.std.specs.BTreeMap.Range.{entries_between}
use Rattle.std.specs.declared.ops.Bound.TheVariants.{Included, Excluded}
use Rattle.std.proofs.lemmas.Bool.{eq-eqb}
use Rattle.std.proofs.lemmas.Bool.Decides.{eqb_tells}
use Rattle.std.proofs.lemmas.Grind.{common_steps}
use Rattle.std.proofs.lemmas.List.{get_or-set_same, get_or-set_other}
use Rattle.std.proofs.lemmas.List.Sums.{count_by-le-length, sum_by-cons}
use Rattle.numa_requests.specs.declared.placement.Placement.{Placement}
use Rattle.numa_mode.specs.Policy.{PolicyRecord}
use Rattle.numa_ranges.specs.Runs.{in_pages}
use Rattle.numa_ranges.specs.declared.run.Run.{Run}
use Rattle.numa_maps.specs.Residents.{Kept}
use Rattle.numa_maps.specs.Listing.{pages_on, placed_in}

-- what a map has between two pages is what lies in the range
pub between-is : (kept : Kept) (range : Run (Option PolicyRecord))
    → entries_between nat_cmp (Included range.first) (Excluded (range.first + range.pages)) kept
    ≡ placed_in kept range
between-is kept range =
    let same : (λ (at : ℕ × Placement). is_le (nat_cmp range.first at.0)
    && not (is_le (nat_cmp (range.first + range.pages) at.0)))
    ≡ (λ (at : ℕ × Placement). in_pages range.first range.pages at.0) =
    λ i at. inside at.0 i in
    ap (λ p. filter p kept) same
  where
    inside : (page : ℕ)
        → (is_le (nat_cmp range.first page)
        && not (is_le (nat_cmp (range.first + range.pages) page))) ≡ in_pages range.first
        range.pages page
    inside page = grind (arith, common_steps)

-- ---- counts of what is left, node by node to count

pub on-first : (node : ℕ) (at : ℕ × Placement) (rest : Kept) → pages_on (at ∷ rest) node
    ≡ cond (at.1.node == node) 1 0 + pages_on rest node
on-first node at rest = sum_by-cons (λ (at : ℕ × Placement). cond {A = ℕ} (at.1.node == node) 1 0)
    at rest

-- the counts so far, and those of what is left, are those of all
unfoldable pub CountsTo : List ℕ → Kept → Kept → Type 0
CountsTo pages left all = (node : ℕ) → node < 256 → get_or pages node 0 + pages_on left node
    ≡ pages_on all node

pub counts-start : (pages : List ℕ) (all : Kept)
    → ((node : ℕ) → node < 256 → get_or pages node 0 ≡ 0) → CountsTo pages all all
unfolding CountsTo
counts-start pages all none node small = omega (arith, none node small)

pub counts-end : (pages : List ℕ) (left all : Kept) → CountsTo pages left all → left ≡ []
    → (node : ℕ) → node < 256 → get_or pages node 0 ≡ pages_on all node
unfolding CountsTo
counts-end pages left all counts over node small =
    let rest : pages_on left node ≡ 0 = ap (λ (kept : Kept). pages_on kept node) over in
    omega (arith, counts node small, rest)

pub counts-room : (pages : List ℕ) (at : ℕ × Placement) (left all : Kept)
    → CountsTo pages (at ∷ left) all → at.1.node < 256 → length all < 2 ^ 63
    → get_or pages at.1.node 0 + 1 < 2 ^ 64
unfolding CountsTo
counts-room pages at left all counts small few =
    let own : (at.1.node == at.1.node) ≡ true = eq-eqb at.1.node at.1.node refl in
    let hit : cond {A = ℕ} (at.1.node == at.1.node) 1 0 ≡ 1 = ap (λ (b : Bool). cond {A = ℕ} b 1 0)
    own in
    omega (
      arith,
      counts at.1.node small,
      on-first at.1.node at left,
      hit,
      count_by-le-length (λ (p : ℕ × Placement). p.1.node == at.1.node) all,
      few,
    )

pub counts-next : (pages : List ℕ) (at : ℕ × Placement) (left all : Kept)
    → CountsTo pages (at ∷ left) all → at.1.node < length pages
    → CountsTo (set pages at.1.node (get_or pages at.1.node 0 + 1)) left all
unfolding CountsTo
counts-next pages at left all counts within node small = elim (eqb_tells at.1.node node) [
  | inl is ↦
      let more : pages_on (at ∷ left) node ≡ 1 + pages_on left node = on-first node at left
      ∙ ap (λ (b : Bool). cond {A = ℕ} b 1 0 + pages_on left node) is.0 in
      let new : get_or (set pages at.1.node (get_or pages at.1.node 0 + 1)) node 0
      ≡ get_or pages node 0 + 1 =
      ap (λ (n : ℕ). get_or (set pages at.1.node (get_or pages at.1.node 0 + 1)) n 0) (sym is.1)
      ∙ get_or-set_same pages at.1.node (get_or pages at.1.node 0 + 1) 0 within
      ∙ ap (λ (n : ℕ). get_or pages n 0 + 1) is.1 in
      omega (arith, more, new, counts node small)
  | inr not-is ↦
      let more : pages_on (at ∷ left) node ≡ 0 + pages_on left node = on-first node at left
      ∙ ap (λ (b : Bool). cond {A = ℕ} b 1 0 + pages_on left node) not-is.0 in
      let new : get_or (set pages at.1.node (get_or pages at.1.node 0 + 1)) node 0
      ≡ get_or pages node 0 = get_or-set_other pages at.1.node node
      (get_or pages at.1.node 0 + 1) 0 (λ e. not-is.1 (sym e)) in
      omega (arith, more, new, counts node small)
]
