-- Placements on the lowest placed part of each page of 2 MiB, one after another.
use Rattle.std.proofs.Common.{◌≡◌, ℕ, zero, suc, ◌+◌, ◌<◌, ◌≤◌, ◌/◌, ◌^◌, Bool, true, false, cond}
use Rattle.std.proofs.Common.{List, [], ◌∷◌, length, refl, sym, ap, ◌∙◌, arith, inl, inr, ◌⊎◌}
use Rattle.std.proofs.Common.{get_or, set, subst}
use Rattle.std.specs.Prelude.{◌==◌, max, nat_le}
use Rattle.std.proofs.lemmas.Bool.Decides.{eqb_tells, leb_tells}
use Rattle.std.proofs.lemmas.List.{get_or-set_same, get_or-set_other}
use Rattle.std.proofs.lemmas.List.Sums.{count_by-le-length}
use Rattle.numa_requests.specs.declared.placement.Placement.{Placement}
use Rattle.numa_maps.specs.Residents.{Kept}
use Rattle.numa_maps.specs.Listing.{lowest_from, pages_on}
use Rattle.numa_maps.proofs.Placed.{CountsTo, counts-next}

-- the next page of 2 MiB that has not been met, after a placement
abbrev pub after : ℕ → ℕ × Placement → ℕ
after next at = max next (at.0 / 512 + 1)

max-high : (a b : ℕ) → a ≤ b → max a b ≡ b
max-high a b le = omega (arith, le)

max-low : (a b : ℕ) → b ≤ a → max a b ≡ a
max-low a b le = omega (arith, le)

-- there is none of none
pub lowest-none : (next : ℕ) → lowest_from next [] ≡ []
unfolding lowest_from
lowest-none next = refl

-- a placement is the lowest of its page, or it isn't
pub lowest-step : (next : ℕ) (at : ℕ × Placement) (rest : Kept)
    → ((nat_le next (at.0 / 512) ≡ true)
    × (lowest_from next (at ∷ rest) ≡ at ∷ lowest_from (after next at) rest))
    ⊎ ((nat_le next (at.0 / 512) ≡ false)
    × (lowest_from next (at ∷ rest) ≡ lowest_from (after next at) rest))
unfolding lowest_from
lowest-step next at rest = elim (leb_tells next (at.0 / 512)) [
  | inl hit ↦
      inl (
        hit.0,
        ap (λ (b : Bool). cond b (at ∷ lowest_from (at.0 / 512 + 1) rest) (lowest_from next rest))
            hit.0
            ∙ ap (λ (n : ℕ). at ∷ lowest_from n rest)
            (sym (max-high next (at.0 / 512 + 1) (omega (arith, hit.1)))),
      )
  | inr miss ↦
      inr (
        miss.0,
        ap (λ (b : Bool). cond b (at ∷ lowest_from (at.0 / 512 + 1) rest) (lowest_from next rest))
            miss.0
            ∙ ap (λ (n : ℕ). lowest_from n rest)
            (sym (max-low next (at.0 / 512 + 1) (omega (arith, miss.1)))),
      )
]

-- how many they are
pub lowest-length : (next : ℕ) (at : ℕ × Placement) (rest : Kept)
    → length (lowest_from next (at ∷ rest))
    ≡ cond (nat_le next (at.0 / 512)) 1 0 + length (lowest_from (after next at) rest)
lowest-length next at rest = elim (lowest-step next at rest) [
  | inl hit ↦ omega (
    arith,
    ap (λ (kept : Kept). length kept) hit.1,
    ap (λ (b : Bool). cond {A = ℕ} b 1 0) hit.0,
  )
  | inr miss ↦ omega (
    arith,
    ap (λ (kept : Kept). length kept) miss.1,
    ap (λ (b : Bool). cond {A = ℕ} b 1 0) miss.0,
  )
]

pub lowest-few : (next : ℕ) (kept : Kept) → length (lowest_from next kept) ≤ length kept
lowest-few next [] = omega (arith, ap (λ (kept : Kept). length kept) (lowest-none next))
lowest-few next (at ∷ rest) = elim (leb_tells next (at.0 / 512)) [
  | inl hit ↦
      omega (
        arith,
        lowest-length next at rest,
        ap (λ (b : Bool). cond {A = ℕ} b 1 0) hit.0,
        lowest-few (after next at) rest,
      )
  | inr miss ↦
      omega (
        arith,
        lowest-length next at rest,
        ap (λ (b : Bool). cond {A = ℕ} b 1 0) miss.0,
        lowest-few (after next at) rest,
      )
]

-- ---- counts node by node of the lowest parts, with what is left of all

-- no count is larger than all
pub counts-small : (pages : List ℕ) (left all : Kept) (node : ℕ) → CountsTo pages left all
    → node < 256 → length all < 2 ^ 63 → get_or pages node 0 < 2 ^ 63
unfolding CountsTo
counts-small pages left all node counts small few =
    omega (
      arith,
      counts node small,
      count_by-le-length (λ (p : ℕ × Placement). p.1.node == node) all,
      few,
    )

-- nothing was added
counts-kept : (pages : List ℕ) (at : ℕ) (left all : Kept) → CountsTo pages left all
    → at < length pages → CountsTo (set pages at (get_or pages at 0 + 0)) left all
unfolding CountsTo
counts-kept pages at left all counts within node small = elim (eqb_tells at node) [
  | inl is ↦
      let new : get_or (set pages at (get_or pages at 0 + 0)) node 0 ≡ get_or pages node 0 + 0 =
      ap (λ (n : ℕ). get_or (set pages at (get_or pages at 0 + 0)) n 0) (sym is.1)
      ∙ get_or-set_same pages at (get_or pages at 0 + 0) 0 within
      ∙ ap (λ (n : ℕ). get_or pages n 0 + 0) is.1 in
      omega (arith, new, counts node small)
  | inr not-is ↦
      let new : get_or (set pages at (get_or pages at 0 + 0)) node 0 ≡ get_or pages node 0 =
      get_or-set_other pages at node (get_or pages at 0 + 0) 0 (λ e. not-is.1 (sym e)) in
      omega (arith, new, counts node small)
]

-- a placement was passed, which is counted if it is the lowest of its page
pub lows-next : (pages : List ℕ) (next added : ℕ) (at : ℕ × Placement) (rest all : Kept)
    → CountsTo pages (lowest_from next (at ∷ rest)) all → at.1.node < length pages
    → added ≡ cond (nat_le next (at.0 / 512)) 1 0
    → CountsTo (set pages at.1.node (get_or pages at.1.node 0 + added))
    (lowest_from (after next at) rest) all
lows-next pages next added at rest all counts within is = elim (lowest-step next at rest) [
  | inl hit ↦
      let one : 1 ≡ added = ap (λ (b : Bool). cond {A = ℕ} b 1 0) (sym hit.0) ∙ sym is in
      subst (λ (n : ℕ). CountsTo (set pages at.1.node (get_or pages at.1.node 0 + n))
      (lowest_from (after next at) rest) all) one
      (counts-next pages at (lowest_from (after next at) rest) all
      (subst (λ (left : Kept). CountsTo pages left all) hit.1 counts) within)
  | inr miss ↦
      let none : 0 ≡ added = ap (λ (b : Bool). cond {A = ℕ} b 1 0) (sym miss.0) ∙ sym is in
      subst (λ (n : ℕ). CountsTo (set pages at.1.node (get_or pages at.1.node 0 + n))
      (lowest_from (after next at) rest) all) none
      (counts-kept pages at.1.node (lowest_from (after next at) rest) all
      (subst (λ (left : Kept). CountsTo pages left all) miss.1 counts) within)
]
