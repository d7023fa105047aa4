-- What is told of pages that went, node by node or each by its own policy.
use Rattle.std.proofs.Common.{◌≡◌, ℕ, ◌+◌, ◌<◌, ◌&&◌, ◌∙◌, Bool, true, false, List, [], ◌∷◌}
use Rattle.std.proofs.Common.{◌++◌, length, refl, sym, ap, arith, inl, inr, get_or, drop, set}
use Rattle.std.specs.Prelude.{◌==◌, if◌then◌else◌, slice_index}
use Rattle.std.proofs.lemmas.Bool.{cases_eq, eq-eqb, ne_eqb}
use Rattle.std.proofs.lemmas.List.{get_or-set_other, get_or-set_same, length-append}
use Rattle.std.proofs.lemmas.List.Sums.{sum_by-drop_more, sum_by_push}
use Rattle.numa_placed.specs.declared.moved.Moved.{Moved}
use Rattle.numa_huge.specs.Moves.{HugeTold, stayed, with_moved}
use Rattle.numa_huge.specs.Tallies.{HasTold, flow_in, is_flow}
use Rattle.numa_huge.specs.declared.last.Flows.{Flows}
use Rattle.numa_huge.specs.declared.last.HugeLast.TheVariants.{Nodes, Pages}
use Rattle.numa_huge.specs.declared.last.HugeMove.{HugeMove}

abbrev pub one_if : Bool → ℕ
one_if b = if b then 1 else 0

-- ---- node by node

-- no page went
pub flow-still : (targets counts : List ℕ) (from to : ℕ) → slice_index counts from ≡ 0
    → (if slice_index targets from == to then slice_index counts from else 0) ≡ 0
flow-still targets counts from to none = zero (slice_index targets from == to)
  where
    zero : (b : Bool) → (if b then slice_index counts from else 0) ≡ 0
    zero true = none
    zero false = refl

-- a page of a node that goes to another
pub told-one : (told : Moved) (from to : ℕ) → from < length told.from → from < length told.to
    → (from == to) ≡ false → HasTold (Nodes told) stayed
    → HasTold (Nodes (record {
      moved = 1;
      left = told.left;
      from = set told.from from 1;
      to = set told.to from to;
    })) (with_moved from to stayed)
told-one told from to there here apart has = rw apart (record {
  moved = refl;
  left = has.left;
  flow = λ one other small near. elim (cases_eq one from) [
    | inl e ↦ rw (
      e,
      get_or-set_same told.to from to 0 here,
      get_or-set_same told.from from 1 0 there,
      eq-eqb from from refl,
    ) (omega arith)
    | inr ne ↦ rw (
      get_or-set_other told.to from one to 0 ne,
      get_or-set_other told.from from one 1 0 ne,
      ne_eqb from one (λ e. ne (sym e)),
    ) (has.flow one other small near)
  ];
})

-- of one node
pub flow-row : (targets counts row : List ℕ) (from to : ℕ) → slice_index targets from < length row
    → slice_index row to ≡ 0
    → slice_index (set row (slice_index targets from) (slice_index counts from)) to
    ≡ (if slice_index targets from == to then slice_index counts from else 0)
flow-row targets counts row from to there none =
    let target : ℕ = slice_index targets from in
    let pages : ℕ = slice_index counts from in
    elim (cases_eq to target) [
      | inl e ↦ rw (e, eq-eqb target target refl) (get_or-set_same row target pages 0 there)
      | inr ne ↦ rw (ne_eqb target to (λ e. ne (sym e)))
          (get_or-set_other row target to pages 0 ne ∙ none)
    ]

-- ---- page by page

-- a list of one page more
pub flow-push : (moves : List HugeMove) (gone : HugeMove) (from to : ℕ)
    → flow_in (moves ++ gone ∷ []) from to ≡ flow_in moves from to + one_if (is_flow from to gone)
flow-push moves gone from to =
    sum_by_push (λ (g : HugeMove). one_if (is_flow from to g)) moves gone

-- the pages that are left, without their first
pub flow-next : (moves : List HugeMove) (i from to : ℕ) (d : HugeMove) → i < length moves
    → flow_in (drop i moves) from to
    ≡ one_if (is_flow from to (get_or moves i d)) + flow_in (drop (i + 1) moves) from to
flow-next moves i from to d there =
    sum_by-drop_more (λ (g : HugeMove). one_if (is_flow from to g)) moves i d there

pub told-push : (old new : Flows) (from to : ℕ) (told : HugeTold) → (from == to) ≡ false
    → new.moves.items ≡ old.moves.items ++ record { from = from; to = to } ∷ []
    → new.left ≡ old.left → HasTold (Pages old) told
    → HasTold (Pages new) (with_moved from to told)
told-push old new from to told apart more left has = rw apart (record {
  moved = ap (λ (l : List HugeMove). length l) more
      ∙ length-append old.moves.items (record { from = from; to = to } ∷ [])
      ∙ ap (λ (n : ℕ). n + 1) has.moved;
  left = left ∙ has.left;
  flow = λ one other small near. ap (λ (l : List HugeMove). flow_in l one other) more
      ∙ flow-push old.moves.items (record { from = from; to = to }) one other
      ∙ ap (λ (n : ℕ). n + one_if ((from == one) && (to == other))) (has.flow one other small near);
})

-- one more page of a row
pub row-more : (row : List ℕ) (gone : HugeMove) (from to : ℕ) → gone.to < length row
    → (gone.from == from) ≡ true
    → slice_index (set row gone.to (slice_index row gone.to + 1)) to
    ≡ slice_index row to + one_if (is_flow from to gone)
row-more row gone from to there is = elim (cases_eq to gone.to) [
  | inl e ↦ rw (is, e, eq-eqb gone.to gone.to refl)
      (get_or-set_same row gone.to (slice_index row gone.to + 1) 0 there)
  | inr ne ↦ rw (is, ne_eqb gone.to to (λ e. ne (sym e)))
      (omega (arith, get_or-set_other row gone.to to (slice_index row gone.to + 1) 0 ne))
]
