-- A loop that gives each place of a list its number.
use Rattle.std.proofs.Common.{◌≡◌, ◌≢◌, ℕ, ◌+◌, ◌<◌, ◌≤◌, List, length, set, refl, sym, ◌∙◌, arith}
use Rattle.std.proofs.Common.{inl, inr, map, subst}
use Rattle.std.specs.Prelude.{slice_index, if◌then◌else◌}
use Rattle.std.proofs.lemmas.Bool.{cases_eq}
use Rattle.std.proofs.lemmas.List.{ext_get_or, get_or-map, get_or-set_other, get_or-set_same}
use Rattle.std.proofs.lemmas.List.{length-map}
use Rattle.numa_mask.specs.NodeSet.{has}
use Rattle.numa_pools.specs.Turns.{each, on}
use Rattle.numa_pools.proofs.Each.{each-is, length-on, on-at}

-- the places before one have their numbers, and the others are as they were
pub record IsDone (f : ℕ → ℕ) (old xs : List ℕ) (place : ℕ) : Type 0 where
  pub done : (k : ℕ) → k < place → slice_index xs k ≡ f k
  pub rest : (k : ℕ) → place ≤ k → slice_index xs k ≡ slice_index old k

pub done-none : (f : ℕ → ℕ) (old : List ℕ) → IsDone f old old 0
done-none f old = record {
  done = λ k l. absurd (omega (arith, l));
  rest = λ k l. refl;
}

pub done-more : (f : ℕ → ℕ) (old xs : List ℕ) (place x : ℕ) → IsDone f old xs place
    → place < length xs → x ≡ f place → IsDone f old (set xs place x) (place + 1)
done-more f old xs place x so l is = record {
  done = λ k before. elim (cases_eq k place) [
    | inl e ↦
        subst (λ (n : ℕ). slice_index (set xs place x) n ≡ f n) (sym e)
        (get_or-set_same xs place x 0 l ∙ is)
    | inr ne ↦
        get_or-set_other xs place k x 0 ne ∙ so.done k (omega (arith, before, ne))
  ];
  rest = λ k behind.
      let ne : k ≢ place = λ (e : k ≡ place). let odd : ⊥ = omega (arith, e, behind) in odd in
      get_or-set_other xs place k x 0 ne ∙ so.rest k (omega (arith, behind));
}

pub done-each : (g : ℕ → ℕ → ℕ) (old ys xs : List ℕ) (end : ℕ) → length xs ≡ length old
    → length old ≡ length ys → length old ≤ end
    → IsDone (λ k. g (slice_index old k) (slice_index ys k)) old xs end → xs ≡ each g old ys
done-each g old ys xs end long even all so =
    each-is g xs old ys long even (λ k l. so.done k (omega (arith, l, all)))

pub done-map : (g : ℕ → ℕ) (old xs : List ℕ) (end : ℕ) → length xs ≡ length old
    → length old ≤ end → IsDone (λ k. g (slice_index old k)) old xs end → xs ≡ map g old
done-map g old xs end long all so =
    ext_get_or 0 xs (map g old) (long ∙ sym (length-map old g))
    (λ k l. so.done k (omega (arith, l, long, all))
    ∙ sym (get_or-map g old k 0 0 (omega (arith, l, long))))

pub done-on : (nodes : ℕ) (old ys xs : List ℕ) (end : ℕ) → length xs ≡ length ys
    → length ys ≤ end
    → IsDone (λ k. if has nodes k then slice_index ys k else 0) old xs end → xs ≡ on nodes ys
done-on nodes old ys xs end long all so =
    ext_get_or 0 xs (on nodes ys) (long ∙ sym (length-on nodes ys))
    (λ k l. so.done k (omega (arith, l, long, all)) ∙ sym (on-at nodes ys k))
