-- A split keeps the order of all steps.
use Rattle.std.proofs.Common.{◌≡◌, ◌≢◌, ◌⊎◌, ℕ, ◌+◌, ◌<◌, ◌≤◌, List, [], ◌∷◌, ◌++◌}
use Rattle.std.proofs.Common.{length, set, inl, inr, false, cond, refl}
use Rattle.std.proofs.Common.{sym, ap, ◌∙◌, subst, arith, length-set, eq-eqb, ne_eqb}
use Rattle.std.specs.Prelude.{◌==◌}
use mathlib.Core.Option.{some}
use native.Mathlib.Decide.{ℕ_discrete}
use lib.ListN.{get_elem?}
use Rattle.atomic_table.proofs.Lists.{at_set}
use Rattle.numa_pool.specs.declared.view.View.{View}
use Rattle.numa_pool.specs.Order.{own}
use Rattle.numa_pool.specs.Order.{Deeds, pasts_of, AreParts, ShowsSteps, IsBorn, AreNamed, InOrder}
use Rattle.numa_pool.specs.Steps.{newborn, after_split}
use Rattle.numa_pool.proofs.Ordering.{at_end, below, past_by, pasts_stay_both}

module _ (frames words : List ℕ) (views : List View) (id : ℕ) (v : View)
    (at : get_elem? views id ≡ some v) (live : v.gone ≡ false) (o : InOrder frames words views)
  where
    mine : ShowsSteps o.deeds o.host id v
    mine = o.shown id v at live

    abbrev last_seat : ℕ
    last_seat = length views

    is_there : id < last_seat
    is_there = below views id v at

    id_else : last_seat ≢ id
    id_else same = absurd (let l = is_there in omega arith)

    abbrev with_child : Deeds
    with_child = record {
      made = o.deeds.made;
      name = λ j. cond (last_seat == j) (o.deeds.splits id ∷ o.deeds.name id) (o.deeds.name j);
      splits = λ j. cond (id == j) (o.deeds.splits id + 1) (o.deeds.splits j);
    }

    name_child : with_child.name last_seat ≡ o.deeds.splits id ∷ o.deeds.name id
    name_child = ap (λ b. cond b (o.deeds.splits id ∷ o.deeds.name id) (o.deeds.name last_seat))
        (eq-eqb last_seat last_seat refl)

    name_else : (j : ℕ) → last_seat ≢ j → with_child.name j ≡ o.deeds.name j
    name_else j apart = ap (λ b. cond b (o.deeds.splits id ∷ o.deeds.name id) (o.deeds.name j))
        (ne_eqb last_seat j apart)

    splits_here : with_child.splits id ≡ o.deeds.splits id + 1
    splits_here = ap (λ b. cond b (o.deeds.splits id + 1) (o.deeds.splits id)) (eq-eqb id id refl)

    splits_else : (j : ℕ) → id ≢ j → with_child.splits j ≡ o.deeds.splits j
    splits_else j apart = ap (λ b. cond b (o.deeds.splits id + 1) (o.deeds.splits j))
        (ne_eqb id j apart)

    no_fewer : (j : ℕ) → o.deeds.splits j ≤ with_child.splits j
    no_fewer j = by (ℕ_discrete id j)
      where
        by : Dec (id ≡ j) → o.deeds.splits j ≤ with_child.splits j
        by (yes same) = subst (λ (i : ℕ). o.deeds.splits i ≤ with_child.splits i) same
            (let e = splits_here in omega arith)
        by (no apart) = let e = splits_else j apart in omega arith

    child_past : (j : ℕ) → j ≢ id → j ≢ last_seat → past_by with_child j ≡ past_by o.deeds j
    child_past j apart far = λ c. record {
      name = name_else j (λ s. far (sym s)) c;
      splits = splits_else j (λ s. apart (sym s)) c;
      log = own j o.deeds.made;
    }

    last_host : o.host last_seat ≡ last_seat
    last_host = o.later last_seat (omega arith)

    child_parts : (k : ℕ) (parts : List ℕ) → AreParts o.host k parts
        → pasts_of with_child parts ≡ pasts_of o.deeds parts
    child_parts = pasts_stay_both o.deeds with_child o.host id last_seat mine.itself last_host
        child_past

    longer : (vs : List View) (w : View) → length (vs ++ w ∷ []) ≡ length vs + 1
    longer [] w = refl
    longer (x ∷ xs) w = let rest = longer xs w in omega arith

    abbrev split_views : List View
    split_views = set views id (after_split v) ++ newborn v ∷ []

    split_length : length split_views ≡ last_seat + 1
    split_length = longer (set views id (after_split v)) (newborn v)
        ∙ ap (λ n. n + 1) (length-set views id (after_split v))

    born_then : (j : ℕ) → j < last_seat + 1 → IsBorn with_child (last_seat + 1) j
    born_then j low = by (ℕ_discrete last_seat j)
      where
        old : last_seat ≢ j → IsBorn o.deeds last_seat j → IsBorn with_child (last_seat + 1) j
        old apart (inl root) = inl (name_else j apart ∙ root)
        old apart (inr h) =
            let k_low = h.2 in
            let k_apart : last_seat ≢ h.0 = (λ s. absurd (omega (arith, s, k_low))) in
            let few = no_fewer h.0 in
            let i_low = h.3 in
            inr (
              h.0,
              h.1,
              omega arith,
              omega arith,
              name_else j apart ∙ h.4 ∙ ap (λ n. h.1 ∷ n) (sym (name_else h.0 k_apart)),
            )

        by : Dec (last_seat ≡ j) → IsBorn with_child (last_seat + 1) j
        by (yes same) = subst (λ (i : ℕ). IsBorn with_child (last_seat + 1) i) same (inr (
          id,
          o.deeds.splits id,
          (let l = is_there in omega arith),
          (let e = splits_here in omega arith),
          name_child ∙ ap (λ n. o.deeds.splits id ∷ n) (sym (name_else id id_else)),
        ))
        by (no apart) = old apart (o.names.born j
            (let far : last_seat ≢ j = apart in omega (arith, low, far)))

    -- the new name is no other seat's
    new_name : (k : ℕ) → k < last_seat → o.deeds.splits id ∷ o.deeds.name id ≡ o.deeds.name k → ⊥
    new_name k low same = by (o.names.born k low)
      where
        by : IsBorn o.deeds last_seat k → ⊥
        by (inl root) =
            let n : length (o.deeds.splits id ∷ o.deeds.name id) ≡ 0 = ap length (same ∙ root) in
            absurd (omega arith)
        by (inr h) =
            let eq = same ∙ h.4 in
            let number : o.deeds.splits id ≡ h.1 = cc in
            let name : o.deeds.name id ≡ o.deeds.name h.0 = cc in
            let one = o.names.unique id h.0 is_there h.2 name in
            let few : h.1 < o.deeds.splits id = subst (λ (i : ℕ). h.1 < o.deeds.splits i) (sym one)
            h.3 in
            absurd (omega arith)

    unique_then : (j k : ℕ) → j < last_seat + 1 → k < last_seat + 1
        → with_child.name j ≡ with_child.name k → j ≡ k
    unique_then j k low small same = by (ℕ_discrete last_seat j) (ℕ_discrete last_seat k)
      where
        by : Dec (last_seat ≡ j) → Dec (last_seat ≡ k) → j ≡ k
        by (yes a) (yes b) = sym a ∙ b
        by (yes a) (no b) = absurd (new_name k (omega (arith, small, b))
            (sym name_child ∙ ap with_child.name a ∙ same ∙ name_else k b))
        by (no a) (yes b) = absurd (new_name j (omega (arith, low, a))
            (sym name_child ∙ ap with_child.name b ∙ sym same ∙ name_else j a))
        by (no a) (no b) = o.names.unique j k (omega (arith, low, a)) (omega (arith, small, b))
            (sym (name_else j a) ∙ same ∙ name_else k b)

    pub splits_order : InOrder frames words split_views
    splits_order = record {
      first = o.first;
      clear = o.clear;
      deeds = with_child;
      host = o.host;
      order = o.order;
      last = o.last;
      shown = λ j u there alive.
          at_end_by j u alive (at_end (set views id (after_split v)) (newborn v) u j there);
      later = λ j high. o.later j (let n = split_length in omega arith);
      names = subst (λ (n : ℕ). AreNamed with_child n) (sym split_length) record {
        born = born_then;
        unique = unique_then;
        none_else = λ j high.
            let rest = o.names.none_else j (omega arith) in
            let l = is_there in (
              rest.0,
              splits_else j (λ s. absurd (omega (arith, s, l, high))) ∙ rest.1,
            );
      };
    }
      where
        by : (j : ℕ) (u : View) → u.gone ≡ false
            → ((j ≡ id) × (after_split v ≡ u)) ⊎ ((j ≢ id) × (get_elem? views j ≡ some u))
            → ShowsSteps with_child o.host j u
        by j u alive (inl s) =
            subst (λ (q : ℕ × View). ShowsSteps with_child o.host q.0 q.1) (λ c. (sym s.0 c, s.1 c))
            record {
              itself = mine.itself;
              log = mine.log;
              named = mine.named ∙ sym (name_else id id_else);
              split = ap (λ n. n + 1) mine.split ∙ sym splits_here;
              parts = mine.parts;
              past = mine.past ∙ sym (child_parts id mine.parts mine.hosted);
              hosted = mine.hosted;
              different = mine.different;
            }
        by j u alive (inr s) =
            let its = o.shown j u s.1 alive in
            let low = below views j u s.1 in
            record {
              itself = its.itself;
              log = its.log;
              named = its.named ∙ sym (name_else j (λ e. absurd (omega (arith, e, low))));
              split = its.split ∙ sym (splits_else j (λ e. s.0 (sym e)));
              parts = its.parts;
              past = its.past ∙ sym (child_parts j its.parts its.hosted);
              hosted = its.hosted;
              different = its.different;
            }

        at_end_by : (j : ℕ) (u : View) → u.gone ≡ false
            → (get_elem? (set views id (after_split v)) j ≡ some u)
            ⊎ ((j ≡ length (set views id (after_split v))) × (newborn v ≡ u))
            → ShowsSteps with_child o.host j u
        at_end_by j u alive (inl there) = by j u alive (at_set views id j (after_split v) u there)
        at_end_by j u alive (inr s) =
            let is_last : last_seat ≡ j = sym (s.0 ∙ length-set views id (after_split v)) in
            let none = o.names.none_else last_seat (omega arith) in
            subst (λ (q : ℕ × View). ShowsSteps with_child o.host q.0 q.1)
            (λ c. (is_last c, s.1 c)) record {
              itself = last_host;
              log = sym none.0;
              named = (λ c. mine.split c ∷ mine.named c) ∙ sym name_child;
              split = sym (splits_else last_seat (λ e. id_else (sym e)) ∙ none.1);
              parts = [];
              past = refl;
              hosted = tt;
              different = tt;
            }
