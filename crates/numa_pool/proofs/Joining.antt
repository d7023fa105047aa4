-- A join keeps the order of all steps.
use Rattle.std.proofs.Common.{◌≡◌, ◌≢◌, ◌⊎◌, ℕ, List, [], ◌∷◌, ◌++◌}
use Rattle.std.proofs.Common.{set, inl, inr, true, false, cond}
use Rattle.std.proofs.Common.{sym, ap, ◌∙◌, subst, arith, length-set, eq-eqb, ne_eqb}
use Rattle.std.specs.Prelude.{◌==◌}
use Rattle.std.proofs.lemmas.List.{map-append}
use mathlib.Core.Option.{some}
use lib.ListN.{get_elem?}
use Rattle.atomic_table.proofs.Lists.{at_set, set_else}
use Rattle.numa_pool.specs.declared.view.View.{View}
use Rattle.numa_pool.specs.Order.{AreParts, ShowsSteps, AreNamed, InOrder}
use Rattle.numa_pool.specs.Steps.{spent, after_join}
use Rattle.numa_pool.proofs.Ordering.{below, absent_append, past_by, absent_apart, different_append}
use Rattle.numa_pool.proofs.Ordering.{absent_itself, parts_append}

module _ (frames words : List ℕ) (views : List View) (id : ℕ) (v : View)
    (at : get_elem? views id ≡ some v) (live : v.gone ≡ false) (o : InOrder frames words views)
  where
    mine : ShowsSteps o.deeds o.host id v
    mine = o.shown id v at live

    module _ (other : ℕ) (x : View) (apart : ¬ (other ≡ id))
        (there : get_elem? (set views id (after_join v x)) other ≡ some x) (fit : x.gone ≡ false)
      where
        abbrev both : View
        both = after_join v x

        before : get_elem? views other ≡ some x
        before = sym (set_else views id other both apart) ∙ there

        its : ShowsSteps o.deeds o.host other x
        its = o.shown other x before fit

        -- the seats that were part of the other one are part of this one now
        abbrev moved : ℕ → ℕ
        moved j = cond (o.host j == other) id (o.host j)

        moved_here : (j : ℕ) → o.host j ≡ other → moved j ≡ id
        moved_here j e = ap (λ b. cond b id (o.host j)) (eq-eqb (o.host j) other e)

        moved_else : (j : ℕ) → o.host j ≢ other → moved j ≡ o.host j
        moved_else j e = ap (λ b. cond b id (o.host j)) (ne_eqb (o.host j) other e)

        parts_moved : (js : List ℕ) → AreParts o.host other js → AreParts moved id js
        parts_moved [] p = tt
        parts_moved (j ∷ js) p = (
          moved_here j p.0,
          (λ same. apart (sym p.0 ∙ ap o.host same ∙ mine.itself)),
          parts_moved js p.2,
        )

        parts_stay : (k : ℕ) → k ≢ other → (js : List ℕ) → AreParts o.host k js → AreParts moved k js
        parts_stay k far [] p = tt
        parts_stay k far (j ∷ js) p =
            (moved_else j (λ e. far (sym p.0 ∙ e)) ∙ p.0, p.1, parts_stay k far js p.2)

        shows_both : ShowsSteps o.deeds moved id both
        shows_both = record {
          itself = moved_else id (λ e. apart (sym e ∙ mine.itself)) ∙ mine.itself;
          log = mine.log;
          named = mine.named;
          split = mine.split;
          parts = (other ∷ its.parts) ++ mine.parts;
          past = (λ c.
              (record { name = its.named c; splits = its.split c; log = its.log c } ∷ its.past c)
              ++ mine.past c)
              ∙ sym (map-append (past_by o.deeds) (other ∷ its.parts) mine.parts);
          hosted = (
            moved_here other its.itself,
            apart,
            parts_append moved id its.parts mine.parts (parts_moved its.parts its.hosted)
                (parts_stay id (λ e. apart (sym e)) mine.parts mine.hosted),
          );
          different = (
            absent_append other its.parts mine.parts
                (absent_itself o.host other its.parts its.hosted)
                (absent_apart o.host other other id its.itself apart mine.parts mine.hosted),
            different_append o.host other id apart its.parts mine.parts its.hosted mine.hosted
                its.different mine.different,
          );
        }

        shows_else : (j : ℕ) (u : View) → j ≢ other → get_elem? views j ≡ some u → u.gone ≡ false
            → ShowsSteps o.deeds moved j u
        shows_else j u far at_j alive =
            let old = o.shown j u at_j alive in
            record {
              itself = moved_else j (λ e. far (sym old.itself ∙ e)) ∙ old.itself;
              log = old.log;
              named = old.named;
              split = old.split;
              parts = old.parts;
              past = old.past;
              hosted = parts_stay j far old.parts old.hosted;
              different = old.different;
            }

        pub joins_order : InOrder frames words (set (set views id both) other spent)
        joins_order = record {
          first = o.first;
          clear = o.clear;
          deeds = o.deeds;
          host = moved;
          order = o.order;
          last = o.last;
          shown = λ j u now alive. by j u alive (at_set (set views id both) other j spent u now);
          later = λ j high.
              let n = length-set (set views id both) other spent in
              let m = length-set views id both in
              let l = below views other x before in
              let rest = o.later j (omega arith) in
              moved_else j (λ e. absurd (omega (arith, e, rest))) ∙ rest;
          names = subst (λ (n : ℕ). AreNamed o.deeds n)
              (sym (length-set (set views id both) other spent ∙ length-set views id both)) o.names;
        }
          where
            first_of : (j : ℕ) (u : View) → u.gone ≡ false → j ≢ other
                → ((j ≡ id) × (both ≡ u)) ⊎ ((j ≢ id) × (get_elem? views j ≡ some u))
                → ShowsSteps o.deeds moved j u
            first_of j u alive far (inl s) =
                subst (λ (q : ℕ × View). ShowsSteps o.deeds moved q.0 q.1) (λ c. (sym s.0 c, s.1 c))
                shows_both
            first_of j u alive far (inr s) = shows_else j u far s.1 alive

            by : (j : ℕ) (u : View) → u.gone ≡ false
                → ((j ≡ other) × (spent ≡ u)) ⊎ ((j ≢ other)
                × (get_elem? (set views id both) j ≡ some u)) → ShowsSteps o.deeds moved j u
            by j u alive (inl s) =
                let gone_now : true ≡ false = ap (λ (w : View). w.gone) s.1 ∙ alive in absurd (cc)
            by j u alive (inr s) = first_of j u alive s.0 (at_set views id j both u s.1)
