-- Each step adds itself to the order of all steps.
use Rattle.std.proofs.Common.{◌≡◌, ◌≢◌, ◌⊎◌, ℕ, zero, suc, ◌*◌, ◌<◌, ◌≤◌, List, [], ◌∷◌, ◌++◌}
use Rattle.std.proofs.Common.{length, set, inl, inr, false, cond, refl, ⊎_elim}
use Rattle.std.proofs.Common.{sym, ap, ◌∙◌, subst, arith, length-set, eq-eqb, ne_eqb}
use Rattle.std.specs.Prelude.{slice_index}
use mathlib.Core.Option.{some, some-ne-none, some-injective}
use native.Mathlib.Decide.{dec_le}
use lib.ListN.{get_elem?}
use Rattle.atomic_table.proofs.Lists.{at_set}
use Rattle.numa_pool.specs.declared.view.Entry.{Entry}
use Rattle.numa_pool.specs.declared.view.Past.{Past}
use Rattle.numa_pool.specs.declared.view.Unlogged.{Unlogged}
use Rattle.numa_pool.specs.declared.view.View.{View}
use Rattle.numa_pool.specs.Order.{Made, own, written, Finds, IsAbsent, AreDifferent}
use Rattle.numa_pool.specs.Order.{Deeds, pasts_of, AreParts, ShowsSteps, IsBorn, AreNamed, InOrder}
use Rattle.numa_pool.specs.Order.{AreBelow, IsLedTo}
use Rattle.numa_pool.specs.Steps.{newcomer, past_of}
use Rattle.numa_pool.specs.Steps.{after_check}

pub at_end : {A : Type 0} (l : List A) (a b : A) (j : ℕ) → get_elem? (l ++ a ∷ []) j ≡ some b
    → (get_elem? l j ≡ some b) ⊎ ((j ≡ length l) × (a ≡ b))
at_end [] a b zero e = inr (refl, some-injective a b e)
at_end [] a b (suc j) e = absurd (some-ne-none b (sym e))
at_end (x ∷ xs) a b zero e = inl e
at_end (x ∷ xs) a b (suc j) e =
    ⊎_elim (λ h. inl h) (λ h. inr (ap suc h.0, h.1)) (at_end xs a b j e)

pub below : {A : Type 0} (l : List A) (i : ℕ) (a : A) → get_elem? l i ≡ some a → i < length l
below [] i a e = absurd (some-ne-none a (sym e))
below (x ∷ xs) zero a e = omega arith
below (x ∷ xs) (suc i) a e = let rest = below xs i a e in omega arith

abbrev pub made_by : ℕ → Entry → Made
made_by id e = record { seat = id; entry = e }

pub own_here : (id : ℕ) (e : Entry) (made : List Made) → own id (made_by id e ∷ made) ≡ e ∷ own id
    made
own_here id e made = ap (λ b. cond b (e ∷ own id made) (own id made)) (eq-eqb id id refl)

pub own_else : (id j : ℕ) (e : Entry) (made : List Made) → j ≢ id
    → own j (made_by id e ∷ made) ≡ own j made
own_else id j e made apart =
    ap (λ b. cond b (e ∷ own j made) (own j made)) (ne_eqb id j (λ s. apart (sym s)))

abbrev pub past_by : Deeds → ℕ → Past
past_by deeds j = record { name = deeds.name j; splits = deeds.splits j; log = own j deeds.made }

-- what the parts of seats did stays, where it does for all but this seat
pub pasts_stay : (deeds now : Deeds) (host : ℕ → ℕ) (id : ℕ) → host id ≡ id
    → ((j : ℕ) → j ≢ id → past_by now j ≡ past_by deeds j) → (k : ℕ) (parts : List ℕ)
    → AreParts host k parts → pasts_of now parts ≡ pasts_of deeds parts
pasts_stay deeds now host id self same k [] p = refl
pasts_stay deeds now host id self same k (j ∷ js) p = λ c.
    same j (λ e. p.1 (e ∙ sym self ∙ ap host (sym e) ∙ p.0)) c
    ∷ pasts_stay deeds now host id self same k js p.2 c

-- and where it does for all but these two
pub pasts_stay_both : (deeds now : Deeds) (host : ℕ → ℕ) (id last : ℕ) → host id ≡ id
    → host last ≡ last
    → ((j : ℕ) → j ≢ id → j ≢ last → past_by now j ≡ past_by deeds j) → (k : ℕ) (parts : List ℕ)
    → AreParts host k parts → pasts_of now parts ≡ pasts_of deeds parts
pasts_stay_both deeds now host id last self other same k [] p = refl
pasts_stay_both deeds now host id last self other same k (j ∷ js) p = λ c.
    same j (λ e. p.1 (e ∙ sym self ∙ ap host (sym e) ∙ p.0))
    (λ e. p.1 (e ∙ sym other ∙ ap host (sym e) ∙ p.0)) c
    ∷ pasts_stay_both deeds now host id last self other same k js p.2 c

pub absent_apart : (host : ℕ → ℕ) (j k m : ℕ) → host j ≡ k → k ≢ m → (bs : List ℕ)
    → AreParts host m bs → IsAbsent j bs
absent_apart host j k m at apart [] p = tt
absent_apart host j k m at apart (b ∷ bs) p =
    (λ same. apart (sym at ∙ ap host same ∙ p.0), absent_apart host j k m at apart bs p.2)

pub absent_append : (j : ℕ) (xs bs : List ℕ) → IsAbsent j xs → IsAbsent j bs → IsAbsent j (xs ++ bs)
absent_append j [] bs p q = q
absent_append j (a ∷ xs) bs p q = (p.0, absent_append j xs bs p.1 q)

pub different_append : (host : ℕ → ℕ) (k m : ℕ) → k ≢ m → (xs bs : List ℕ) → AreParts host k xs
    → AreParts host m bs → AreDifferent xs → AreDifferent bs → AreDifferent (xs ++ bs)
different_append host k m apart [] bs p q d e = e
different_append host k m apart (a ∷ xs) bs p q d e = (
  absent_append a xs bs d.0 (absent_apart host a k m p.0 apart bs q),
  different_append host k m apart xs bs p.2 q d.1 e,
)

-- a seat is none of its parts
pub absent_itself : (host : ℕ → ℕ) (k : ℕ) (parts : List ℕ) → AreParts host k parts
    → IsAbsent k parts
absent_itself host k [] p = tt
absent_itself host k (j ∷ js) p = (λ same. p.1 (sym same), absent_itself host k js p.2)

pub parts_append : (host : ℕ → ℕ) (k : ℕ) (xs bs : List ℕ) → AreParts host k xs → AreParts host k bs
    → AreParts host k (xs ++ bs)
parts_append host k [] bs p q = q
parts_append host k (a ∷ xs) bs p q = (p.0, p.1, parts_append host k xs bs p.2 q)

abbrev opening_deeds : Deeds
opening_deeds = record { made = []; name = λ j. []; splits = λ j. 0 }

pub opens_order : (frames words : List ℕ) → length words ≡ 64 * length frames
    → ((i : ℕ) → slice_index words i ≡ 0) → InOrder frames words (newcomer ∷ [])
opens_order frames words wide clear = record {
  first = words;
  clear = record { size = wide; none_set = clear };
  deeds = opening_deeds;
  host = λ j. j;
  order = tt;
  last = refl;
  shown = λ id v at live. by id v at;
  later = λ j high. refl;
  names = record {
    born = λ j low. inl refl;
    unique = λ j k low small same. omega arith;
    none_else = λ j high. (refl, refl);
  };
}
  where
    by : (id : ℕ) (v : View) → get_elem? (newcomer ∷ []) id ≡ some v
        → ShowsSteps opening_deeds (λ j. j) id v
    by zero v at = subst (λ (u : View). ShowsSteps opening_deeds (λ j. j) zero u)
        (some-injective newcomer v at) record {
          itself = refl;
          log = refl;
          named = refl;
          split = refl;
          parts = [];
          past = refl;
          hosted = tt;
          different = tt;
        }
    by (suc k) v at = absurd (some-ne-none v (sym at))

module _ (frames words : List ℕ) (views : List View) (id : ℕ) (v : View)
    (at : get_elem? views id ≡ some v) (live : v.gone ≡ false) (o : InOrder frames words views)
  where
    mine : ShowsSteps o.deeds o.host id v
    mine = o.shown id v at live

    -- ---- a step that the log shows

    module _ (e : Entry) where
      abbrev with_step : Deeds
      with_step = record o.deeds { made = made_by id e ∷ o.deeds.made }

      others_past : (j : ℕ) → j ≢ id → past_by with_step j ≡ past_by o.deeds j
      others_past j apart = λ c. record {
        name = o.deeds.name j;
        splits = o.deeds.splits j;
        log = own_else id j e o.deeds.made apart c;
      }

      pub logs_step : (w : View) → Finds frames words e → w.log ≡ e ∷ v.log
          → w.unlogged ≡ v.unlogged → InOrder frames (written e words) (set views id w)
      logs_step w found more same = record {
        first = o.first;
        clear = o.clear;
        deeds = with_step;
        host = o.host;
        order = (o.order, subst (λ (ws : List ℕ). Finds frames ws e) o.last found);
        last = ap (written e) o.last;
        shown = λ j u there alive. by j u alive (at_set views id j w u there);
        later = λ j high. let n = length-set views id w in o.later j (omega arith);
        names = record {
          born = λ j low. subst (λ (n : ℕ). IsBorn with_step n j) (sym (length-set views id w))
              (o.names.born j (let n = length-set views id w in omega arith));
          unique = λ j k low small eq. let n = length-set views id w in
              o.names.unique j k (omega arith) (omega arith) eq;
          none_else = λ j high.
              let n = length-set views id w in
              let l = below views id v at in
              let rest = o.names.none_else j (omega arith) in
              (own_else id j e o.deeds.made (λ s. absurd (omega (arith, s))) ∙ rest.0, rest.1);
        };
      }
        where
          by : (j : ℕ) (u : View) → u.gone ≡ false
              → ((j ≡ id) × (w ≡ u)) ⊎ ((j ≢ id) × (get_elem? views j ≡ some u))
              → ShowsSteps with_step o.host j u
          by j u alive (inl s) =
              subst (λ (q : ℕ × View). ShowsSteps with_step o.host q.0 q.1)
              (λ c. (sym s.0 c, s.1 c)) record {
                itself = mine.itself;
                log = more ∙ ap (λ es. e ∷ es) mine.log ∙ sym (own_here id e o.deeds.made);
                named = ap (λ (x : Unlogged). x.name) same ∙ mine.named;
                split = ap (λ (x : Unlogged). x.splits) same ∙ mine.split;
                parts = mine.parts;
                past = ap (λ (x : Unlogged). x.past) same ∙ mine.past
                    ∙ sym (pasts_stay o.deeds with_step o.host id mine.itself others_past id
                    mine.parts mine.hosted);
                hosted = mine.hosted;
                different = mine.different;
              }
          by j u alive (inr s) =
              let its = o.shown j u s.1 alive in
              record {
                itself = its.itself;
                log = its.log ∙ sym (own_else id j e o.deeds.made s.0);
                named = its.named;
                split = its.split;
                parts = its.parts;
                past = its.past
                    ∙ sym (pasts_stay o.deeds with_step o.host id mine.itself others_past j
                    its.parts its.hosted);
                hosted = its.hosted;
                different = its.different;
              }

    -- ---- a check

    pub checks_order : InOrder frames words (set views id (after_check v))
    checks_order = record {
      first = o.first;
      clear = o.clear;
      deeds = o.deeds;
      host = o.host;
      order = o.order;
      last = o.last;
      shown = λ j u there alive. by j u alive (at_set views id j (after_check v) u there);
      later = λ j high. let n = length-set views id (after_check v) in o.later j (omega arith);
      names = subst (λ (n : ℕ). AreNamed o.deeds n) (sym (length-set views id (after_check v)))
          o.names;
    }
      where
        by : (j : ℕ) (u : View) → u.gone ≡ false
            → ((j ≡ id) × (after_check v ≡ u)) ⊎ ((j ≢ id) × (get_elem? views j ≡ some u))
            → ShowsSteps o.deeds o.host j u
        by j u alive (inl s) =
            subst (λ (q : ℕ × View). ShowsSteps o.deeds o.host q.0 q.1) (λ c. (sym s.0 c, s.1 c))
            record {
              itself = mine.itself;
              log = mine.log;
              named = mine.named;
              split = mine.split;
              parts = mine.parts;
              past = mine.past;
              hosted = mine.hosted;
              different = mine.different;
            }
        by j u alive (inr s) = o.shown j u s.1 alive

    -- ---- the end

    all_below : (parts : List ℕ) → AreParts o.host id parts → AreBelow (length views) parts
    all_below [] p = tt
    all_below (j ∷ js) p = (by (dec_le (length views) j), all_below js p.2)
      where
        by : Dec (length views ≤ j) → j < length views
        by (no d) = omega arith
        by (yes high) = absurd (p.1 (sym (o.later j high) ∙ p.0))

    -- what the end tells a seat
    pub leads_to : IsLedTo frames (past_of v.log v.unlogged ∷ v.unlogged.past) words
    leads_to = record {
      first = o.first;
      clear = o.clear;
      deeds = o.deeds;
      order = o.order;
      last = o.last;
      count = length views;
      names = o.names;
      seats = id ∷ mine.parts;
      different = (absent_itself o.host id mine.parts mine.hosted, mine.different);
      inside = (below views id v at, all_below mine.parts mine.hosted);
      pasts_are = λ c.
          record { name = mine.named c; splits = mine.split c; log = mine.log c } ∷ mine.past c;
    }
