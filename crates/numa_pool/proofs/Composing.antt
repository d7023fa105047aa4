-- A walk of one node after a walk of others is a walk of them all.
use Rattle.std.proofs.Common.{◌≡◌, ◌≢◌, ℕ, zero, suc, ◌+◌, ◌<◌, ◌≤◌, List, [], ◌∷◌, ◌++◌, length}
use Rattle.std.proofs.Common.{take, Bool, true, false, refl, sym, ap, ◌∙◌, subst}
use Rattle.std.proofs.Common.{inl, inr, arith, ne_eqb, append_assoc, append-nil}
use Rattle.std.specs.Prelude.{Option, Some, None, IsSome}
use Rattle.std.proofs.lemmas.List.{length-append}
use Rattle.std.proofs.Math.Seq.{get_or-append_seam, take-append_seam}
use Rattle.std.specs.Prelude.{slice_index, ◌==◌, ◌&&◌, ◌||◌}
use native.Mathlib.Decide.{ℕ_discrete}
use Rattle.numa_machine.specs.declared.frame.Frame.{Frame}
use Rattle.numa_pool.specs.declared.view.Entry.{Entry}
use Rattle.numa_pool.specs.declared.view.Entry.TheVariants.{Load, Won, Lost, Gave}
use Rattle.numa_pool.specs.Frames.{is_frame, one_if}
use Rattle.numa_pool.specs.Walk.{shows, met, IsFull, HasUnmet, IsCurrent, AllFull, IsNext, Searches}
use Rattle.numa_pool.specs.Walk.{Exhausts, Wins, IsWalk, WalksInOrder, is_load, loads_of, LoadsOnce}
use Rattle.numa_pool.specs.Walk.{IsDistinct}
use Rattle.numa_pool.proofs.Totals.{and_false_first}
use Rattle.numa_pool.proofs.Searching.{or_false, or_last}

-- the node is none of these
abbrev pub IsNew : ℕ → List ℕ → Type 0
IsNew m [] = Unit {0}
IsNew m (n ∷ ns) = (n ≢ m) × IsNew m ns

met_append : (fs es : List Entry) (n k : ℕ) → met (fs ++ es) n k ≡ (met fs n k || met es n k)
met_append [] es n k = refl
met_append (f ∷ fs) es n k = ap (λ b. shows f n k || b) (met_append fs es n k)
    ∙ assoc (shows f n k) (met fs n k) (met es n k)
  where
    assoc : (a b c : Bool) → (a || (b || c)) ≡ ((a || b) || c)
    assoc true b c = refl
    assoc false b c = refl

or_right : (a b : Bool) → b ≡ true → (a || b) ≡ true
or_right true b e = refl
or_right false b e = e

loads_append : (fs es : List Entry) (n w : ℕ) → loads_of n w (fs ++ es) ≡ loads_of n w fs + loads_of
    n w es
loads_append [] es n w = omega arith
loads_append (f ∷ fs) es n w = let r = loads_append fs es n w in omega arith

module _ (frames : List ℕ) where
  -- the current node is one of the nodes
  current_apart : (es : List Entry) (ns : List ℕ) (n m : ℕ) → IsNew m ns → IsCurrent frames es ns n
      → n ≢ m
  current_apart es [] n m new h = absurd h
  current_apart es (x ∷ xs) n m new (inl t) = λ e. new.0 (t.0 ∙ e)
  current_apart es (x ∷ xs) n m new (inr t) = current_apart es xs n m new.1 t.1

  -- the steps of a search are of its nodes alone
  not_met : (es : List Entry) (ns : List ℕ) (m : ℕ) → IsNew m ns → Searches frames ns es → (k : ℕ)
      → met es m k ≡ false
  not_met [] ns m new h k = refl
  not_met (Load n w x ∷ es) ns m new h k =
      or_false (shows (Load n w x) m k) (met es m k)
      (and_false_first (n == m) _ (ne_eqb n m (current_apart es ns n m new h.1)))
      ∙ not_met es ns m new h.0 k
  not_met (Lost f ∷ es) ns m new h k = or_false (is_frame f m k) (met es m k)
      (and_false_first (f.node == m) _ (ne_eqb f.node m (current_apart es ns f.node m new h.1.0)))
      ∙ not_met es ns m new h.0 k
  not_met (Won f ∷ es) ns m new h k = absurd h
  not_met (Gave f ∷ es) ns m new h k = absurd h

  not_loaded : (es : List Entry) (ns : List ℕ) (m : ℕ) → IsNew m ns → Searches frames ns es
      → (w : ℕ) → loads_of m w es ≡ 0
  not_loaded [] ns m new h w = refl
  not_loaded (Load n v x ∷ es) ns m new h w =
      let none : one_if ((n == m) && (v == w)) ≡ 0 =
      ap one_if
      (and_false_first (n == m) (v == w) (ne_eqb n m (current_apart es ns n m new h.1))) in
      let r = not_loaded es ns m new h.0 w in omega arith
  not_loaded (Lost f ∷ es) ns m new h w = let r = not_loaded es ns m new h.0 w in omega arith
  not_loaded (Won f ∷ es) ns m new h w = absurd h
  not_loaded (Gave f ∷ es) ns m new h w = absurd h

  full_later : (fs es : List Entry) (n : ℕ) → IsFull frames es n → IsFull frames (fs ++ es) n
  full_later fs es n h k l = met_append fs es n k ∙ or_right (met fs n k) (met es n k) (h k l)

  all_later : (fs es : List Entry) (ns : List ℕ) → AllFull frames es ns
      → AllFull frames (fs ++ es) ns
  all_later fs es [] h = tt
  all_later fs es (n ∷ ns) h = (full_later fs es n h.0, all_later fs es ns h.1)

  all_join : (es : List Entry) (ns ms : List ℕ) → AllFull frames es ns → AllFull frames es ms
      → AllFull frames es (ns ++ ms)
  all_join es [] ms h g = g
  all_join es (n ∷ ns) ms h g = (h.0, all_join es ns ms h.1 g)

  current_after : (es : List Entry) (ns : List ℕ) (m : ℕ) (more : List ℕ) → AllFull frames es ns
      → HasUnmet frames es m → IsCurrent frames es (ns ++ m ∷ more) m
  current_after es [] m more h u = inl (refl, u)
  current_after es (n ∷ ns) m more h u = inr (h.0, current_after es ns m more h.1 u)

  widen : (es : List Entry) (ns : List ℕ) (n : ℕ) (rest : List ℕ) → IsCurrent frames es ns n
      → IsCurrent frames es (ns ++ rest) n
  widen es [] n rest h = absurd h
  widen es (x ∷ xs) n rest (inl t) = inl t
  widen es (x ∷ xs) n rest (inr t) = inr (t.0, widen es xs n rest t.1)

  -- a search of some nodes is one of these and more
  wider : (es : List Entry) (ns rest : List ℕ) → Searches frames ns es
      → Searches frames (ns ++ rest) es
  wider [] ns rest s = tt
  wider (Load n w x ∷ es) ns rest s = (wider es ns rest s.0, widen es ns n rest s.1, s.2)
  wider (Lost f ∷ es) ns rest s =
      (wider es ns rest s.0, (widen es ns f.node rest s.1.0, s.1.1, s.1.2))
  wider (Won f ∷ es) ns rest s = absurd s
  wider (Gave f ∷ es) ns rest s = absurd s

  module _ (es : List Entry) (ns : List ℕ) (m : ℕ) (more : List ℕ) (new : IsNew m ns)
      (so_far : Exhausts frames ns es) where
    met_same : (fs : List Entry) (k : ℕ) → met (fs ++ es) m k ≡ met fs m k
    met_same fs k = met_append fs es m k ∙ or_last (met fs m k) (met es m k)
        (not_met es ns m new so_far.0 k)

    current_same : (fs : List Entry) (n : ℕ) → IsCurrent frames fs (m ∷ []) n → (m ≡ n)
        × IsCurrent frames (fs ++ es) (ns ++ m ∷ more) n
    current_same fs n (inl t) =
        let u = t.1 in (
          t.0,
          subst (IsCurrent frames (fs ++ es) (ns ++ m ∷ more)) t.0
              (current_after (fs ++ es) ns m more (all_later fs es ns so_far.1)
              (u.0, u.1, met_same fs u.0 ∙ u.2)),
        )
    current_same fs n (inr t) = absurd t.1

    next_same : (fs : List Entry) (f : Frame) → IsNext frames fs (m ∷ []) f
        → IsNext frames (fs ++ es) (ns ++ m ∷ more) f
    next_same fs f h =
        let c = current_same fs f.node h.0 in (
          c.1,
          h.1,
          subst (λ n. met (fs ++ es) n f.number ≡ met fs n f.number) c.0
              (met_same fs f.number) ∙ h.2,
        )

    searches_on : (fs : List Entry) → Searches frames ns es → Searches frames (m ∷ []) fs
        → Searches frames (ns ++ m ∷ more) (fs ++ es)
    searches_on [] s h = wider es ns (m ∷ more) s
    searches_on (Load n w x ∷ fs) s h = (searches_on fs s h.0, (current_same fs n h.1).1, h.2)
    searches_on (Lost f ∷ fs) s h = (searches_on fs s h.0, next_same fs f h.1)
    searches_on (Won f ∷ fs) s h = absurd h
    searches_on (Gave f ∷ fs) s h = absurd h

    full_on : (fs : List Entry) → IsFull frames fs m → IsFull frames (fs ++ es) m
    full_on fs h k l = met_same fs k ∙ h k l

    pub wins_on : (f : Frame) (gs : List Entry) → Wins frames (m ∷ []) f gs
        → Wins frames (ns ++ m ∷ more) f (gs ++ es)
    wins_on f [] h = absurd h
    wins_on f (e ∷ fs) h = (h.0, searches_on fs so_far.0 h.1, next_same fs f h.2)

    once_on : (fs : List Entry) → LoadsOnce es → LoadsOnce fs
        → ((n w : ℕ) → n ≢ m → loads_of n w fs ≡ 0) → LoadsOnce (fs ++ es)
    once_on fs a b others n w = by (ℕ_discrete n m)
      where
        by : Dec (n ≡ m) → loads_of n w (fs ++ es) ≤ 1
        by (yes e) =
            let none : loads_of n w es ≡ 0 = ap (λ i. loads_of i w es) e
            ∙ not_loaded es ns m new so_far.0 w in
            let s = loads_append fs es n w in let o = b n w in omega arith
        by (no d) = let none = others n w d in let s = loads_append fs es n w in let o = a n w in
            omega arith

    pub once_after_loss : (fs : List Entry) → LoadsOnce es → LoadsOnce fs
        → Searches frames (m ∷ []) fs → LoadsOnce (fs ++ es)
    once_after_loss fs a b s =
        once_on fs a b (λ n w d. not_loaded fs (m ∷ []) n ((λ e. d (sym e)), tt) s w)

    pub once_after_win : (f : Frame) (gs : List Entry) → LoadsOnce es → LoadsOnce gs
        → Wins frames (m ∷ []) f gs → LoadsOnce (gs ++ es)
    once_after_win f [] a b h = absurd h
    once_after_win f (e ∷ fs) a b h = once_on (e ∷ fs) a b (λ n w d.
        let none = not_loaded fs (m ∷ []) n ((λ x. d (sym x)), tt) h.1 w in
        let won : one_if (is_load e n w) ≡ 0 = ap (λ (x : Entry). one_if (is_load x n w)) h.0 in
        omega arith)

  pub exhausts_on : (es : List Entry) (ns : List ℕ) (m : ℕ) → IsNew m ns → Exhausts frames ns es
      → (fs : List Entry) → Exhausts frames (m ∷ []) fs → Exhausts frames (ns ++ m ∷ []) (fs ++ es)
  exhausts_on es ns m new so_far fs h = (
    searches_on es ns m [] new so_far fs so_far.0 h.0,
    all_join (fs ++ es) ns (m ∷ []) (all_later fs es ns so_far.1)
        (full_on es ns m [] new so_far fs h.1.0, tt),
  )

new_in : (m : ℕ) (ns : List ℕ) (r : ℕ) → r ≤ length ns → ((i : ℕ) → i < r → slice_index ns i ≢ m)
    → IsNew m (take r ns)
new_in m ns zero l h = tt
new_in m [] (suc r) l h = absurd (omega arith)
new_in m (n ∷ ns) (suc r) l h =
    (h 0 (omega arith), new_in m ns r (omega arith) (λ i k. h (suc i) (omega arith)))

new_at : (ns : List ℕ) (r : ℕ) → r < length ns → IsDistinct ns
    → IsNew (slice_index ns r) (take r ns)
new_at ns r l d = new_in (slice_index ns r) ns r (omega arith) (λ i k. d i r 0 k l)

new_here : (done : List ℕ) (n : ℕ) (ns : List ℕ) → IsDistinct (done ++ n ∷ ns) → IsNew n done
new_here done n ns distinct =
    let long = length-append done (n ∷ ns) in
    subst (λ (p : ℕ × List ℕ). IsNew p.0 p.1)
    (λ i. (get_or-append_seam done n ns 0 i, take-append_seam done (n ∷ ns) i))
    (new_at (done ++ n ∷ ns) (length done) (omega arith) distinct)

-- walks of some nodes in order, after a walk of others that won nothing
pub composes : (frames ns done : List ℕ) (es : List Entry) → Exhausts frames done es → LoadsOnce es
    → IsDistinct (done ++ ns) → (found : Option Frame) (later : List Entry)
    → WalksInOrder frames ns found later
    → IsWalk frames (done ++ ns) found (later ++ es) × LoadsOnce (later ++ es)
composes frames [] done es so_far once distinct found later h =
    let base = subst (λ (ns : List ℕ). Exhausts frames ns es) (sym (append-nil done)) so_far in
    subst (λ (p : Option Frame × List Entry). IsWalk frames (done ++ []) p.0 (p.1 ++ es)
    × LoadsOnce (p.1 ++ es)) (λ i. (sym h.0 i, sym h.1 i)) (base, once)
composes frames (n ∷ ns) done es so_far once distinct found later (inl t) = won found t.0 t.1
  where
    won : (found : Option Frame) → IsSome found → IsWalk frames (n ∷ []) found later
        → IsWalk frames (done ++ n ∷ ns) found (later ++ es) × LoadsOnce (later ++ es)
    won None some_found w = absurd (cc)
    won (Some f) some_found w =
        let new = new_here done n ns distinct in (
          wins_on frames es done n ns new so_far f later w,
          once_after_win frames es done n ns new
              so_far f later once t.2 w,
        )
composes frames (n ∷ ns) done es so_far once distinct found later (inr t) =
    let new = new_here done n ns distinct in
    let first = t.0 in
    let searched = exhausts_on frames es done n new so_far first t.3 in
    let once_each = once_after_loss frames es done n [] new so_far first once t.4 t.3.0 in
    let apart = subst IsDistinct (sym (append_assoc done (n ∷ []) ns)) distinct in
    let whole : t.1 ++ (first ++ es) ≡ later ++ es = sym (append_assoc t.1 first es)
    ∙ ap (λ l. l ++ es) (sym t.2) in
    subst (λ (p : List ℕ × List Entry). IsWalk frames p.0 found p.1 × LoadsOnce p.1)
    (λ i. (append_assoc done (n ∷ []) ns i, whole i))
    (composes frames ns (done ++ n ∷ []) (first ++ es) searched once_each apart found t.1 t.5)
