-- Processes that are told one after the other.
use Rattle.std.proofs.Common.{◌≡◌, ◌≢◌, ◌≤◌, ◌<◌, ℕ, ◌+◌, List, length, get_or, set, All, eqb}
use Rattle.std.proofs.Common.{sym, ap, ◌∙◌, subst, arith, inl, inr, [], ◌∷◌, map, suc, refl}
use Rattle.std.proofs.lemmas.Bool.{cases_Bool, eqb-true, eq-eqb, both_ways}
use Rattle.std.proofs.lemmas.List.{length-set, get_or-set_other, get_or_default}
use Rattle.std.proofs.lemmas.Grind.{get_or-set_at}
use Rattle.numa_host.specs.Following.{AreFollowed}

-- the first of them have been told, the others not yet
pub record ArePartly {X : Type 0} (became : X → X → Type 0) (k : ℕ) (olds news : List X) : Type 0
  where
    pub count : length news ≡ length olds
    pub done : (j : ℕ) (d : X) → j < k → j < length olds
        → became (get_or olds j d) (get_or news j d)
    pub rest : (j : ℕ) (d : X) → k ≤ j → get_or news j d ≡ get_or olds j d

pub partly-whole : {X : Type 0} (became : X → X → Type 0) (k : ℕ) (olds news : List X)
    → ArePartly became k olds news → length olds ≤ k → AreFollowed became olds news
partly-whole became k olds news partly all = record {
  count = partly.count;
  each = λ j d inside. partly.done j d (omega (arith, inside, all)) inside;
}

-- one more has been told
pub partly-more : {X : Type 0} (became : X → X → Type 0) (k : ℕ) (olds news : List X) (e q : X)
    → ArePartly became k olds news → k < length olds → became (get_or news k e) q
    → ArePartly became (k + 1) olds (set news k q)
partly-more became k olds news e0 q partly inside told = record {
  count = length-set news k q ∙ partly.count;
  done = λ j d low within.
      elim (cases_Bool (eqb j k)) [
        | inl e ↦
            let at : j ≡ k = eqb-true j k e in
            let here : k < length news = omega (arith, inside, partly.count) in
            let new : get_or (set news k q) j d ≡ q = get_or-set_at news k j q d at here in
            let old : get_or olds j d ≡ get_or news k e0 =
            sym (partly.rest j d (omega (arith, at))) ∙ ap (λ i. get_or news i d) at
            ∙ get_or_default news k d e0 here in
            subst (λ x. became x (get_or (set news k q) j d)) (sym old)
            (subst (λ y. became (get_or news k e0) y) (sym new) told)
        | inr e ↦
            let far : j ≢ k = λ is. both_ways (eqb j k) e (eq-eqb j k is) in
            subst (λ y. became (get_or olds j d) y) (sym (get_or-set_other news k j q d far))
            (partly.done j d (omega (arith, low, far)) within)
      ];
  rest = λ j d high. get_or-set_other news k j q d (λ is. absurd (omega (arith, is, high)))
      ∙ partly.rest j d (omega (arith, high));
}

-- the one to be told next is as it was
pub partly-next : {X : Type 0} (became : X → X → Type 0) (k : ℕ) (olds news : List X) (e : X)
    (P : X → Type 0) → ArePartly became k olds news → k < length olds → All P olds
    → P (get_or news k e)
partly-next became k olds news e P partly inside all =
    subst P (sym (partly.rest k e (omega arith))) (all k e inside)

-- what was made of each by one function
pub partly-map : {X : Type 0} (f : X → X) (olds news : List X)
    → AreFollowed (λ p q. q ≡ f p) olds news → news ≡ map f olds
partly-map f [] [] followed = refl
partly-map f [] (q ∷ news) followed = absurd (omega (arith, followed.count))
partly-map f (p ∷ olds) [] followed = absurd (omega (arith, followed.count))
partly-map f (p ∷ olds) (q ∷ news) followed =
    let first : q ≡ f p = followed.each 0 p (omega arith) in
    let rest = partly-map f olds news
    (record {
      count = omega (arith, followed.count);
      each = λ k d inside. followed.each (suc k) d
          (omega (arith, inside));
    }) in
    λ i. first i ∷ rest i
