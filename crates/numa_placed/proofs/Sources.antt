-- The order in which nodes go, and how many pages of each.
use Rattle.std.proofs.Common.{◌≡◌, ℕ, zero, suc, ◌+◌, ◌*◌, ◌<◌, ◌≤◌, ◌&&◌, Bool, true, false}
use Rattle.std.proofs.Common.{◌∙◌, eqb, Option, Some, None, refl, sym, subst, ap, arith, inl, inr}
use Rattle.std.specs.Prelude.{min, nat_lt, if◌then◌else◌}
use Rattle.std.proofs.lemmas.Bool.{and_right, both_ways, cases_Bool, cases_eq, cases_lt, eq-eqb}
use Rattle.std.proofs.lemmas.Bool.{le-ltb, lt-ltb, ne_eqb}
use Rattle.numa_placed.specs.Shifts.{Going, is_clear, later_of, may_go, source_from, step, stepped}
use Rattle.numa_placed.specs.Shifts.{stay_on, steps, sum_below}
use Rattle.numa_placed.specs.Standing.{is_split}

-- ---- the next node

module _ (go : ℕ → ℕ) (still : ℕ → Bool) where
  pub source-clear : (last : Option ℕ) (node m n : ℕ) → n ≡ suc m → is_clear go still node ≡ true
      → source_from go still last node n ≡ Some node
  unfolding source_from
  source-clear last node m n is t = rw (is, t) refl

  pub source-next : (last : Option ℕ) (node m n : ℕ) → n ≡ suc m
      → is_clear go still node ≡ false → source_from go still last node n
      ≡ source_from go still (later_of (may_go go still node) node last) (node + 1) m
  unfolding source_from
  source-next last node m n is e = rw (is, e) refl

  pub source-none : (last : Option ℕ) (node : ℕ) → source_from go still last node 0 ≡ last
  unfolding source_from
  source-none last node = refl

-- ---- node by node

module _ (go count : ℕ → ℕ) where
  pub steps-full : (n : ℕ) (going : Going) → going.full ≡ true → steps n go count going ≡ going
  unfolding steps
  steps-full zero going t = refl
  steps-full (suc n) going t = rw t refl

  pub steps-none : (n : ℕ) (going : Going) → source_from go going.waits None 0 256 ≡ None
      → steps n go count going ≡ going
  unfolding steps
  steps-none zero going none = refl
  steps-none (suc n) going none =
      elim (cases_Bool going.full) [
        | inl t ↦ rw t refl
        | inr e ↦ rw (e, none) refl
      ]

  pub steps-end : (going : Going) → steps 0 go count going ≡ going
  unfolding steps
  steps-end going = refl

  pub steps-next : (m n : ℕ) (going : Going) (source : ℕ) → n ≡ suc m → going.full ≡ false
      → source_from go going.waits None 0 256 ≡ Some source
      → steps n go count going ≡ steps m go count (step (count source) source (go source) going)
  unfolding steps
  steps-next m n going source is e some = rw (is, e, some) refl

  abbrev AreFew : Going → Type 0
  AreFew going = (node : ℕ) → going.gone node ≤ count node

  few-stepped : (next : Option ℕ) (going : Going) (rest : ℕ → Going) → AreFew going
      → ((source : ℕ) → AreFew (rest source)) → AreFew (stepped next going rest)
  few-stepped None going rest few more = few
  few-stepped (Some source) going rest few more = more source

  few-where : (full : Bool) (going rest : Going) → AreFew going → AreFew rest
      → AreFew (if full then going else rest)
  few-where true going rest few more = few
  few-where false going rest few more = more

  few-step : (source target : ℕ) (going : Going) → AreFew going
      → AreFew (step (count source) source target going)
  few-step source target going few node =
      elim (cases_eq node source) [
        | inl is ↦ rw is (rw (eq-eqb source source refl) (omega arith))
        | inr other ↦ rw (ne_eqb node source other) (few node)
      ]

  -- no more pages of a node go than lie there
  pub steps-few : (n : ℕ) (going : Going) → ((node : ℕ) → going.gone node ≤ count node)
      → (node : ℕ) → (steps n go count going).gone node ≤ count node
  unfolding steps
  steps-few zero going few = few
  steps-few (suc n) going few =
      few-where going.full going (stepped (source_from go going.waits None 0 256) going
      (λ source. steps n go count (step (count source) source (go source) going))) few
      (few-stepped (source_from go going.waits None 0 256) going
      (λ source. steps n go count (step (count source) source (go source) going)) few
      (λ source. steps-few n (step (count source) source (go source) going)
      (few-step source (go source) going few)))

-- ---- of one node at most some pages go and some stay

module _ (go count : ℕ → ℕ) where
  abbrev NoneSplit : Going → Type 0
  NoneSplit going = (node : ℕ) → is_split count going.gone node ≡ false

  abbrev OneSplit : Going → Type 0
  OneSplit going = (node other : ℕ) → is_split count going.gone node ≡ true
      → is_split count going.gone other ≡ true → node ≡ other

  none-one : (going : Going) → NoneSplit going → OneSplit going
  none-one going none node other here there =
      absurd (both_ways (is_split count going.gone node) (none node) here)

  one-stepped : (next : Option ℕ) (going : Going) (rest : ℕ → Going) → OneSplit going
      → ((source : ℕ) → OneSplit (rest source)) → OneSplit (stepped next going rest)
  one-stepped None going rest one more = one
  one-stepped (Some source) going rest one more = more source

  one-where : (full : Bool) (going rest : Going) → OneSplit going → OneSplit rest
      → OneSplit (if full then going else rest)
  one-where true going rest one more = one
  one-where false going rest one more = more

  not-split : (gone all : ℕ) → all ≤ gone → (nat_lt 0 gone && nat_lt gone all) ≡ false
  not-split gone all le = and_right (nat_lt 0 gone) (nat_lt gone all) (le-ltb gone all le)

  -- another node than the one that goes isn't split by that
  split-other : (source target : ℕ) (going : Going) → NoneSplit going → (node : ℕ)
      → (node ≡ source → ⊥)
      → is_split count (step (count source) source target going).gone node ≡ false
  split-other source target going none node other = rw (ne_eqb node source other) (none node)

  -- nor is the one that goes, where there is room for all
  split-fits : (source target : ℕ) (going : Going) → NoneSplit going
      → count source ≤ going.room target → NoneSplit (step (count source) source target going)
  split-fits source target going none fits node =
      elim (cases_eq node source) [
        | inl is ↦ rw is (rw (eq-eqb source source refl)
            (not-split (min (count source) (going.room target)) (count source)
            (omega (arith, fits))))
        | inr other ↦ split-other source target going none node other
      ]

  -- the node that goes alone is, where there is too little
  split-source : (source target : ℕ) (going : Going) → NoneSplit going
      → OneSplit (step (count source) source target going)
  split-source source target going none node other here there =
      is-source node here ∙ sym (is-source other there)
    where
      is-source : (node : ℕ)
          → is_split count (step (count source) source target going).gone node ≡ true
          → node ≡ source
      is-source node here =
          elim (cases_eq node source) [
            | inl is ↦ is
            | inr other ↦ absurd (both_ways
                (is_split count (step (count source) source target going).gone node)
                (split-other source target going none node other) here)
          ]

  -- so at most one is, however many nodes go
  pub steps-one : (n : ℕ) (going : Going) → NoneSplit going
      → OneSplit (steps n go count going)
  unfolding steps
  steps-one zero going none = none-one going none
  steps-one (suc n) going none =
      one-where going.full going (stepped (source_from go going.waits None 0 256) going
      (λ source. steps n go count (step (count source) source (go source) going)))
      (none-one going none)
      (one-stepped (source_from go going.waits None 0 256) going
      (λ source. steps n go count (step (count source) source (go source) going))
      (none-one going none)
      (λ source. elim (cases_lt (going.room (go source)) (count source)) [
        | inl full ↦ subst OneSplit
            (sym (steps-full go count n (step (count source) source (go source) going)
            (lt-ltb (going.room (go source)) (count source) full)))
            (split-source source (go source) going none)
        | inr fits ↦ steps-one n (step (count source) source (go source) going)
            (split-fits source (go source) going none fits)
      ]))

pub same-split : (count count' gone gone' : ℕ → ℕ) (node : ℕ) → count node ≡ count' node
    → gone node ≡ gone' node → is_split count gone node ≡ is_split count' gone' node
same-split count count' gone gone' node same same' = rw (same, same') refl

-- ---- sums

pub sum-none : (f : ℕ → ℕ) → sum_below 0 f ≡ 0
unfolding sum_below
sum-none f = refl

pub sum-next : (n m : ℕ) (f : ℕ → ℕ) → m ≡ suc n → sum_below m f ≡ sum_below n f + f n
unfolding sum_below
sum-next n m f is = rw is refl

pub sum-same : (n : ℕ) (f g : ℕ → ℕ) → ((node : ℕ) → node < n → f node ≡ g node)
    → sum_below n f ≡ sum_below n g
unfolding sum_below
sum-same zero f g same = refl
sum-same (suc n) f g same =
    let rest = sum-same n f g (λ node lt. same node (omega arith)) in
    let here = same n (omega arith) in
    omega (arith, rest, here)

pub sum-few : (n most : ℕ) (f : ℕ → ℕ) → ((node : ℕ) → node < n → f node ≤ most)
    → sum_below n f ≤ n * most
unfolding sum_below
sum-few zero most f few = omega arith
sum-few (suc n) most f few =
    let rest = sum-few n most f (λ node lt. few node (omega arith)) in
    let here = few n (omega arith) in
    omega (arith, rest, here)

pub sum-zero : (n : ℕ) (f : ℕ → ℕ) → sum_below n f ≡ 0 → (node : ℕ) → node < n → f node ≡ 0
unfolding sum_below
sum-zero zero f none node lt = absurd (omega arith)
sum-zero (suc n) f none node lt =
    elim (cases_lt node n) [
      | inl l ↦ sum-zero n f (omega (arith, none)) node l
      | inr l ↦
          let last : node ≡ n = omega (arith, lt, l) in
          ap f last ∙ omega (arith, none)
    ]

-- no more pages of a node stay than lie there
pub stay-few : (go count gone : ℕ → ℕ) (node most : ℕ) → count node ≤ most
    → stay_on go count gone node ≤ most
stay-few go count gone node most few =
    elim (cases_Bool (eqb (go node) node)) [
      | inl t ↦ rw t (omega arith)
      | inr e ↦ rw e (omega (arith, few))
    ]

pub stay-same : (go go' count count' gone gone' : ℕ → ℕ) (node : ℕ) → go node ≡ go' node
    → count node ≡ count' node → gone node ≡ gone' node
    → stay_on go count gone node ≡ stay_on go' count' gone' node
stay-same go go' count count' gone gone' node same same' same'' = rw (same, same', same'') refl
