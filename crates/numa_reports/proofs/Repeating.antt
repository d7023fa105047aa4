-- What periods take of each node: as long as a node has one page left, each takes as the first.
use Rattle.std.proofs.Common.{◌≡◌, ℕ, zero, suc, ◌+◌, ◌-◌, ◌*◌, ◌<◌, ◌≤◌, ◌⊎◌, Bool, false, cond}
use Rattle.std.proofs.Common.{eqb, Option, Some, None, List, [], ◌∷◌, length, get_or, set, refl}
use Rattle.std.proofs.Common.{sym, ap, subst, ◌∙◌, arith, inl, inr, length-set, suc-mul, mul-zero}
use Rattle.std.proofs.Common.{mul-le-mul_right, add-zero, div-mul-le_self, ◌/◌}
use Rattle.std.proofs.lemmas.Bool.{cases_Bool, cases_eq, cases_lt, eq-eqb, ne_eqb}
use Rattle.std.proofs.lemmas.Grind.{same_number_lists}
use Rattle.std.proofs.lemmas.List.{get_or-set_same, get_or-set_other, get_or_past}
use Rattle.numa_placed.specs.Periods.{Repeats}
use Rattle.numa_reports.specs.Filled.{first_free, one_less, free_behind}
use Rattle.numa_reports.specs.Turns.{AllLast, AreLeftBehind, Lasts}
use Rattle.numa_reports.proofs.Taking.{free-split, free-start}

-- whether a page took of a node, as a number
abbrev pub hit : Option ℕ → ℕ → ℕ
hit None x = 0
hit (Some node) x = cond (eqb node x) 1 0

hit-same : (node : ℕ) → hit (Some node) node ≡ 1
hit-same node = ap (λ (b : Bool). cond {A = ℕ} b 1 0) (eq-eqb node node refl)

hit-other : (node x : ℕ) → (node ≡ x → ⊥) → hit (Some node) x ≡ 0
hit-other node x other = ap (λ (b : Bool). cond {A = ℕ} b 1 0) (ne_eqb node x other)

-- a page takes one of the node that it found, and none of others
pub less-at : (free : List ℕ) (took : Option ℕ) (x : ℕ) → get_or (one_less free took) x 0
    ≡ get_or free x 0 - hit took x
less-at free None x = omega arith
less-at free (Some node) x = elim (cases_eq node x) [
  | inl same ↦
      subst (λ (y : ℕ). get_or (set free node (get_or free node 0 - 1)) y 0 ≡ get_or free y 0 - hit
      (Some node) y) same
      (elim (cases_lt node (length free)) [
        | inl within ↦
            omega (
              arith,
              hit-same node,
              get_or-set_same free node (get_or free node 0 - 1) 0
                  within,
            )
        | inr past ↦
            omega (
              arith,
              hit-same node,
              get_or_past free node 0 past,
              get_or_past (set free node (get_or free node 0 - 1)) node 0
                  (omega (arith, length-set free node (get_or free node 0 - 1))),
            )
      ])
  | inr other ↦
      omega (
        arith,
        hit-other node x other,
        get_or-set_other free node x (get_or free node 0 - 1) 0
            (λ e. other (sym e)),
      )
]

-- the node that is found has one
pub found-has : (free list : List ℕ) (x : ℕ) → hit (first_free free list) x ≤ get_or free x 0
found-has free [] x = omega arith
found-has free (node ∷ nodes) x = elim (cases_Bool (eqb (get_or free node 0) 0)) [
  | inl t ↦
      subst (λ (b : Bool). hit (cond b (first_free free nodes) (Some node)) x ≤ get_or free x 0)
      (sym t) (found-has free nodes x)
  | inr f ↦
      subst (λ (b : Bool). hit (cond b (first_free free nodes) (Some node)) x ≤ get_or free x 0)
      (sym f)
      (elim (cases_eq node x) [
        | inl same ↦ subst (λ (y : ℕ). hit (Some node) y ≤ get_or free y 0) same
            (omega (arith, hit-same node, some (get_or free node 0) f))
        | inr other ↦ omega (arith, hit-other node x other)
      ])
]
  where
    some : (n : ℕ) → eqb n 0 ≡ false → 0 < n
    some zero f = absurd (let odd = f in cc)
    some (suc n) f = omega arith

-- no page adds one
pub never-more : (nodes : ℕ → List ℕ) (free : List ℕ) (a n x : ℕ)
    → get_or (free_behind nodes free a n) x 0 ≤ get_or free x 0
unfolding free_behind
never-more nodes free a zero x = omega arith
never-more nodes free a (suc n) x =
    omega (
      arith,
      never-more nodes (one_less free (first_free free (nodes a))) (a + 1) n x,
      less-at free (first_free free (nodes a)) x,
    )

one-long : (free : List ℕ) (took : Option ℕ) → length (one_less free took) ≡ length free
one-long free None = refl
one-long free (Some node) = length-set free node (get_or free node 0 - 1)

pub behind-long : (nodes : ℕ → List ℕ) (free : List ℕ) (a n : ℕ)
    → length (free_behind nodes free a n) ≡ length free
unfolding free_behind
behind-long nodes free a zero = refl
behind-long nodes free a (suc n) = behind-long nodes (one_less free (first_free free (nodes a)))
    (a + 1) n ∙ one-long free (first_free free (nodes a))

some-test : (n : ℕ) → 0 < n → eqb n 0 ≡ false
some-test n p = ne_eqb n 0 (λ e. omega (arith, e, p))

-- two that differ only where both have one find the same node
pub same-found : (more less : List ℕ) (d : ℕ → ℕ) (list : List ℕ)
    → ((x : ℕ) → get_or more x 0 ≡ get_or less x 0 + d x)
    → ((x : ℕ) → (d x ≡ 0) ⊎ (d x < get_or more x 0)) → first_free more list ≡ first_free less list
same-found more less d [] sum room = refl
same-found more less d (node ∷ nodes) sum room =
    let rest = same-found more less d nodes sum room in
    let test : eqb (get_or more node 0) 0 ≡ eqb (get_or less node 0) 0 = elim (room node) [
      | inl none ↦ ap (λ (n : ℕ). eqb n 0) (let e : get_or more node 0 ≡ get_or less node 0 =
          omega (arith, sum node, none) in e)
      | inr some ↦ some-test (get_or more node 0) (omega (arith, some))
          ∙ sym (some-test (get_or less node 0) (omega (arith, sum node, some)))
    ] in
    λ i. cond {A = Option ℕ} (test i) (rest i) (Some node)

-- so what they differ by stays, as long as it leaves one behind
pub shifted : (nodes : ℕ → List ℕ) (more less : List ℕ) (d : ℕ → ℕ) (a n : ℕ)
    → ((x : ℕ) → get_or more x 0 ≡ get_or less x 0 + d x)
    → ((x : ℕ) → (d x ≡ 0) ⊎ (d x < get_or (free_behind nodes more a n) x 0))
    → (x : ℕ) → get_or (free_behind nodes more a n) x 0 ≡ get_or (free_behind nodes less a n) x 0
    + d x
unfolding free_behind
shifted nodes more less d a zero sum room x = sum x
shifted nodes more less d a (suc n) sum room x =
    let found : first_free more (nodes a) ≡ first_free less (nodes a) =
    same-found more less d (nodes a) sum (λ y. elim (room y) [
      | inl none ↦ inl none
      | inr some ↦
          inr (omega (
            arith,
            some,
            never-more nodes (one_less more (first_free more (nodes a)))
                (a + 1) n y,
            less-at more (first_free more (nodes a)) y,
          ))
    ]) in
    shifted nodes (one_less more (first_free more (nodes a)))
    (one_less less (first_free less (nodes a))) d (a + 1) n
    (λ y. omega (
      arith,
      sum y,
      less-at more (first_free more (nodes a)) y,
      less-at less (first_free less (nodes a)) y,
      ap (λ (o : Option ℕ). hit o y) found,
      found-has less (nodes a) y,
    ))
    room x

-- pages with the same lists take the same
pub moved : (nodes : ℕ → List ℕ) (free : List ℕ) (a b n : ℕ)
    → ((k : ℕ) → k < n → nodes (a + k) ≡ nodes (b + k)) → free_behind nodes free a n
    ≡ free_behind nodes free b n
unfolding free_behind
moved nodes free a b zero same = refl
moved nodes free a b (suc n) same =
    let here : nodes a ≡ nodes b = sym (ap nodes (add-zero a)) ∙ same 0 (omega arith)
    ∙ ap nodes (add-zero b) in
    moved nodes (one_less free (first_free free (nodes a))) (a + 1) (b + 1) n (λ k lt.
    let one : a + 1 + k ≡ a + suc k = omega arith in
    let two : b + suc k ≡ b + 1 + k = omega arith in
    ap nodes one ∙ same (suc k) (omega (arith, lt)) ∙ ap nodes two)
    ∙ ap (λ (l : List ℕ). free_behind nodes (one_less free (first_free free l)) (b + 1) n) here

-- the page so many periods on has the same list
pub periods-on : (nodes : ℕ → List ℕ) (first pages period page j : ℕ)
    → Repeats nodes first pages period → first ≤ page → page + j * period < first + pages
    → nodes (page + j * period) ≡ nodes page
periods-on nodes first pages period page zero repeats low high =
    let none : page + 0 * period ≡ page = omega arith in
    ap nodes none
periods-on nodes first pages period page (suc j) repeats low high =
    let more : suc j * period ≡ j * period + period = suc-mul j period in
    let place : page + suc j * period ≡ page + j * period + period = omega (arith, more) in
    ap nodes place ∙ repeats (page + j * period) (omega (arith, low)) (omega (arith, more, high))
    ∙ periods-on nodes first pages period page j repeats low (omega (arith, more, high))

module _ (nodes : ℕ → List ℕ) (before after : List ℕ) (a period times whole : ℕ)
    (took : after ≡ free_behind nodes before a period)
    (lasts : (x : ℕ) → Lasts (get_or before x 0) (get_or after x 0) times)
    (fits : period + times * period ≤ whole)
    (repeats : Repeats nodes a whole period) where
  -- each period more takes what the first took
  pub each-takes : (j : ℕ) → j ≤ times → (x : ℕ)
      → get_or (free_behind nodes after (a + period) (j * period)) x 0 + j
      * (get_or before x 0 - get_or after x 0) ≡ get_or after x 0
  each-takes zero few x =
      let none : 0 * period ≡ 0 = omega arith in
      omega (
        arith,
        ap (λ (n : ℕ). get_or (free_behind nodes after (a + period) n) x 0) none,
        ap (λ (f : List ℕ). get_or f x 0) (free-start nodes after (a + period)),
      )
  each-takes (suc j) few x =
      let less : List ℕ = free_behind nodes after (a + period) (j * period) in
      let fewer : (y : ℕ) → get_or after y 0 ≤ get_or before y 0 =
      λ y. subst (λ (f : List ℕ). get_or f y 0 ≤ get_or before y 0) (sym took)
      (never-more nodes before a period y) in
      let d : ℕ → ℕ = λ y. suc j * (get_or before y 0 - get_or after y 0) in
      let sum : (y : ℕ) → get_or before y 0 ≡ get_or less y 0 + d y =
      λ y. omega (
        arith,
        fewer y,
        each-takes j (omega (arith, few)) y,
        suc-mul j (get_or before y 0 - get_or after y 0),
      ) in
      let room : (y : ℕ) → (d y ≡ 0) ⊎ (d y < get_or (free_behind nodes before a period) y 0) = λ y.
      let most : d y ≤ times * (get_or before y 0 - get_or after y 0) =
      mul-le-mul_right (get_or before y 0 - get_or after y 0) few in
      elim (lasts y) [
        | inl none ↦ inl (omega (arith, most, none))
        | inr some ↦
            inr (subst (λ (f : List ℕ). d y < get_or f y 0) took (omega (arith, most, some)))
      ] in
      let all : suc j * period ≤ times * period = mul-le-mul_right period few in
      let more : suc j * period ≡ j * period + period = suc-mul j period in
      let seam : a + period + j * period ≡ a + suc j * period = omega (arith, more) in
      let there : free_behind nodes less (a + period + j * period) period ≡ free_behind nodes less a
      period =
      ap (λ (p : ℕ). free_behind nodes less p period) seam
      ∙ moved nodes less (a + suc j * period) a period (λ k lt.
      let turn : a + suc j * period + k ≡ a + k + suc j * period = omega arith in
      ap nodes turn ∙ periods-on nodes a whole period (a + k) (suc j) repeats (omega arith)
      (omega (arith, all, fits, lt))) in
      let cut : free_behind nodes after (a + period) (suc j * period) ≡ free_behind nodes less
      (a + period + j * period) period = free-split nodes after (a + period) (j * period) period
      (suc j * period) (sym more) in
      let left : get_or (free_behind nodes before a period) x 0
      ≡ get_or (free_behind nodes less a period) x 0 + d x =
      shifted nodes before less d a period sum room x in
      omega (
        arith,
        ap (λ (f : List ℕ). get_or f x 0) (cut ∙ there),
        ap (λ (f : List ℕ). get_or f x 0) took,
        left,
      )

  -- so all together leave this
  pub all-take : (left : List ℕ) → length left ≡ 256 → length before ≡ 256
      → AreLeftBehind before after times left
      → left ≡ free_behind nodes before a (period + times * period)
  all-take left long same is =
      let behind : List ℕ = free_behind nodes after (a + period) (times * period) in
      let sized : length behind ≡ 256 = behind-long nodes after (a + period) (times * period)
      ∙ ap length took ∙ behind-long nodes before a period ∙ same in
      same_number_lists left behind (long ∙ sym sized)
      (λ k lt. omega (arith, is k (omega (arith, lt, long)), each-takes times (omega arith) k))
      ∙ ap (λ (f : List ℕ). free_behind nodes f (a + period) (times * period)) took
      ∙ sym (free-split nodes before a period (times * period) (period + times * period) refl)

-- nodes that no machine has give nothing
pub all-last : (before after : List ℕ) (times : ℕ) → length before ≡ 256
    → AllLast before after times → (x : ℕ) → Lasts (get_or before x 0) (get_or after x 0) times
all-last before after times long last x = elim (cases_lt x 256) [
  | inl within ↦ last x within
  | inr past ↦
      let none : get_or before x 0 - get_or after x 0 ≡ 0 =
      omega (arith, get_or_past before x 0 (omega (arith, past, long))) in
      inl (ap (λ (n : ℕ). times * n) none ∙ mul-zero times)
]

-- what lasts so many times, lasts fewer times
pub lasts-fewer : (before after few many : ℕ) → few ≤ many → Lasts before after many
    → Lasts before after few
lasts-fewer before after few many le lasts =
    let less : few * (before - after) ≤ many * (before - after) =
    mul-le-mul_right (before - after) le in
    elim lasts [
      | inl none ↦ inl (omega (arith, less, none))
      | inr some ↦ inr (omega (arith, less, some))
    ]

-- a share of what stands behind one
pub lasts-share : (before after took times : ℕ) → took ≡ before - after → times ≤ (after - 1) / took
    → 0 < took → Lasts before after times
lasts-share before after took times is few some =
    let share : (after - 1) / took * took ≤ after - 1 = div-mul-le_self (after - 1) took in
    let less : times * took ≤ (after - 1) / took * took = mul-le-mul_right took few in
    let same : times * (before - after) ≡ times * took = ap (λ (n : ℕ). times * n) (sym is) in
    elim (cases_lt 0 after) [
      | inl has ↦ inr (omega (arith, share, less, same, has))
      | inr none ↦ inl (omega (arith, share, less, same, none))
    ]

-- a node that gave nothing
pub lasts-none : (before after took times : ℕ) → took ≡ before - after → took ≡ 0
    → Lasts before after times
lasts-none before after took times is none =
    inl (ap (λ (n : ℕ). times * n) (sym is ∙ none) ∙ mul-zero times)

-- pages that are filled, and those behind them
pub free-join : (nodes : ℕ → List ℕ) (free free' : List ℕ) (page place done left rest : ℕ)
    → free' ≡ free_behind nodes free page done → done + rest ≡ left → page + done ≡ place
    → free_behind nodes free' place rest ≡ free_behind nodes free page left
free-join nodes free free' page place done left rest took sum seam =
    ap (λ (p : ℕ). free_behind nodes free' p rest) (sym seam)
    ∙ ap (λ (f : List ℕ). free_behind nodes f (page + done) rest) took
    ∙ sym (free-split nodes free page done rest left sum)

-- lists that come again in a span do so in a part of it, and none has to after as many as there are
pub repeats-part : (nodes : ℕ → List ℕ) (first pages period from left part : ℕ) → first ≤ from
    → from + left ≤ first + pages → (part ≡ period) ⊎ (part ≡ left)
    → Repeats nodes first pages period → Repeats nodes from left part
repeats-part nodes first pages period from left part low high (inl is) repeats page after within =
    let place : page + part ≡ page + period = omega (arith, is) in
    ap nodes place ∙ repeats page (omega (arith, low, after)) (omega (arith, is, high, within))
repeats-part nodes first pages period from left part low high (inr is) repeats page after within =
    absurd (omega (arith, is, after, within))
