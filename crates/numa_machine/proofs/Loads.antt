-- How often the lists that a kernel makes have a turn at each node.
use Rattle.std.proofs.Common.{◌≡◌, ℕ, zero, suc, ◌+◌, ◌*◌, ◌<◌, ◌≤◌, Bool, true, false, eqb, cond}
use Rattle.std.proofs.Common.{List, length, [], ◌∷◌, fold, count_by, replicate, get_or, slice_index}
use Rattle.std.proofs.Common.{All, refl, sym, ap, ◌∙◌, subst, arith, inl, inr, add-one, zero-add}
use Rattle.std.proofs.Common.{drop}
use Rattle.std.proofs.Math.Seq.{drop-cons}
use Rattle.std.specs.List.{range_with_len, list_any}
use Rattle.std.proofs.lemmas.Bool.{cases_Bool, cases_eq, eqb-true, eq-eqb, ne_eqb}
use Rattle.std.proofs.lemmas.Grind.{get_or-set_at}
use Rattle.std.proofs.lemmas.List.{length-set, length-replicate, get_or-set_other}
use Rattle.std.proofs.lemmas.List.Sums.{sum_by-cons}
use Rattle.std.proofs.lemmas.List.Elements.{All-contains}
use Rattle.numa_mask.specs.NodeSet.{members}
use Rattle.numa_mask.proofs.Sets.{members-below, members-few}
use Rattle.numa_machine.specs.declared.fallback.Fallback.TheVariants.{Kernel}
use Rattle.numa_machine.specs.Machine.{Hardware, distance, nearer_by, order_by, one_if, kernel_cost}
use Rattle.numa_machine.specs.Machine.{turns, one_more_at, loads_before, kernel_order}
use Rattle.numa_machine.specs.Machine.{fallback_order}
use Rattle.numa_machine.proofs.Rising.{IsStrictOrder, ComesFirst, IsRising, IsIn}
use Rattle.numa_machine.proofs.Rising.{Contains-from_IsIn, not_in_ComesFirst}
use Rattle.numa_machine.proofs.Nearest.{IsStrictOrder-nearer_by, IsRising-order_by}
use Rattle.numa_machine.proofs.Nearest.{order_by-members, order_by-same, fallback_order-kernel}
use Rattle.numa_machine.proofs.Stored.{length-order_by}
use Rattle.numa_machine.proofs.Turns.{get_or-replicate_same}

-- ---- one more at a node

pub one_more-few : (loads : List ℕ) (node other : ℕ) → slice_index (one_more_at loads node) other
    ≤ slice_index loads other + 1
one_more-few [] zero other = omega arith
one_more-few [] (suc node) other = omega arith
one_more-few (x ∷ xs) zero zero = omega arith
one_more-few (x ∷ xs) zero (suc other) = omega arith
one_more-few (x ∷ xs) (suc node) zero = omega arith
one_more-few (x ∷ xs) (suc node) (suc other) = one_more-few xs node other

one_more-value : (loads : List ℕ) (node other : ℕ) → node < length loads
    → slice_index (one_more_at loads node) other ≡ slice_index loads other + one_if (eqb node other)
one_more-value loads node other h =
    elim (cases_eq node other) [
      | inl same ↦
          let read : slice_index (one_more_at loads node) other ≡ slice_index loads node + 1 =
          get_or-set_at loads node other (slice_index loads node + 1) 0 (sym same) h in
          omega (arith, read, ap (slice_index loads) same, ap one_if (eq-eqb node other same))
      | inr differ ↦
          let read : slice_index (one_more_at loads node) other ≡ slice_index loads other =
          get_or-set_other loads node other (slice_index loads node + 1) 0
          (λ e. differ (sym e)) in
          omega (arith, read, ap one_if (ne_eqb node other differ))
    ]

-- ---- one more at each node of a list

added-few : (loads nodes : List ℕ) (other : ℕ) → slice_index (fold one_more_at loads nodes) other
    ≤ slice_index loads other + length nodes
added-few loads [] other = omega arith
added-few loads (node ∷ nodes) other =
    omega (arith, added-few (one_more_at loads node) nodes other, one_more-few loads node other)

length-added : (loads nodes : List ℕ) → length (fold one_more_at loads nodes) ≡ length loads
length-added loads [] = refl
length-added loads (node ∷ nodes) = length-added (one_more_at loads node) nodes
    ∙ length-set loads node (slice_index loads node + 1)

added-value : (loads nodes : List ℕ) (other : ℕ)
    → ((node : ℕ) → IsIn nodes node → node < length loads)
    → slice_index (fold one_more_at loads nodes) other ≡ slice_index loads other + count_by
    (λ node. eqb node other) nodes
added-value loads [] other below = omega arith
added-value loads (node ∷ nodes) other below =
    let size : length (one_more_at loads node) ≡ length loads =
    length-set loads node (slice_index loads node + 1) in
    omega (
      arith,
      added-value (one_more_at loads node) nodes other
          (λ n i. subst (λ k. n < k) (sym size) (below n (inr i))),
      one_more-value loads node other (below node (inl refl)),
      sum_by-cons (λ n. one_if (eqb n other)) node nodes,
    )

-- ---- the turns of a list

length-turns : (far : ℕ → ℕ) (before : ℕ) (nodes : List ℕ) → length (turns far before nodes)
    ≤ length nodes
length-turns far before [] = omega arith
length-turns far before (node ∷ nodes) =
    elim (cases_Bool (eqb (far node) before)) [
      | inl e ↦ rw e (omega (arith, length-turns far (far node) nodes))
      | inr e ↦ rw e (omega (arith, length-turns far (far node) nodes))
    ]

turns-in : (far : ℕ → ℕ) (before : ℕ) (nodes : List ℕ) (node : ℕ)
    → IsIn (turns far before nodes) node → IsIn nodes node
turns-in far before [] node i = i
turns-in far before (next ∷ nodes) node i =
    elim (cases_Bool (eqb (far next) before)) [
      | inl e ↦ inr (turns-in far (far next) nodes node (rw e at i))
      | inr e ↦
          elim (rw e at i) [
            | inl same ↦ inl same
            | inr later ↦
                inr (turns-in far (far next) nodes node later)
          ]
    ]

ComesFirst-turns : (order : ℕ → ℕ → Bool) (far : ℕ → ℕ) (before x : ℕ) (nodes : List ℕ)
    → ComesFirst order x nodes → ComesFirst order x (turns far before nodes)
ComesFirst-turns order far before x [] f = tt
ComesFirst-turns order far before x (node ∷ nodes) f =
    elim (cases_Bool (eqb (far node) before)) [
      | inl e ↦ rw e (ComesFirst-turns order far (far node) x nodes f.1)
      | inr e ↦ rw e (f.0, ComesFirst-turns order far (far node) x nodes f.1)
    ]

IsRising-turns : (order : ℕ → ℕ → Bool) (far : ℕ → ℕ) (before : ℕ) (nodes : List ℕ)
    → IsRising order nodes → IsRising order (turns far before nodes)
IsRising-turns order far before [] r = tt
IsRising-turns order far before (node ∷ nodes) r =
    elim (cases_Bool (eqb (far node) before)) [
      | inl e ↦ rw e (IsRising-turns order far (far node) nodes r.1)
      | inr e ↦
          rw e (
            ComesFirst-turns order far (far node) node nodes r.0,
            IsRising-turns order far (far node) nodes r.1,
          )
    ]

-- one node more is looked at
pub turns-step : (far : ℕ → ℕ) (before : ℕ) (loads : List ℕ) (node : ℕ) (nodes : List ℕ)
    → fold one_more_at loads (turns far before (node ∷ nodes)) ≡ fold one_more_at
    (cond (eqb (far node) before) loads (one_more_at loads node)) (turns far (far node) nodes)
turns-step far before loads node nodes =
    elim (cases_Bool (eqb (far node) before)) [ inl e ↦ rw e refl | inr e ↦ rw e refl ]

pub turn-taken : (far : ℕ → ℕ) (order : List ℕ) (k before now : ℕ) (loads new all : List ℕ)
    → k < length order → now ≡ far (get_or order k 0)
    → new ≡ cond (eqb now before) loads (one_more_at loads (get_or order k 0))
    → fold one_more_at loads (turns far before (drop k order)) ≡ all
    → fold one_more_at new (turns far now (drop (k + 1) order)) ≡ all
turn-taken far order k before now loads new all h is made left =
    ap (λ (xs : List ℕ). fold one_more_at xs (turns far now (drop (k + 1) order))) made
    ∙ ap (λ d. fold one_more_at (cond (eqb d before) loads (one_more_at loads (get_or order k 0)))
    (turns far d (drop (k + 1) order))) is
    ∙ ap
    (λ j.
    fold one_more_at
    (cond (eqb (far (get_or order k 0)) before) loads (one_more_at loads (get_or order k 0)))
    (turns far (far (get_or order k 0)) (drop j order))) (add-one k)
    ∙ sym (turns-step far before loads (get_or order k 0) (drop (suc k) order))
    ∙ ap (λ (xs : List ℕ). fold one_more_at loads (turns far before xs))
    (sym (drop-cons order k 0 h))
    ∙ left

pub turn-few : (loads : List ℕ) (node other : ℕ) (test : Bool)
    → slice_index (cond test loads (one_more_at loads node)) other ≤ slice_index loads other + 1
turn-few loads node other true = omega arith
turn-few loads node other false = one_more-few loads node other

-- ---- the loads

pub loads-few : (hardware : Hardware) (cpus from node : ℕ)
    → slice_index (loads_before hardware cpus from) node ≤ from * 256
unfolding loads_before
loads-few hardware cpus zero node = let none : slice_index (replicate 256 0) node ≡ 0 =
    get_or-replicate_same 256 0 node in omega (arith, none)
loads-few hardware cpus (suc from) node =
    let loads : List ℕ = loads_before hardware cpus from in
    let order : List ℕ = order_by (kernel_cost hardware cpus (loads_before hardware cpus from) from)
    hardware.memory in
    omega (
      arith,
      added-few (loads_before hardware cpus from)
          (turns (distance hardware from) 10
          (order_by (kernel_cost hardware cpus (loads_before hardware cpus from) from)
          hardware.memory)) node,
      length-turns (distance hardware from) 10
          (order_by (kernel_cost hardware cpus (loads_before hardware cpus from) from)
          hardware.memory),
      length-order_by
          (kernel_cost hardware cpus (loads_before hardware cpus from) from) hardware.memory,
      members-few hardware.memory,
      loads-few hardware cpus from node,
    )

pub length-loads : (hardware : Hardware) (cpus from : ℕ) → length (loads_before hardware cpus from)
    ≡ 256
unfolding loads_before
length-loads hardware cpus zero = length-replicate {A = ℕ} 256 0
length-loads hardware cpus (suc from) =
    length-added (loads_before hardware cpus from)
    (turns (distance hardware from) 10
    (order_by (kernel_cost hardware cpus (loads_before hardware cpus from) from)
    hardware.memory)) ∙ length-loads hardware cpus from

-- a node stands at most once among the turns
count-none : (order : ℕ → ℕ → Bool) (strict : IsStrictOrder order) (x : ℕ) (nodes : List ℕ)
    → (IsIn nodes x → ⊥) → count_by (λ node. eqb node x) nodes ≡ 0
count-none order strict x [] none = refl
count-none order strict x (node ∷ nodes) none =
    let differ : eqb node x ≡ false = ne_eqb node x (λ e. none (inl (sym e))) in
    sum_by-cons (λ n. one_if (eqb n x)) node nodes
    ∙ rw differ (omega (arith, count-none order strict x nodes (λ i. none (inr i))))

count-one : (order : ℕ → ℕ → Bool) (strict : IsStrictOrder order) (x : ℕ) (nodes : List ℕ)
    → IsRising order nodes → count_by (λ node. eqb node x) nodes
    ≡ one_if (list_any (λ node. eqb node x) nodes)
count-one order strict x [] r = refl
count-one order strict x (node ∷ nodes) r =
    elim (cases_Bool (eqb node x)) [
      | inl e ↦
          let same : node ≡ x = eqb-true node x e in
          let rest : count_by (λ n. eqb n x) nodes ≡ 0 =
          count-none order strict x nodes
          (λ i. not_in_ComesFirst order strict node nodes r.0
          (subst (IsIn nodes) (sym same) i)) in
          sum_by-cons (λ n. one_if (eqb n x)) node nodes ∙ rw e (omega (arith, rest))
      | inr e ↦ sum_by-cons (λ n. one_if (eqb n x)) node nodes
          ∙ rw e (omega (arith, count-one order strict x nodes r.1))
    ]

count_by-range_suc : (test : ℕ → Bool) (a n : ℕ) → count_by test (range_with_len a (suc n))
    ≡ count_by test (range_with_len a n) + one_if (test (a + n))
count_by-range_suc test a zero =
    omega (
      arith,
      sum_by-cons (λ k. one_if (test k)) a [],
      ap (λ k. one_if (test k)) (let e : a + 0 ≡ a = omega arith in e),
    )
count_by-range_suc test a (suc n) =
    let place : a + 1 + n ≡ a + suc n = omega arith in
    omega (
      arith,
      sum_by-cons (λ k. one_if (test k)) a (range_with_len (a + 1) (suc n)),
      sum_by-cons (λ k. one_if (test k)) a (range_with_len (a + 1) n),
      count_by-range_suc test (a + 1) n,
      ap (λ k. one_if (test k)) place,
    )

count_by-range_more : (test : ℕ → Bool) (n : ℕ) → count_by test (range_with_len 0 (suc n))
    ≡ count_by test (range_with_len 0 n) + one_if (test n)
count_by-range_more test n = count_by-range_suc test 0 n
    ∙ ap (λ k. count_by test (range_with_len 0 n) + one_if (test k)) (zero-add n)

pub loads-are : (hardware : Hardware) (cpus from node : ℕ)
    → slice_index (loads_before hardware cpus from) node
    ≡ count_by
    (λ lower. list_any (λ turn. eqb turn node)
    (turns (distance hardware lower) 10 (kernel_order hardware cpus lower))) (range_with_len 0 from)
unfolding loads_before kernel_order
loads-are hardware cpus zero node = get_or-replicate_same 256 0 node
loads-are hardware cpus (suc from) node =
    let cost = kernel_cost hardware cpus (loads_before hardware cpus from) from in
    let order : List ℕ = order_by (kernel_cost hardware cpus (loads_before hardware cpus from) from)
    hardware.memory in
    let here : List ℕ =
    turns (distance hardware from) 10
    (order_by (kernel_cost hardware cpus (loads_before hardware cpus from) from)
    hardware.memory) in
    let rising :
    IsRising (nearer_by (kernel_cost hardware cpus (loads_before hardware cpus from) from))
    (turns (distance hardware from) 10
    (order_by (kernel_cost hardware cpus (loads_before hardware cpus from) from)
    hardware.memory)) =
    IsRising-turns (nearer_by cost) (distance hardware from) 10 order
    (IsRising-order_by cost hardware.memory) in
    added-value (loads_before hardware cpus from) here node
    (λ n i.
    below n
    (order_by-members cost hardware.memory n (turns-in (distance hardware from) 10 order n i)))
    ∙ ap (λ k. k + count_by (λ n. eqb n node) here) (loads-are hardware cpus from node)
    ∙ ap
    (λ k.
    count_by (λ lower. list_any (λ turn. eqb turn node)
    (turns (distance hardware lower) 10 (kernel_order hardware cpus lower))) (range_with_len 0 from)
    + k) (count-one (nearer_by cost) (IsStrictOrder-nearer_by cost) node here rising)
    ∙ sym
    (count_by-range_more (λ lower. list_any (λ turn. eqb turn node)
    (turns (distance hardware lower) 10 (kernel_order hardware cpus lower))) from)
  where
    below : (n : ℕ) → IsIn (members hardware.memory) n
        → n < length (loads_before hardware cpus from)
    below n i =
        omega (
          arith,
          length-loads hardware cpus from,
          All-contains (λ m. m < 256) (members hardware.memory) n (members-below hardware.memory)
              (Contains-from_IsIn (members hardware.memory) n i),
        )

-- ---- one list more

pub list-made : (hardware : Hardware) (cpus from : ℕ) (costs loads : List ℕ)
    → hardware.fallback ≡ Kernel cpus
    → All (λ node. node < hardware.nodes) (members hardware.memory)
    → loads ≡ loads_before hardware cpus from
    → ((to : ℕ) → to < hardware.nodes → slice_index costs to ≡ kernel_cost hardware cpus loads from
    to) → order_by (λ to. slice_index costs to) hardware.memory ≡ fallback_order hardware from
unfolding kernel_order
list-made hardware cpus from costs loads kernel inside so_far filled =
    order_by-same (λ to. slice_index costs to) (kernel_cost hardware cpus loads from) hardware.nodes
    filled hardware.memory inside
    ∙ ap (λ (l : List ℕ). order_by (kernel_cost hardware cpus l from) hardware.memory) so_far
    ∙ sym (fallback_order-kernel hardware cpus from kernel)

pub loads-more : (hardware : Hardware) (cpus from : ℕ) (loads order : List ℕ)
    → hardware.fallback ≡ Kernel cpus → loads ≡ loads_before hardware cpus from
    → order ≡ fallback_order hardware from
    → fold one_more_at loads (turns (distance hardware from) 10 order) ≡ loads_before hardware cpus
    (from + 1)
unfolding kernel_order loads_before
loads-more hardware cpus from loads order kernel so_far is =
    ap (λ (l : List ℕ). fold one_more_at l (turns (distance hardware from) 10 order)) so_far
    ∙ ap (λ (nodes : List ℕ). fold one_more_at (loads_before hardware cpus from)
    (turns (distance hardware from) 10 nodes))
    (is ∙ fallback_order-kernel hardware cpus from kernel)
    ∙ ap (loads_before hardware cpus) (sym (add-one from))
