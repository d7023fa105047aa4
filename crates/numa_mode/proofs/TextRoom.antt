-- The text of any set of nodes leaves room for the name of a mode and of a flag.
use Rattle.std.proofs.Common.{◌≡◌, ℕ, zero, suc, ◌+◌, ◌-◌, ◌<◌, ◌≤◌, Bool, true, false, not, ◌&&◌}
use Rattle.std.proofs.Common.{cond, eqb, ltb, List, [], ◌∷◌, ◌++◌, length, map, filter, codes}
use Rattle.std.proofs.Common.{decimal, refl, sym, ap, ◌∙◌, ◌⊎◌, arith, inl, inr, length-append}
use Rattle.std.proofs.Common.{eq-eqb}
use Rattle.std.specs.List.{prefix_len, range_with_len, join_with_byte}
use Rattle.std.proofs.lemmas.Bool.{cases_lt, cases_eq, cases_Bool, ne_eqb, lt-ltb, le-ltb}
use Rattle.std.proofs.lemmas.Fmt.{length-decimal-le}
use Rattle.std.proofs.lemmas.List.Sums.{prefix_len-le-length}
use Rattle.std.proofs.lemmas.List.FromFn.{length-range_with_len}
use Rattle.numa_mask.specs.NodeSet.{has, members}
use Rattle.numa_mask.specs.Lists.{starts_run, run_end, run_starts, run_text, text_of}

-- ---- the lengths of parts

-- the parts and a comma behind each
total : (ℕ → List ℕ) → List ℕ → ℕ
total f [] = 0
total f (x ∷ xs) = length (f x) + 1 + total f xs

join-length : (f : ℕ → List ℕ) (xs : List ℕ) → length (join_with_byte 44 (map f xs)) ≤ total f xs
unfolding total
join-length f [] = omega arith
join-length f (x ∷ []) = omega arith
join-length f (x ∷ y ∷ xs) =
    omega (
      arith,
      join-length f (y ∷ xs),
      length-append (f x) (44 ∷ join_with_byte 44 (map f (y ∷ xs))),
    )

-- the same over all candidates
spent : (ℕ → List ℕ) → (ℕ → Bool) → List ℕ → ℕ
spent f p [] = 0
spent f p (x ∷ xs) = cond (p x) (length (f x) + 1) 0 + spent f p xs

total-filter : (f : ℕ → List ℕ) (p q : ℕ → Bool) (xs : List ℕ) → total f (filter p (filter q xs))
    ≡ spent f (λ x. q x && p x) xs
unfolding total spent
total-filter f p q [] = refl
total-filter f p q (x ∷ xs) =
    elim (cases_Bool (q x)) [
      | inl t ↦ elim (cases_Bool (p x)) [
        | inl u ↦ rw (t, u) (ap (λ n. length (f x) + 1 + n) (total-filter f p q xs))
        | inr u ↦ rw (t, u) (total-filter f p q xs ∙ omega arith)
      ]
      | inr t ↦ rw t (total-filter f p q xs ∙ omega arith)
    ]

-- ---- a node's share of the text

-- its number and one byte
width : ℕ → ℕ
width node = cond (ltb node 10) 2 (cond (ltb node 100) 3 4)

decimal-width : (node : ℕ) → node < 256 → length (decimal node) + 1 ≤ width node
unfolding width
decimal-width node within =
    elim (cases_lt node 10) [
      | inl one ↦
          rw (lt-ltb node 10 one)
          (omega (arith, length-decimal-le 1 node (omega arith) (omega arith) (omega arith)))
      | inr more ↦ rw (le-ltb node 10 more) (elim (cases_lt node 100) [
        | inl two ↦
            rw (lt-ltb node 100 two)
            (omega (arith, length-decimal-le 2 node (omega arith) (omega arith) (omega arith)))
        | inr three ↦
            rw (le-ltb node 100 three)
            (omega (arith, length-decimal-le 3 node (omega arith) (omega arith) (omega arith)))
      ])
    ]

widths : ℕ → ℕ → ℕ
widths a zero = 0
widths a (suc n) = width a + widths (a + 1) n

widths-all : widths 0 256 ≡ 914
unfolding widths width
widths-all = refl

-- ---- runs one after another

-- a run that goes on ends where it ends from the next node on
run_end-more : (set node : ℕ) → node < 255 → has set (node + 1) ≡ true
    → run_end set node ≡ run_end set (node + 1)
run_end-more set node below next =
    let long : 255 - node ≡ suc (255 - (node + 1)) = omega arith in
    ap (λ n. node + prefix_len (has set) (range_with_len (node + 1) n)) long ∙ rw next (omega arith)

run_end-over : (set node : ℕ) → node < 255 → has set (node + 1) ≡ false → run_end set node ≡ node
run_end-over set node below none =
    let long : 255 - node ≡ suc (255 - (node + 1)) = omega arith in
    ap (λ n. node + prefix_len (has set) (range_with_len (node + 1) n)) long ∙ rw none (omega arith)

run_end-last : (set node : ℕ) → node ≡ 255 → run_end set node ≡ node
run_end-last set node last =
    let none : 255 - node ≡ 0 = omega arith in
    ap (λ n. node + prefix_len (has set) (range_with_len (node + 1) n)) none ∙ omega arith

-- the text of a run takes no more than its first and its last node do
run_text-one : (first last : ℕ) → first < 256 → last ≡ first → length (run_text first last) + 1
    ≤ width first
run_text-one first last within same = rw (eq-eqb first last (sym same)) (decimal-width first within)

run_text-two : (first last : ℕ) → first < 256 → last < 256 → length (run_text first last) + 1
    ≤ width first + width last
run_text-two first last a b =
    elim (cases_eq first last) [
      | inl e ↦ rw (eq-eqb first last e) (omega (arith, decimal-width first a))
      | inr ne ↦
          rw (ne_eqb first last ne)
          (omega (
            arith,
            decimal-width first a,
            decimal-width last b,
            length-append (decimal first ++ codes "-") (decimal last),
            length-append (decimal first) (codes "-"),
          ))
    ]

-- what the run that goes on at a node still needs, where one does
pending : ℕ → ℕ → ℕ → ℕ
pending set node zero = 0
pending set node (suc n) = cond (has set node && not (starts_run set node))
    (width (run_end set node)) 0

run_end-within : (set node : ℕ) → node < 256 → run_end set node < 256
run_end-within set node within =
    omega (
      arith,
      prefix_len-le-length (has set) (range_with_len (node + 1) (255 - node)),
      length-range_with_len (node + 1) (255 - node),
    )

-- no run starts behind a member
starts_run-behind : (set node : ℕ) → has set node ≡ true → starts_run set (node + 1) ≡ false
starts_run-behind set node member =
    let some : eqb (node + 1) 0 ≡ false = ne_eqb (node + 1) 0 (omega arith) in
    let before : node + 1 - 1 ≡ node = omega arith in
    rw (some, before, member) refl

-- a run ends at its node, or its end is still counted
pending-end : (set node n : ℕ) → node + suc n ≡ 256 → has set node ≡ true
    → (run_end set node ≡ node) ⊎ (width (run_end set node) ≤ pending set (node + 1) n)
unfolding pending
pending-end set node zero h member = inl (run_end-last set node (omega arith))
pending-end set node (suc n) h member =
    elim (cases_Bool (has set (node + 1))) [
      | inl t ↦
          let ends : run_end set node ≡ run_end set (node + 1) =
          run_end-more set node (omega arith) t in
          inr (rw (t, starts_run-behind set node member) (omega (arith, ap width ends)))
      | inr f ↦ inl (run_end-over set node (omega arith) f)
    ]

pending-text : (set node n : ℕ) → node + suc n ≡ 256 → has set node ≡ true
    → length (run_text node (run_end set node)) + 1 ≤ width node + pending set (node + 1) n
pending-text set node n h member =
    elim (pending-end set node n h member) [
      | inl e ↦ omega (arith, run_text-one node (run_end set node) (omega arith) e)
      | inr more ↦
          omega (
            arith,
            more,
            run_text-two node (run_end set node) (omega arith)
                (run_end-within set node (omega arith)),
          )
    ]

-- the text of the runs from a node on, by the widths of the nodes
room : (set node n : ℕ) → node + n ≡ 256 → spent (λ first. run_text first (run_end set first))
    (λ x. has set x && starts_run set x) (range_with_len node n) + pending set node n
    ≤ widths node n
unfolding spent pending widths
room set node zero h = omega arith
room set node (suc n) h =
    let rest : spent (λ first. run_text first (run_end set first))
    (λ x. has set x && starts_run set x) (range_with_len (node + 1) n) + pending set (node + 1)
    n ≤ widths (node + 1) n = room set (node + 1) n (omega arith) in
    elim (cases_Bool (has set node)) [
      | inl t ↦ elim (cases_Bool (starts_run set node)) [
        | inl u ↦ rw (t, u) (omega (arith, rest, pending-text set node n h t))
        | inr u ↦ rw (t, u) (elim (pending-end set node n h t) [
          | inl e ↦ omega (arith, rest, ap width e)
          | inr more ↦ omega (arith, rest, more)
        ])
      ]
      | inr f ↦ rw f (omega (arith, rest))
    ]

pub text_of-length : (set : ℕ) → length (text_of set) ≤ 914
unfolding members
text_of-length set =
    omega (
      arith,
      join-length (λ first. run_text first (run_end set first)) (run_starts set),
      total-filter (λ first. run_text first (run_end set first)) (starts_run set) (has set)
          (range_with_len 0 256),
      room set 0 256 refl,
      widths-all,
    )
