-- Turns, many at a time.
use Rattle.std.proofs.Common.{◌≡◌, ◌≢◌, ℕ, zero, suc, ◌+◌, ◌-◌, ◌<◌, ◌≤◌, Bool, true, false}
use Rattle.std.proofs.Common.{List, [], ◌∷◌, ◌++◌, length, map, fold, set, min, refl, sym}
use Rattle.std.proofs.Common.{ap, ◌∙◌, arith, inl, inr, append_assoc, subst}
use Rattle.std.specs.Prelude.{nat_lt, slice_index, if◌then◌else◌, ◌==◌, sum}
use Rattle.std.proofs.lemmas.Bool.{cases_Bool, cases_eq, cases_lt, ltb-false, lt-ltb}
use Rattle.std.proofs.lemmas.Bool.{le-ltb}
use Rattle.std.proofs.lemmas.Bool.{ne_eqb, eq-eqb}
use Rattle.std.proofs.lemmas.List.{append-nil, get_or-set_same, get_or-set_other, length-set}
use Rattle.std.proofs.lemmas.List.{set_past}
use Rattle.std.proofs.lemmas.List.{get_or_past, set-get_or, ext_get_or, get_or-map, length-map}
use Rattle.std.proofs.lemmas.List.Sums.{sum_by-set, sum_by-cons}
use Rattle.numa_pools.specs.Turns.{Turns, turns_of, one_less_at, turn_behind, turn, after_turns}

-- ---- how often a node stands in a list, and how many turns a list's nodes have room for

abbrev pub one_if_same : ℕ → ℕ → ℕ
one_if_same a b = if a == b then 1 else 0

abbrev pub times_in : ℕ → List ℕ → ℕ
times_in node [] = 0
times_in node (x ∷ xs) = one_if_same x node + times_in node xs

-- at most so many turns for each
abbrev pub weight : List ℕ → ℕ → List ℕ → ℕ
weight room level [] = 0
weight room level (x ∷ xs) = min (slice_index room x) level + weight room level xs

abbrev pub IsDistinct : List ℕ → Type 0
IsDistinct xs = (node : ℕ) → times_in node xs ≤ 1

-- each node with room stands in the list
abbrev pub Covers : List ℕ → List ℕ → Type 0
Covers xs room = (node : ℕ) → 0 < slice_index room node → 1 ≤ times_in node xs

abbrev pub fits : List ℕ → ℕ → Bool
fits room node = nat_lt 0 (slice_index room node)

pub times_in-append : (node : ℕ) (xs ys : List ℕ) → times_in node (xs ++ ys)
    ≡ times_in node xs + times_in node ys
times_in-append node [] ys = omega arith
times_in-append node (x ∷ xs) ys = omega (arith, times_in-append node xs ys)

pub weight-append : (room : List ℕ) (level : ℕ) (xs ys : List ℕ) → weight room level (xs ++ ys)
    ≡ weight room level xs + weight room level ys
weight-append room level [] ys = omega arith
weight-append room level (x ∷ xs) ys = omega (arith, weight-append room level xs ys)

pub same-once : (node : ℕ) → one_if_same node node ≡ 1
same-once node = rw (eq-eqb node node refl) refl

-- the head of a list without repeats doesn't stand in the rest, which has no repeats
pub absent-behind : (x : ℕ) (xs : List ℕ) → IsDistinct (x ∷ xs) → times_in x xs ≡ 0
absent-behind x xs distinct = omega (arith, distinct x, same-once x)

pub distinct-behind : (x : ℕ) (xs : List ℕ) → IsDistinct (x ∷ xs) → IsDistinct xs
distinct-behind x xs distinct = λ node. omega (arith, distinct node)

-- ---- one less at a node

pub less-same : (room : List ℕ) (node : ℕ) → slice_index (one_less_at room node) node
    ≡ slice_index room node - 1
less-same room node = elim (cases_lt node (length room)) [
  | inl l ↦ get_or-set_same room node (slice_index room node - 1) 0 l
  | inr l ↦
      let past : slice_index room node ≡ 0 = get_or_past room node 0 l in
      rw (set_past room node (slice_index room node - 1) l) (rw past refl)
]

pub less-other : (room : List ℕ) (node other : ℕ) → other ≢ node
    → slice_index (one_less_at room node) other ≡ slice_index room other
less-other room node other ne =
    get_or-set_other room node other (slice_index room node - 1) 0 ne

-- nothing is less where there was nothing
pub less-nothing : (room : List ℕ) (node : ℕ) → slice_index room node ≡ 0 → one_less_at room node
    ≡ room
less-nothing room node none =
    let same : slice_index room node - 1 ≡ slice_index room node = omega (arith, none) in
    ap (set room node) same ∙ set-get_or room node 0

pub weight-absent : (room : List ℕ) (node level : ℕ) (xs : List ℕ) → times_in node xs ≡ 0
    → weight (one_less_at room node) level xs ≡ weight room level xs
weight-absent room node level [] absent = refl
weight-absent room node level (x ∷ xs) absent = elim (cases_eq x node) [
  | inl e ↦
      let once : one_if_same x node ≡ 1 = rw (eq-eqb x node e) refl in
      absurd (omega (arith, once, absent))
  | inr ne ↦
      let rest : times_in node xs ≡ 0 = omega (arith, absent) in
      rw (less-other room node x ne, weight-absent room node level xs rest) refl
]

-- ---- one turn

none-fits : (room : List ℕ) (x : ℕ) → fits room x ≡ false → slice_index room x ≡ 0
none-fits room x e = omega (arith, ltb-false 0 (slice_index room x) e)

-- a node without room in front of others of which one has some may as well stand behind them
turn_behind-rotated : (room : List ℕ) (x : ℕ) (zs passed : List ℕ) → 1 ≤ weight room 1 zs
    → turn_behind room (x ∷ passed) zs ≡ turn_behind room passed (zs ++ x ∷ [])
turn_behind-rotated room x [] passed some = absurd (omega (arith, some))
turn_behind-rotated room x (z ∷ zs) passed some = elim (cases_Bool (fits room z)) [
  | inl e ↦
      let same : zs ++ (x ∷ (passed ++ z ∷ [])) ≡ (zs ++ x ∷ []) ++ (passed ++ z ∷ []) =
      sym (append_assoc zs (x ∷ []) (passed ++ z ∷ [])) in
      rw e (ap (turns_of (one_less_at room z)) same)
  | inr e ↦
      let nothing : slice_index room z ≡ 0 = none-fits room z e in
      let rest : 1 ≤ weight room 1 zs = omega (arith, some, nothing) in
      rw e (turn_behind-rotated room x zs (passed ++ z ∷ []) rest)
]

pub after-rotated : (room : List ℕ) (x : ℕ) (zs : List ℕ) (times : ℕ) → 1 ≤ times
    → slice_index room x ≡ 0 → 1 ≤ weight room 1 zs
    → after_turns times (turns_of room (x ∷ zs)) ≡ after_turns times (turns_of room (zs ++ x ∷ []))
unfolding turn
after-rotated room x zs zero some nothing rest = absurd (omega (arith, some))
after-rotated room x zs (suc times) some nothing rest =
    let is_out : fits room x ≡ false = le-ltb 0 (slice_index room x) (omega (arith, nothing)) in
    ap (after_turns times) (rw is_out (turn_behind-rotated room x zs [] rest))

-- a node with room in front takes the turn
pub after-head : (room : List ℕ) (x : ℕ) (zs : List ℕ) (times : ℕ) → 0 < slice_index room x
    → after_turns (suc times) (turns_of room (x ∷ zs))
    ≡ after_turns times (turns_of (one_less_at room x) (zs ++ x ∷ []))
unfolding turn
after-head room x zs times some =
    let is_in : fits room x ≡ true = lt-ltb 0 (slice_index room x) some in
    rw is_in refl

-- where none has room, turns change nothing
turn_behind-none : (room passed zs : List ℕ) → weight room 1 zs ≡ 0
    → turn_behind room passed zs ≡ turns_of room (passed ++ zs)
turn_behind-none room passed [] none = ap (turns_of room) (sym (append-nil passed))
turn_behind-none room passed (z ∷ zs) none =
    let nothing : slice_index room z ≤ 0 = omega (arith, none) in
    let is_out : fits room z ≡ false = le-ltb 0 (slice_index room z) nothing in
    let rest : weight room 1 zs ≡ 0 = omega (arith, none) in
    rw is_out
    (turn_behind-none room (passed ++ z ∷ []) zs rest
    ∙ ap (turns_of room) (append_assoc passed (z ∷ []) zs))

pub after-none : (room zs : List ℕ) (times : ℕ) → weight room 1 zs ≡ 0
    → after_turns times (turns_of room zs) ≡ turns_of room zs
unfolding turn
after-none room zs zero none = refl
after-none room zs (suc times) none =
    ap (after_turns times) (turn_behind-none room [] zs none) ∙ after-none room zs times none

-- ---- all nodes of a list, one turn each

-- the room never grows
pub fold-le : (room xs : List ℕ) (node : ℕ) → slice_index (fold one_less_at room xs) node
    ≤ slice_index room node
fold-le room [] node = omega arith
fold-le room (x ∷ xs) node = elim (cases_eq node x) [
  | inl e ↦
      let here : slice_index (one_less_at room x) node ≡ slice_index room node - 1 =
      subst (λ (n : ℕ). slice_index (one_less_at room x) n ≡ slice_index room n - 1) (sym e)
      (less-same room x) in
      omega (arith, fold-le (one_less_at room x) xs node, here)
  | inr ne ↦ omega (arith, fold-le (one_less_at room x) xs node, less-other room x node ne)
]

pub weight-le : (room less : List ℕ) (level : ℕ) (xs : List ℕ)
    → ((node : ℕ) → slice_index less node ≤ slice_index room node)
    → weight less level xs ≤ weight room level xs
weight-le room less level [] all = omega arith
weight-le room less level (x ∷ xs) all = omega (arith, weight-le room less level xs all, all x)

-- each node with room takes a turn, and the nodes stand behind those that had theirs before
pub after-pass : (xs ys room : List ℕ) (times : ℕ) → IsDistinct xs → 1 ≤ times
    → 1 ≤ weight (fold one_less_at room xs) 1 (xs ++ ys)
    → after_turns (weight room 1 xs + times) (turns_of room (xs ++ ys))
    ≡ after_turns times (turns_of (fold one_less_at room xs) (ys ++ xs))
after-pass [] ys room times distinct some left =
    let same : 0 + times ≡ times = omega arith in
    ap (λ (n : ℕ). after_turns n (turns_of room ys)) same
    ∙ ap (λ (zs : List ℕ). after_turns times (turns_of room zs)) (sym (append-nil ys))
after-pass (x ∷ xs) ys room times distinct some left =
    let less : List ℕ = one_less_at room x in
    let behind : weight less 1 xs ≡ weight room 1 xs =
    weight-absent room x 1 xs (absent-behind x xs distinct) in
    let at : (xs ++ ys) ++ x ∷ [] ≡ xs ++ (ys ++ x ∷ []) = append_assoc xs ys (x ∷ []) in
    let last : (ys ++ x ∷ []) ++ xs ≡ ys ++ (x ∷ xs) = append_assoc ys (x ∷ []) xs in
    let end : List ℕ = fold one_less_at less xs in
    let still : 1 ≤ weight end 1 (xs ++ (ys ++ x ∷ [])) =
    omega (
      arith,
      left,
      weight-append end 1 xs (ys ++ x ∷ []),
      weight-append end 1 ys (x ∷ []),
      weight-append end 1 xs ys,
    ) in
    let rest : after_turns (weight less 1 xs + times) (turns_of less (xs ++ (ys ++ x ∷ [])))
    ≡ after_turns times (turns_of end (ys ++ (x ∷ xs))) =
    after-pass xs (ys ++ x ∷ []) less times (distinct-behind x xs distinct) some still
    ∙ ap (λ (zs : List ℕ). after_turns times (turns_of end zs)) last in
    elim (cases_lt 0 (slice_index room x)) [
      | inl l ↦
          let one : weight room 1 (x ∷ xs) + times ≡ suc (weight less 1 xs + times) =
          omega (arith, l, behind) in
          ap (λ (n : ℕ). after_turns n (turns_of room (x ∷ (xs ++ ys)))) one
          ∙ after-head room x (xs ++ ys) (weight less 1 xs + times) l
          ∙ ap (λ (zs : List ℕ). after_turns (weight less 1 xs + times) (turns_of less zs)) at
          ∙ rest
      | inr l ↦
          let nothing : slice_index room x ≡ 0 = omega (arith, l) in
          let kept : less ≡ room = less-nothing room x nothing in
          let same : weight room 1 (x ∷ xs) + times ≡ weight less 1 xs + times =
          omega (arith, nothing, behind) in
          let lower : weight end 1 (xs ++ ys) ≤ weight room 1 (xs ++ ys) =
          weight-le room end 1 (xs ++ ys) (λ node. fold-le room (x ∷ xs) node) in
          let gone : slice_index end x ≤ 0 = omega (arith, fold-le room (x ∷ xs) x, nothing) in
          let others : 1 ≤ weight room 1 (xs ++ ys) = omega (arith, left, gone, lower) in
          let more : 1 ≤ weight less 1 xs + times = omega (arith, some) in
          ap (λ (n : ℕ). after_turns n (turns_of room (x ∷ (xs ++ ys)))) same
          ∙ after-rotated room x (xs ++ ys) (weight less 1 xs + times) more nothing others
          ∙ ap (λ (zs : List ℕ). after_turns (weight less 1 xs + times) (turns_of room zs)) at
          ∙ ap (λ (r : List ℕ). after_turns (weight less 1 xs + times)
          (turns_of r (xs ++ (ys ++ x ∷ [])))) (sym kept)
          ∙ rest
    ]

-- ---- so many turns for each

-- the room of each node, less a level
abbrev pub below : ℕ → List ℕ → List ℕ
below level room = map (λ r. r - level) room

pub below-at : (level : ℕ) (room : List ℕ) (node : ℕ) → slice_index (below level room) node
    ≡ slice_index room node - level
below-at level room node = elim (cases_lt node (length room)) [
  | inl l ↦ get_or-map (λ r. r - level) room node 0 0 l
  | inr l ↦
      let past : slice_index room node ≡ 0 = get_or_past room node 0 l in
      let is_out : slice_index (below level room) node ≡ 0 =
      get_or_past (below level room) node 0
      (omega (arith, l, length-map room (λ (r : ℕ). r - level))) in
      omega (arith, past, is_out)
]

fold-absent : (xs room : List ℕ) (node : ℕ) → times_in node xs ≡ 0
    → slice_index (fold one_less_at room xs) node ≡ slice_index room node
fold-absent [] room node absent = refl
fold-absent (x ∷ xs) room node absent = elim (cases_eq x node) [
  | inl e ↦
      let once : one_if_same x node ≡ 1 = rw (eq-eqb x node e) refl in
      absurd (omega (arith, once, absent))
  | inr ne ↦
      fold-absent xs (one_less_at room x) node (omega (arith, absent))
      ∙ less-other room x node (λ (e : node ≡ x). ne (sym e))
]

fold-once : (xs room : List ℕ) (node : ℕ) → IsDistinct xs → 1 ≤ times_in node xs
    → slice_index (fold one_less_at room xs) node ≡ slice_index room node - 1
fold-once [] room node distinct there = absurd (omega (arith, there))
fold-once (x ∷ xs) room node distinct there = elim (cases_eq x node) [
  | inl e ↦
      let absent : times_in node xs ≡ 0 =
      subst (λ (n : ℕ). times_in n xs ≡ 0) e (absent-behind x xs distinct) in
      let here : slice_index (one_less_at room x) node ≡ slice_index room node - 1 =
      subst (λ (n : ℕ). slice_index (one_less_at room x) n ≡ slice_index room n - 1) e
      (less-same room x) in
      fold-absent xs (one_less_at room x) node absent ∙ here
  | inr ne ↦
      let is_out : one_if_same x node ≡ 0 = rw (ne_eqb x node ne) refl in
      let later : 1 ≤ times_in node xs = omega (arith, is_out, there) in
      fold-once xs (one_less_at room x) node (distinct-behind x xs distinct) later
      ∙ ap (λ (r : ℕ). r - 1) (less-other room x node (λ (e : node ≡ x). ne (sym e)))
]

length-fold : (xs room : List ℕ) → length (fold one_less_at room xs) ≡ length room
length-fold [] room = refl
length-fold (x ∷ xs) room =
    length-fold xs (one_less_at room x) ∙ length-set room x (slice_index room x - 1)

-- one turn for each of all nodes that have room
pub fold-below : (xs room : List ℕ) → IsDistinct xs → Covers xs room
    → fold one_less_at room xs ≡ below 1 room
fold-below xs room distinct covers =
    let long : length (fold one_less_at room xs) ≡ length (below 1 room) =
    length-fold xs room ∙ sym (length-map room (λ (r : ℕ). r - 1)) in
    ext_get_or 0 (fold one_less_at room xs) (below 1 room) long
    (λ node l. elim (cases_lt 0 (times_in node xs)) [
      | inl there ↦ fold-once xs room node distinct there ∙ sym (below-at 1 room node)
      | inr gone ↦
          let nothing : slice_index room node ≡ 0 =
          elim (cases_lt 0 (slice_index room node)) [
            | inl some ↦ absurd (omega (arith, covers node some, gone))
            | inr none ↦ omega (arith, none)
          ] in
          let absent : times_in node xs ≡ 0 = omega (arith, gone) in
          let one : slice_index (fold one_less_at room xs) node ≡ slice_index room node =
          fold-absent xs room node absent in
          omega (arith, one, nothing, below-at 1 room node)
    ])

below-below : (level : ℕ) (room : List ℕ) → below 1 (below level room) ≡ below (suc level) room
below-below level [] = refl
below-below level (r ∷ room) =
    let here : (r - level) - 1 ≡ r - suc level = omega arith in
    rw (here, below-below level room) refl

below-zero : (room : List ℕ) → below 0 room ≡ room
below-zero [] = refl
below-zero (r ∷ room) = let here : r - 0 ≡ r = omega arith in rw (here, below-zero room) refl

weight-zero : (room xs : List ℕ) → weight room 0 xs ≡ 0
weight-zero room [] = refl
weight-zero room (x ∷ xs) = omega (arith, weight-zero room xs)

pub weight-suc : (room : List ℕ) (level : ℕ) (xs : List ℕ) → weight room (suc level) xs
    ≡ weight room level xs + weight (below level room) 1 xs
weight-suc room level [] = omega arith
weight-suc room level (x ∷ xs) =
    omega (arith, weight-suc room level xs, below-at level room x)

-- each of the nodes takes so many turns, as far as it has room
pub after-rounds : (ring room : List ℕ) (level times : ℕ) → IsDistinct ring → Covers ring room
    → 1 ≤ times → 1 ≤ weight (below level room) 1 ring
    → after_turns (weight room level ring + times) (turns_of room ring)
    ≡ after_turns times (turns_of (below level room) ring)
after-rounds ring room zero times distinct covers some left =
    let same : weight room 0 ring + times ≡ times = omega (arith, weight-zero room ring) in
    ap (λ (n : ℕ). after_turns n (turns_of room ring)) same
    ∙ ap (λ (r : List ℕ). after_turns times (turns_of r ring)) (sym (below-zero room))
after-rounds ring room (suc level) times distinct covers some left =
    let lower : List ℕ = below level room in
    let one : ℕ = weight lower 1 ring in
    let next : below 1 lower ≡ below (suc level) room = below-below level room in
    let falls : weight (below (suc level) room) 1 ring ≤ one =
    weight-le lower (below (suc level) room) 1 ring
    (λ node. omega (arith, below-at level room node, below-at (suc level) room node)) in
    let split : weight room (suc level) ring + times ≡ weight room level ring + (one + times) =
    omega (arith, weight-suc room level ring) in
    let covered : Covers ring lower =
    λ node l. covers node (omega (arith, l, below-at level room node)) in
    let passed : fold one_less_at lower ring ≡ below (suc level) room =
    fold-below ring lower distinct covered ∙ next in
    let still : 1 ≤ weight (fold one_less_at lower ring) 1 (ring ++ []) =
    rw (passed, append-nil ring) left in
    ap (λ (n : ℕ). after_turns n (turns_of room ring)) split
    ∙ after-rounds ring room level (one + times) distinct covers (omega (arith, some))
    (omega (arith, falls, left))
    ∙ ap (λ (zs : List ℕ). after_turns (one + times) (turns_of lower zs)) (sym (append-nil ring))
    ∙ after-pass ring [] lower times distinct some still
    ∙ ap (λ (r : List ℕ). after_turns times (turns_of r ring)) passed

-- ---- more turns than there is room

sum-less : (room : List ℕ) (x : ℕ) → 0 < slice_index room x → sum (one_less_at room x) + 1
    ≡ sum room
sum-less room x some = elim (cases_lt x (length room)) [
  | inl l ↦ omega (arith, sum_by-set (λ (r : ℕ). r) room x (slice_index room x - 1) 0 l)
  | inr l ↦
      let past : slice_index room x ≡ 0 = get_or_past room x 0 l in
      absurd (omega (arith, past, some))
]

-- what a turn leaves: the same nodes in the list, and one page less, if one had room
pub record IsTurned (room old : List ℕ) (turns : Turns) : Type 0 where
  pub nodes : (node : ℕ) → times_in node turns.ring ≡ times_in node old
  pub fewer : (node : ℕ) → slice_index turns.room node ≤ slice_index room node
  pub sum : sum turns.room + 1 ≡ sum room

pub turned : (room passed zs : List ℕ) → 1 ≤ weight room 1 zs
    → IsTurned room (passed ++ zs) (turn_behind room passed zs)
turned room passed [] some = absurd (omega (arith, some))
turned room passed (z ∷ zs) some = elim (cases_lt 0 (slice_index room z)) [
  | inl l ↦
      let is_in : fits room z ≡ true = lt-ltb 0 (slice_index room z) l in
      rw is_in (record {
        nodes = λ node. omega (
          arith,
          times_in-append node zs (passed ++ z ∷ []),
          times_in-append node passed (z ∷ []),
          times_in-append node passed (z ∷ zs),
        );
        fewer = λ node. fold-le room (z ∷ []) node;
        sum = sum-less room z l;
      })
  | inr l ↦
      let is_out : fits room z ≡ false = le-ltb 0 (slice_index room z) l in
      let rest : 1 ≤ weight room 1 zs = omega (arith, l, some) in
      let family : List ℕ → Type 0 =
      λ old. IsTurned room old (turn_behind room (passed ++ z ∷ []) zs) in
      rw is_out (subst family (append_assoc passed (z ∷ []) zs)
      (turned room (passed ++ z ∷ []) zs rest))
]

-- where there is room, one of the nodes that cover it has some
pub weight-some : (ring room : List ℕ) (node : ℕ) → 0 < slice_index room node
    → 1 ≤ times_in node ring → 1 ≤ weight room 1 ring
weight-some [] room node some there = absurd (omega (arith, there))
weight-some (x ∷ xs) room node some there = elim (cases_eq x node) [
  | inl e ↦
      let here : 0 < slice_index room x =
      subst (λ (n : ℕ). 0 < slice_index room n) (sym e) some in
      omega (arith, here)
  | inr ne ↦
      let is_out : one_if_same x node ≡ 0 = rw (ne_eqb x node ne) refl in
      omega (arith, weight-some xs room node some (omega (arith, is_out, there)))
]

-- a sum of nothing has no room, and one that isn't 0 has some
pub sum-none : (room : List ℕ) → sum room ≡ 0 → (node : ℕ) → slice_index room node ≡ 0
sum-none room none node = elim (cases_lt 0 (slice_index room node)) [
  | inl l ↦ absurd (omega (arith, sum-less room node l, none))
  | inr l ↦ omega (arith, l)
]

weight-nothing : (room xs : List ℕ) → ((node : ℕ) → slice_index room node ≡ 0)
    → weight room 1 xs ≡ 0
weight-nothing room [] none = refl
weight-nothing room (x ∷ xs) none = omega (arith, weight-nothing room xs none, none x)

some_room : (room : List ℕ) → 0 < sum room → (node : ℕ) × (0 < slice_index room node)
some_room [] some = absurd (omega (arith, some))
some_room (r ∷ room) some = elim (cases_lt 0 r) [
  | inl l ↦ (0, l)
  | inr l ↦
      let rest : (node : ℕ) × (0 < slice_index room node) =
      some_room room (omega (
        arith,
        some,
        l,
        sum_by-cons
            (λ (x : ℕ). x) r room,
      )) in
      (suc rest.0, rest.1)
]

pub weight-covered : (ring room : List ℕ) → Covers ring room → 0 < sum room → 1 ≤ weight room 1 ring
weight-covered ring room covers some =
    let node : (n : ℕ) × (0 < slice_index room n) = some_room room some in
    weight-some ring room node.0 node.1 (covers node.0 node.1)

-- turns beyond all room change nothing
pub after-all : (all : ℕ) (ring room : List ℕ) (more : ℕ) → Covers ring room → sum room ≡ all
    → after_turns (all + more) (turns_of room ring) ≡ after_turns all (turns_of room ring)
unfolding turn
after-all zero ring room more covers all =
    after-none room ring (0 + more) (weight-nothing room ring (sum-none room all))
after-all (suc all) ring room more covers is =
    let next : Turns = turn_behind room [] ring in
    let one : IsTurned room ring next =
    turned room [] ring (weight-covered ring room covers (omega (arith, is))) in
    let covered : Covers next.ring next.room =
    λ node l. omega (arith, one.nodes node, covers node (omega (arith, l, one.fewer node))) in
    let split : suc all + more ≡ suc (all + more) = omega arith in
    ap (λ (n : ℕ). after_turns n (turns_of room ring)) split
    ∙ after-all all next.ring next.room more covered (omega (arith, one.sum, is))

pub after-nothing : (ring room : List ℕ) (times : ℕ) → sum room ≡ 0
    → after_turns times (turns_of room ring) ≡ turns_of room ring
after-nothing ring room times none =
    after-none room ring times (weight-nothing room ring (sum-none room none))

-- ---- what turns leave: no more room anywhere, and one page less for each turn at most

pub record AreLeft (room : List ℕ) (times : ℕ) (turns : Turns) : Type 0 where
  pub long : length turns.room ≡ length room
  pub fewer : (node : ℕ) → slice_index turns.room node ≤ slice_index room node
  pub sum : sum room ≤ sum turns.room + times

turn_behind-left : (room passed zs : List ℕ) → AreLeft room 1 (turn_behind room passed zs)
turn_behind-left room passed [] = record {
  long = refl;
  fewer = λ node. omega arith;
  sum = omega arith;
}
turn_behind-left room passed (z ∷ zs) = elim (cases_lt 0 (slice_index room z)) [
  | inl l ↦
      let is_in : fits room z ≡ true = lt-ltb 0 (slice_index room z) l in
      rw is_in (record {
        long = length-set room z (slice_index room z - 1);
        fewer = λ node. fold-le room (z ∷ []) node;
        sum = omega (arith, sum-less room z l);
      })
  | inr l ↦
      let is_out : fits room z ≡ false = le-ltb 0 (slice_index room z) l in
      rw is_out (turn_behind-left room (passed ++ z ∷ []) zs)
]

pub after-left : (times : ℕ) (room ring : List ℕ)
    → AreLeft room times (after_turns times (turns_of room ring))
unfolding turn
after-left zero room ring = record {
  long = refl;
  fewer = λ node. omega arith;
  sum = omega arith;
}
after-left (suc times) room ring =
    let next : Turns = turn_behind room [] ring in
    let one : AreLeft room 1 next = turn_behind-left room [] ring in
    let rest : AreLeft next.room times (after_turns times next) =
    after-left times next.room next.ring in
    record {
      long = rest.long ∙ one.long;
      fewer = λ node. omega (arith, rest.fewer node, one.fewer node);
      sum = omega (arith, rest.sum, one.sum);
    }
