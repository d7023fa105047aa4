-- The nodes of a set in the order of their turns, and the last turns.
use Rattle.std.proofs.Common.{◌≡◌, ◌≢◌, ℕ, zero, suc, ◌+◌, ◌-◌, ◌%◌, ◌<◌, ◌≤◌, Bool, true, false}
use Rattle.std.proofs.Common.{List, [], ◌∷◌, ◌++◌, length, filter, min, refl, sym, ap, ◌∙◌, arith}
use Rattle.std.proofs.Common.{inl, inr, append_assoc, subst, get_or}
use Rattle.std.specs.Prelude.{slice_index, sum}
use Rattle.std.specs.Prelude.{◌&&◌, if◌then◌else◌, nat_lt}
use Rattle.std.proofs.Common.{eqb, ltb, drop}
use Rattle.std.specs.List.{range_with_len}
use Rattle.std.proofs.lemmas.Bool.{cases_Bool, cases_eq, cases_lt, eq-eqb, ne_eqb, le-ltb, lt-ltb}
use Rattle.std.proofs.lemmas.Bool.{true≢false, and_from, and_parts, eqb-true}
use Rattle.std.proofs.lemmas.List.{append-nil, drop_all, drop_more, get_or_append_left}
use Rattle.std.proofs.lemmas.List.{length-append}
use Rattle.std.proofs.lemmas.List.{get_or-append_right, get_or_past}
use Rattle.std.proofs.lemmas.List.FromFn.{length-range_with_len, get_or-range_with_len}
use Rattle.numa_mask.specs.NodeSet.{has}
use Rattle.numa_pools.specs.Turns.{Turns, after_turns, around, mark_after, one_less_at, ring}
use Rattle.numa_pools.specs.Turns.{turns_of}
use Rattle.numa_pools.specs.Rounds.{Round, round, round_of, turns_within}
use Rattle.numa_pools.proofs.Each.{turns_within-cons}
use Rattle.numa_pools.proofs.Turning.{times_in, one_if_same, weight, IsDistinct, Covers, below}
use Rattle.numa_pools.proofs.Turning.{times_in-append, weight-append, weight-absent, weight-suc}
use Rattle.numa_pools.proofs.Turning.{absent-behind, distinct-behind, after-head, after-rotated}
use Rattle.numa_pools.proofs.Turning.{after-rounds, after-all}
use Rattle.numa_pools.proofs.Turning.{after-nothing}

-- ---- all nodes in a row

range-below : (node first count : ℕ) → node < first → times_in node (range_with_len first count) ≡ 0
range-below node first zero l = refl
range-below node first (suc count) l =
    let is_out : one_if_same first node ≡ 0 =
    rw (ne_eqb first node (λ (e : first ≡ node). let odd : ⊥ = omega (arith, e, l) in odd)) refl in
    omega (arith, is_out, range-below node (first + 1) count (omega (arith, l)))

range-past : (node first count : ℕ) → first + count ≤ node
    → times_in node (range_with_len first count) ≡ 0
range-past node first zero l = refl
range-past node first (suc count) l =
    let is_out : one_if_same first node ≡ 0 =
    rw (ne_eqb first node (λ (e : first ≡ node). let odd : ⊥ = omega (arith, e, l) in odd)) refl in
    omega (arith, is_out, range-past node (first + 1) count (omega (arith, l)))

range-there : (node first count : ℕ) → first ≤ node → node < first + count
    → times_in node (range_with_len first count) ≡ 1
range-there node first zero low high = absurd (omega (arith, low, high))
range-there node first (suc count) low high = elim (cases_eq first node) [
  | inl e ↦
      let one : one_if_same first node ≡ 1 = rw (eq-eqb first node e) refl in
      omega (arith, one, range-below node (first + 1) count (omega (arith, e)))
  | inr ne ↦
      let is_out : one_if_same first node ≡ 0 = rw (ne_eqb first node ne) refl in
      omega (
        arith,
        is_out,
        range-there node (first + 1) count (omega (arith, low, ne)) (omega (arith, high)),
      )
]

around-there : (mark node : ℕ) → mark < 256 → node < 256 → times_in node (around mark) ≡ 1
around-there mark node m l =
    let both = times_in-append node (range_with_len mark (256 - mark)) (range_with_len 0 mark) in
    elim (cases_lt node mark) [
      | inl low ↦
          omega (
            arith,
            both,
            range-below node mark (256 - mark) low,
            range-there node 0 mark (omega arith) (omega (arith, low)),
          )
      | inr high ↦
          omega (
            arith,
            both,
            range-there node mark (256 - mark) high (omega (arith, m, l)),
            range-past node 0 mark (omega (arith, high)),
          )
    ]

pub around-past : (mark node : ℕ) → mark < 256 → 256 ≤ node → times_in node (around mark) ≡ 0
around-past mark node m l =
    let both = times_in-append node (range_with_len mark (256 - mark)) (range_with_len 0 mark) in
    omega (
      arith,
      both,
      range-past node mark (256 - mark) (omega (arith, m, l)),
      range-past node 0 mark (omega (arith, m, l)),
    )

pub length-around : (mark : ℕ) → mark < 256 → length (around mark) ≡ 256
length-around mark m =
    omega (
      arith,
      m,
      length-append (range_with_len mark (256 - mark)) (range_with_len 0 mark),
      length-range_with_len mark (256 - mark),
      length-range_with_len 0 mark,
    )

pub around-at : (mark place : ℕ) → mark < 256 → place < 256
    → get_or (around mark) place 0 ≡ (mark + place) % 256
around-at mark place m l =
    let front : List ℕ = range_with_len mark (256 - mark) in
    let back : List ℕ = range_with_len 0 mark in
    let long : length front ≡ 256 - mark = length-range_with_len mark (256 - mark) in
    elim (cases_lt place (256 - mark)) [
      | inl low ↦
          let is : mark + place ≡ (mark + place) % 256 = omega (arith, low, m) in
          get_or_append_left front back 0 place (omega (arith, low, long))
          ∙ get_or-range_with_len mark (256 - mark) place 0 low ∙ is
      | inr high ↦
          let is : 0 + (place - (256 - mark)) ≡ (mark + place) % 256 =
          omega (arith, high, m, l) in
          get_or-append_right front back (256 - mark) place 0 long high
          ∙ get_or-range_with_len 0 mark (place - (256 - mark)) 0 (omega (arith, high, m, l)) ∙ is
    ]

-- ---- those of a set

pub filter-in : (p : ℕ → Bool) (x : ℕ) (xs : List ℕ) → p x ≡ true → filter p (x ∷ xs)
    ≡ x ∷ filter p xs
filter-in p x xs is_in = rw is_in refl

pub filter-out : (p : ℕ → Bool) (x : ℕ) (xs : List ℕ) → p x ≡ false → filter p (x ∷ xs)
    ≡ filter p xs
filter-out p x xs is_out = rw is_out refl

pub times_in-filter-le : (p : ℕ → Bool) (node : ℕ) (xs : List ℕ) → times_in node (filter p xs)
    ≤ times_in node xs
times_in-filter-le p node [] = omega arith
times_in-filter-le p node (x ∷ xs) = elim (cases_Bool (p x)) [
  | inl e ↦ rw (filter-in p x xs e) (omega (arith, times_in-filter-le p node xs))
  | inr e ↦ rw (filter-out p x xs e) (omega (arith, times_in-filter-le p node xs))
]

times_in-filter : (p : ℕ → Bool) (node : ℕ) (xs : List ℕ) → p node ≡ true
    → times_in node (filter p xs) ≡ times_in node xs
times_in-filter p node [] is_in = refl
times_in-filter p node (x ∷ xs) is_in = elim (cases_Bool (p x)) [
  | inl e ↦ rw (filter-in p x xs e) (omega (arith, times_in-filter p node xs is_in))
  | inr e ↦
      let other : x ≢ node = λ (same : x ≡ node).
      true≢false (sym (ap p same ∙ is_in) ∙ e) in
      let is_out : one_if_same x node ≡ 0 = rw (ne_eqb x node other) refl in
      rw (filter-out p x xs e) (omega (arith, is_out, times_in-filter p node xs is_in))
]

-- what a set's numbers are 0 outside of
abbrev pub IsOutside : ℕ → List ℕ → Type 0
IsOutside nodes room = (node : ℕ) → has nodes node ≡ false → slice_index room node ≡ 0

pub ring-distinct : (nodes mark : ℕ) → mark < 256 → IsDistinct (ring nodes mark)
unfolding ring
ring-distinct nodes mark m = λ node. elim (cases_lt node 256) [
  | inl l ↦
      omega (arith, times_in-filter-le (has nodes) node (around mark), around-there mark node m l)
  | inr l ↦
      omega (arith, times_in-filter-le (has nodes) node (around mark), around-past mark node m l)
]

pub ring-covers : (nodes mark : ℕ) (room : List ℕ) → mark < 256 → length room ≡ 256
    → IsOutside nodes room → Covers (ring nodes mark) room
unfolding ring
ring-covers nodes mark room m long outside = λ node some. elim (cases_lt node 256) [
  | inl l ↦ elim (cases_Bool (has nodes node)) [
    | inl is_in ↦
        omega (
          arith,
          times_in-filter (has nodes) node (around mark) is_in,
          around-there mark node m l,
        )
    | inr is_out ↦ absurd (omega (arith, some, outside node is_out))
  ]
  | inr l ↦
      let past : slice_index room node ≡ 0 = get_or_past room node 0 (omega (arith, l, long)) in
      absurd (omega (arith, some, past))
]

-- ---- the turns of a set, and those of all nodes

weight-filter : (p : ℕ → Bool) (room : List ℕ) (level : ℕ) (xs : List ℕ)
    → ((node : ℕ) → p node ≡ false → slice_index room node ≡ 0)
    → weight room level (filter p xs) ≡ weight room level xs
weight-filter p room level [] outside = refl
weight-filter p room level (x ∷ xs) outside = elim (cases_Bool (p x)) [
  | inl e ↦ rw (filter-in p x xs e) (omega (arith, weight-filter p room level xs outside))
  | inr e ↦
      rw (filter-out p x xs e)
      (omega (arith, outside x e, weight-filter p room level xs outside))
]

weight-split : (room : List ℕ) (level first low high : ℕ)
    → weight room level (range_with_len first (low + high))
    ≡ weight room level (range_with_len first low)
    + weight room level (range_with_len (first + low) high)
weight-split room level first zero high =
    let a : 0 + high ≡ high = omega arith in
    let b : first ≡ first + 0 = omega arith in
    ap (λ (n : ℕ). weight room level (range_with_len first n)) a
    ∙ ap (λ (n : ℕ). weight room level (range_with_len n high)) b
    ∙ (let c : weight room level (range_with_len (first + 0) high)
    ≡ 0 + weight room level (range_with_len (first + 0) high) = omega arith in c)
weight-split room level first (suc low) high =
    let a : suc low + high ≡ suc (low + high) = omega arith in
    let b : first + 1 + low ≡ first + suc low = omega arith in
    let c : weight room level (range_with_len (first + 1 + low) high)
    ≡ weight room level (range_with_len (first + suc low) high) =
    ap (λ (n : ℕ). weight room level (range_with_len n high)) b in
    ap (λ (n : ℕ). weight room level (range_with_len first n)) a
    ∙ omega (arith, weight-split room level (first + 1) low high, c)

weight-shift : (r : ℕ) (room : List ℕ) (level first count : ℕ)
    → weight (r ∷ room) level (range_with_len (suc first) count)
    ≡ weight room level (range_with_len first count)
weight-shift r room level first zero = refl
weight-shift r room level first (suc count) =
    let a : suc first + 1 ≡ suc (first + 1) = omega arith in
    let b : weight (r ∷ room) level (range_with_len (suc first + 1) count)
    ≡ weight (r ∷ room) level (range_with_len (suc (first + 1)) count) =
    ap (λ (n : ℕ). weight (r ∷ room) level (range_with_len n count)) a in
    omega (arith, b, weight-shift r room level (first + 1) count)

weight-whole : (room : List ℕ) (level : ℕ) → weight room level (range_with_len 0 (length room))
    ≡ turns_within level room
weight-whole [] level = refl
weight-whole (r ∷ room) level =
    omega (
      arith,
      weight-shift r room level 0 (length room),
      weight-whole room level,
      turns_within-cons level r room,
    )

weight-around : (room : List ℕ) (level mark : ℕ) → mark < 256 → length room ≡ 256
    → weight room level (around mark) ≡ turns_within level room
weight-around room level mark m long =
    let front : List ℕ = range_with_len mark (256 - mark) in
    let back : List ℕ = range_with_len 0 mark in
    let parts : weight room level (range_with_len 0 (mark + (256 - mark)))
    ≡ weight room level back + weight room level (range_with_len (0 + mark) (256 - mark)) =
    weight-split room level 0 mark (256 - mark) in
    let whole : mark + (256 - mark) ≡ length room = omega (arith, m, long) in
    let a : weight room level (range_with_len 0 (mark + (256 - mark)))
    ≡ weight room level (range_with_len 0 (length room)) =
    ap (λ (n : ℕ). weight room level (range_with_len 0 n)) whole in
    let none : 0 + mark ≡ mark = omega arith in
    let b : weight room level (range_with_len (0 + mark) (256 - mark)) ≡ weight room level front =
    ap (λ (n : ℕ). weight room level (range_with_len n (256 - mark))) none in
    omega (arith, weight-append room level front back, parts, a, b, weight-whole room level)

pub weight-ring : (nodes mark : ℕ) (room : List ℕ) (level : ℕ) → mark < 256 → length room ≡ 256
    → IsOutside nodes room → weight room level (ring nodes mark) ≡ turns_within level room
unfolding ring
weight-ring nodes mark room level m long outside =
    weight-filter (has nodes) room level (around mark) outside
    ∙ weight-around room level mark m long

-- ---- many turns

pub record AreMany (nodes mark times left rounds : ℕ) (room : List ℕ) : Type 0 where
  pub turns : after_turns times (turns_of room (ring nodes mark))
      ≡ after_turns left (turns_of (below rounds room) (ring nodes mark))
  pub few : left ≤ weight (below rounds room) 1 (ring nodes mark)

-- so many turns are some rounds, and what is left of them
pub turns-are : (nodes mark times rounds left : ℕ) (room : List ℕ) → mark < 256
    → length room ≡ 256 → IsOutside nodes room
    → turns_within rounds room + left ≡ min times (sum room) → 0 < left
    → min times (sum room) ≤ turns_within (rounds + 1) room
    → AreMany nodes mark times left rounds room
turns-are nodes mark times rounds left room m long outside is some most =
    let those : List ℕ = ring nodes mark in
    let covers : Covers those room = ring-covers nodes mark room m long outside in
    let distinct : IsDistinct those = ring-distinct nodes mark m in
    let lower : weight room rounds those ≡ turns_within rounds room =
    weight-ring nodes mark room rounds m long outside in
    let next : rounds + 1 ≡ suc rounds = omega arith in
    let upper : weight room (suc rounds) those ≡ turns_within (rounds + 1) room =
    ap (λ (n : ℕ). weight room n those) (sym next)
    ∙ weight-ring nodes mark room (rounds + 1) m long outside in
    let one : weight room (suc rounds) those
    ≡ weight room rounds those + weight (below rounds room) 1 those =
    weight-suc room rounds those in
    let few : left ≤ weight (below rounds room) 1 those =
    omega (arith, is, most, one, upper, lower) in
    let all : weight room rounds those + left ≡ min times (sum room) = omega (arith, is, lower) in
    let cut : after_turns times (turns_of room those)
    ≡ after_turns (min times (sum room)) (turns_of room those) =
    elim (cases_lt times (sum room)) [
      | inl l ↦
          let e : times ≡ min times (sum room) = omega (arith, l) in
          ap (λ (n : ℕ). after_turns n (turns_of room those)) e
      | inr l ↦
          let e : times ≡ sum room + (times - sum room) = omega (arith, l) in
          let s : sum room ≡ min times (sum room) = omega (arith, l) in
          ap (λ (n : ℕ). after_turns n (turns_of room those)) e
          ∙ after-all (sum room) those room (times - sum room) covers refl
          ∙ ap (λ (n : ℕ). after_turns n (turns_of room those)) s
    ] in
    record {
      turns = cut ∙ ap (λ (n : ℕ). after_turns n (turns_of room those)) (sym all)
          ∙ after-rounds those room rounds left distinct covers some (omega (arith, some, few));
      few = few;
    }

-- ---- the last round

pub round-none : (nodes first left : ℕ) (room : List ℕ) → round nodes [] first left room
    ≡ round_of room first
unfolding round
round-none nodes first left room = refl

pub round-out : (nodes node : ℕ) (rest : List ℕ) (first left : ℕ) (room : List ℕ)
    → has nodes node ≡ false → round nodes (node ∷ rest) first left room
    ≡ round nodes rest first left room
unfolding round
round-out nodes node rest first left room is_out = rw is_out refl

pub round-end : (nodes node : ℕ) (rest : List ℕ) (first : ℕ) (room : List ℕ)
    → has nodes node ≡ true → round nodes (node ∷ rest) first 0 room ≡ round_of room node
unfolding round
round-end nodes node rest first room is_in = rw is_in refl

pub round-takes : (nodes node : ℕ) (rest : List ℕ) (first left : ℕ) (room : List ℕ)
    → has nodes node ≡ true → 0 < left → 0 < slice_index room node
    → round nodes (node ∷ rest) first left room
    ≡ round nodes rest first (left - 1) (one_less_at room node)
unfolding round
round-takes nodes node rest first left room is_in some full =
    let more : eqb left 0 ≡ false =
    ne_eqb left 0 (λ (e : left ≡ 0). let odd : ⊥ = omega (arith, e, some) in odd) in
    let fits : ltb 0 (slice_index room node) ≡ true = lt-ltb 0 (slice_index room node) full in
    rw (is_in, more, fits) refl

pub round-passes : (nodes node : ℕ) (rest : List ℕ) (first left : ℕ) (room : List ℕ)
    → has nodes node ≡ true → 0 < left → slice_index room node ≡ 0
    → round nodes (node ∷ rest) first left room ≡ round nodes rest first left room
unfolding round
round-passes nodes node rest first left room is_in some nothing =
    let more : eqb left 0 ≡ false =
    ne_eqb left 0 (λ (e : left ≡ 0). let odd : ⊥ = omega (arith, e, some) in odd) in
    let is_out : ltb 0 (slice_index room node) ≡ false =
    le-ltb 0 (slice_index room node) (omega (arith, nothing)) in
    rw (is_in, more, is_out) refl

-- what a round says of turns
abbrev pub ended : Turns → Round
ended turns = round_of turns.room (slice_index turns.ring 0)

-- the last round is those turns
pub round-is : (nodes : ℕ) (rest ys : List ℕ) (first left : ℕ) (room : List ℕ)
    → IsDistinct (filter (has nodes) rest) → left ≤ weight room 1 (filter (has nodes) rest)
    → first ≡ slice_index (ys ++ filter (has nodes) rest) 0
    → round nodes rest first left room
    ≡ ended (after_turns left (turns_of room (filter (has nodes) rest ++ ys)))
round-is nodes [] ys first left room distinct few head =
    let none : left ≡ 0 = omega (arith, few) in
    let is : first ≡ slice_index ys 0 =
    head ∙ ap (λ (xs : List ℕ). slice_index xs 0) (append-nil ys) in
    round-none nodes first left room ∙ ap (round_of room) is
    ∙ ap (λ (n : ℕ). ended (after_turns n (turns_of room ys))) (sym none)
round-is nodes (node ∷ rest) ys first left room distinct few head =
    let behind : List ℕ = filter (has nodes) rest in
    elim (cases_Bool (has nodes node)) [
      | inr is_out ↦
          let same : filter (has nodes) (node ∷ rest) ≡ behind =
          filter-out (has nodes) node rest is_out in
          round-out nodes node rest first left room is_out
          ∙ round-is nodes rest ys first left room (subst IsDistinct same distinct)
          (subst (λ (xs : List ℕ). left ≤ weight room 1 xs) same few)
          (subst (λ (xs : List ℕ). first ≡ slice_index (ys ++ xs) 0) same head)
          ∙ ap (λ (xs : List ℕ). ended (after_turns left (turns_of room (xs ++ ys)))) (sym same)
      | inl is_in ↦
          let same : filter (has nodes) (node ∷ rest) ≡ node ∷ behind =
          filter-in (has nodes) node rest is_in in
          let apart : IsDistinct (node ∷ behind) = subst IsDistinct same distinct in
          let fewer : left ≤ weight room 1 (node ∷ behind) =
          subst (λ (xs : List ℕ). left ≤ weight room 1 xs) same few in
          let first_is : first ≡ slice_index (ys ++ node ∷ behind) 0 =
          subst (λ (xs : List ℕ). first ≡ slice_index (ys ++ xs) 0) same head in
          let back : ended (after_turns left (turns_of room (node ∷ (behind ++ ys))))
          ≡ ended (after_turns left (turns_of room (filter (has nodes) (node ∷ rest) ++ ys))) =
          ap (λ (xs : List ℕ). ended (after_turns left (turns_of room (xs ++ ys)))) (sym same) in
          let at : (behind ++ ys) ++ node ∷ [] ≡ behind ++ (ys ++ node ∷ []) =
          append_assoc behind ys (node ∷ []) in
          let later : first ≡ slice_index ((ys ++ node ∷ []) ++ behind) 0 =
          first_is ∙ ap (λ (xs : List ℕ). slice_index xs 0)
          (sym (append_assoc ys (node ∷ []) behind)) in
          let distinct' : IsDistinct behind = distinct-behind node behind apart in
          let absent : times_in node behind ≡ 0 = absent-behind node behind apart in
          elim (cases_eq left 0) [
            | inl none ↦
                ap (λ (n : ℕ). round nodes (node ∷ rest) first n room) none
                ∙ round-end nodes node rest first room is_in
                ∙ ap (λ (n : ℕ). ended (after_turns n (turns_of room (node ∷ (behind ++ ys)))))
                (sym none) ∙ back
            | inr more ↦
                let some : 0 < left = omega (arith, more) in
                elim (cases_lt 0 (slice_index room node)) [
                  | inl full ↦
                      let less : List ℕ = one_less_at room node in
                      let one : left ≡ suc (left - 1) = omega (arith, some) in
                      let still : left - 1 ≤ weight less 1 behind =
                      omega (arith, fewer, full, weight-absent room node 1 behind absent) in
                      round-takes nodes node rest first left room is_in some full
                      ∙ round-is nodes rest (ys ++ node ∷ []) first (left - 1) less distinct' still
                      later
                      ∙ ap (λ (xs : List ℕ). ended (after_turns (left - 1) (turns_of less xs)))
                      (sym at)
                      ∙ ap ended (sym (after-head room node (behind ++ ys) (left - 1) full))
                      ∙ ap (λ (n : ℕ). ended (after_turns n
                      (turns_of room (node ∷ (behind ++ ys))))) (sym one) ∙ back
                  | inr empty ↦
                      let nothing : slice_index room node ≡ 0 = omega (arith, empty) in
                      let still : left ≤ weight room 1 behind =
                      omega (arith, fewer, nothing) in
                      let others : 1 ≤ weight room 1 (behind ++ ys) =
                      omega (arith, some, still, weight-append room 1 behind ys) in
                      round-passes nodes node rest first left room is_in some nothing
                      ∙ round-is nodes rest (ys ++ node ∷ []) first left room distinct' still later
                      ∙ ap (λ (xs : List ℕ). ended (after_turns left (turns_of room xs))) (sym at)
                      ∙ ap ended
                      (sym (after-rotated room node (behind ++ ys) left some nothing others))
                      ∙ back
                ]
          ]
    ]

-- of all nodes from the mark on
pub last-round-is : (nodes mark first left : ℕ) (room : List ℕ) → mark < 256
    → first ≡ slice_index (ring nodes mark) 0 → left ≤ weight room 1 (ring nodes mark)
    → round nodes (around mark) first left room
    ≡ ended (after_turns left (turns_of room (ring nodes mark)))
unfolding ring
last-round-is nodes mark first left room m head few =
    let distinct : IsDistinct (filter (has nodes) (around mark)) = ring-distinct nodes mark m in
    round-is nodes (around mark) [] first left room distinct few head
    ∙ ap (λ (xs : List ℕ). ended (after_turns left (turns_of room xs)))
    (append-nil (filter (has nodes) (around mark)))

pub mark-moves : (times mark : ℕ) (ring : List ℕ) → 0 < times → mark_after times mark ring
    ≡ slice_index ring 0
mark-moves zero mark ring some = absurd (omega (arith, some))
mark-moves (suc times) mark ring some = refl

-- where there is no room, turns change nothing
pub turns-none : (nodes mark times : ℕ) (room : List ℕ) → sum room ≡ 0
    → after_turns times (turns_of room (ring nodes mark)) ≡ turns_of room (ring nodes mark)
turns-none nodes mark times room none =
    after-nothing (ring nodes mark) room times none

-- ---- steps of the code

-- from a place on: its node, and those behind it
pub around-next : (mark place : ℕ) → mark < 256 → place < 256 → drop place (around mark)
    ≡ (mark + place) % 256 ∷ drop (place + 1) (around mark)
around-next mark place m l =
    let within : place < length (around mark) = omega (arith, l, length-around mark m) in
    drop_more (around mark) place 0 within
    ∙ ap (λ (node : ℕ). node ∷ drop (place + 1) (around mark)) (around-at mark place m l)

pub around-end : (mark place : ℕ) → mark < 256 → 256 ≤ place → drop place (around mark) ≡ []
around-end mark place m l =
    drop_all place (around mark) (omega (arith, l, length-around mark m))

pub round-step : (nodes node : ℕ) (rest : List ℕ) (first left : ℕ) (room : List ℕ)
    → (eqb left 0 && has nodes node) ≡ false
    → round nodes (node ∷ rest) first left room
    ≡ round nodes rest first
    (if has nodes node && nat_lt 0 (slice_index room node) then left - 1 else left)
    (if has nodes node && nat_lt 0 (slice_index room node) then one_less_at room node else room)
round-step nodes node rest first left room goes = elim (cases_Bool (has nodes node)) [
  | inr is_out ↦ rw is_out (round-out nodes node rest first left room is_out)
  | inl is_in ↦
      let some : 0 < left = elim (cases_lt 0 left) [
        | inl l ↦ l
        | inr l ↦
            let none : eqb left 0 ≡ true = eq-eqb left 0 (omega (arith, l)) in
            absurd (true≢false (sym (and_from (eqb left 0) (has nodes node) none is_in) ∙ goes))
      ] in
      elim (cases_lt 0 (slice_index room node)) [
        | inl full ↦
            let fits : ltb 0 (slice_index room node) ≡ true =
            lt-ltb 0 (slice_index room node) full in
            rw (is_in, fits) (round-takes nodes node rest first left room is_in some full)
        | inr empty ↦
            let is_out : ltb 0 (slice_index room node) ≡ false =
            le-ltb 0 (slice_index room node) empty in
            rw (is_in, is_out)
            (round-passes nodes node rest first left room is_in some (omega (arith, empty)))
      ]
]

pub round-ends : (nodes node : ℕ) (rest : List ℕ) (first left : ℕ) (room : List ℕ)
    → (eqb left 0 && has nodes node) ≡ true
    → round nodes (node ∷ rest) first left room ≡ round_of room node
round-ends nodes node rest first left room ends =
    let both : (eqb left 0 ≡ true) × (has nodes node ≡ true) =
    and_parts (eqb left 0) (has nodes node) ends in
    ap (λ (n : ℕ). round nodes (node ∷ rest) first n room) (eqb-true left 0 both.0)
    ∙ round-end nodes node rest first room both.1
