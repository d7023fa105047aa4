-- Turns of pages of both sizes.
use Rattle.std.proofs.Common.{◌≡◌, ℕ, ◌+◌, ◌-◌, ◌*◌, ◌/◌, ◌%◌, ◌^◌, ◌<◌, ◌≤◌, true, false, refl}
use Rattle.std.proofs.Common.{zero, suc, ap, sym, ◌∙◌, arith, inl, inr}
use Rattle.std.specs.Prelude.{min, nat_le, nat_lt, if◌then◌else◌}
use Rattle.std.proofs.Math.Nat.{min-eq_left, min-eq_right, min-le_right}
use Rattle.std.proofs.lemmas.Bool.{and_parts, cases_Bool, cases_lt, le-leb, le-ltb, leb-true}
use Rattle.std.proofs.lemmas.Bool.{lt-leb, lt-ltb, ltb-true}
use Rattle.numa_machine.specs.Sizes.{index_in, is_inside, is_part, is_shared, round_of}
use Rattle.numa_machine.specs.Sizes.{shared_turn, turn_at, turns_left, whole}
use Rattle.numa_machine.specs.declared.page_size.PageSize.TheVariants.{Small, Huge}

-- ---- indexes

pub part-from : (index : ℕ) → 2 ^ 36 ≤ index → index < 2 ^ 37 → is_part index ≡ true
unfolding is_part
part-from index high low = rw (le-leb (2 ^ 36) index high, lt-ltb index (2 ^ 37) low) refl

pub part-below : (index : ℕ) → index < 2 ^ 36 → is_part index ≡ false
unfolding is_part
part-below index low = rw (lt-leb (2 ^ 36) index low) refl

pub part-above : (index : ℕ) → 2 ^ 37 ≤ index → is_part index ≡ false
unfolding is_part
part-above index high = rw (le-leb (2 ^ 36) index (omega (arith, high)), le-ltb index (2 ^ 37) high)
    refl

pub part-end : (index : ℕ) → is_part index ≡ true → 2 ^ 36 ≤ index
unfolding is_part
part-end index part = leb-true (2 ^ 36) index
    (and_parts (nat_le (2 ^ 36) index) (nat_lt index (2 ^ 37)) part).0

pub part-top : (index : ℕ) → is_part index ≡ true → index < 2 ^ 37
unfolding is_part
part-top index part = ltb-true index (2 ^ 37)
    (and_parts (nat_le (2 ^ 36) index) (nat_lt index (2 ^ 37)) part).1

pub shared-from : (index : ℕ) → 2 ^ 37 ≤ index → is_shared index ≡ true
unfolding is_shared
shared-from index high = le-leb (2 ^ 37) index high

pub shared-below : (index : ℕ) → index < 2 ^ 37 → is_shared index ≡ false
unfolding is_shared
shared-below index low = lt-leb (2 ^ 37) index low

-- ---- turns

pub turn-small : (index : ℕ) → index < 2 ^ 36 → turn_at index ≡ index
unfolding turn_at
turn-small index low = rw (part-below index low, shared-below index (omega (arith, low))) refl

pub turn-huge : (index : ℕ) → 2 ^ 36 ≤ index → index < 2 ^ 37
    → turn_at index ≡ (index - 2 ^ 36) / 512
unfolding turn_at
turn-huge index high low = rw (part-from index high low) refl

pub turn-shared : (index : ℕ) → 2 ^ 37 ≤ index → turn_at index ≡ shared_turn index
unfolding turn_at
turn-shared index high = rw (part-above index high, shared-from index high) refl

-- all parts of a page have one turn
pub turn-part : (index q : ℕ) → 2 ^ 36 ≤ index → index < 2 ^ 37 → q < 512 - index % 512
    → turn_at (index + q) ≡ turn_at index
turn-part index q high low part =
    let inside : index + q < 2 ^ 37 = omega (arith, high, low, part) in
    omega (
      arith,
      part,
      turn-huge index high low,
      turn-huge (index + q) (omega (arith, high)) inside,
    )

pub turn-left : (index q : ℕ) → q < 1 → turn_at (index + q) ≡ turn_at index
turn-left index q one =
    let none : index + q ≡ index = omega (arith, one) in
    ap turn_at none

-- so many pages of 2 MiB on, the turn is that many further
pub turn-later : (index turns : ℕ) → 2 ^ 36 ≤ index → index + turns * 512 < 2 ^ 37
    → turn_at (index + turns * 512) ≡ turn_at index + turns
turn-later index turns high low =
    omega (
      arith,
      turn-huge index high (omega (arith, low)),
      turn-huge (index + turns * 512) (omega (arith, high)) low,
    )

-- so many pages of a shared object on, the turn is that many further
pub shared-later : (index q : ℕ) → 2 ^ 37 ≤ index → shared_turn index + q < 2 ^ 36
    → turn_at (index + q) ≡ turn_at index + q
unfolding shared_turn
shared-later index q high low =
    omega (arith, high, low, turn-shared index high, turn-shared (index + q) (omega (arith, high)))

-- ---- rounds

short-of : (a b : ℕ) → min a b < b → min a b ≡ a
short-of a b less = elim (cases_lt a b) [
  | inl l ↦ min-eq_left (omega (arith, l))
  | inr l ↦ absurd (omega (arith, less, min-eq_right l))
]

-- where the round of some pages begins again, their turns are so many further
pub round-later : (turns index pages k : ℕ) → k + round_of turns index pages < pages
    → turn_at (index + k + round_of turns index pages) ≡ turn_at (index + k) + turns
unfolding round_of turns_left shared_turn
round-later turns index pages k within =
    elim (cases_lt index (2 ^ 36)) [
      | inl low ↦
          let part : is_part index ≡ false = part-below index low in
          let shared : is_shared index ≡ false = shared-below index (omega (arith, low)) in
          elim (cases_lt (2 ^ 36 - index) pages) [
            | inl over ↦
                absurd (omega (
                  arith,
                  rw (part, shared, lt-leb pages (2 ^ 36 - index) over) at within,
                ))
            | inr under ↦
                let one = le-leb pages (2 ^ 36 - index) under in
                let inside : k + min turns pages < pages = rw (part, shared, one) at within in
                let short : min turns pages ≡ turns = short-of turns pages (omega (arith, inside)) in
                rw (part, shared, one, short)
                (omega (
                  arith,
                  inside,
                  short,
                  under,
                  turn-small (index + k) (omega (arith, inside, short, under)),
                  turn-small (index + k + turns) (omega (arith, inside, short, under)),
                ))
          ]
      | inr high ↦ elim (cases_lt index (2 ^ 37)) [
        | inl top ↦
            let part : is_part index ≡ true = part-from index high top in
            elim (cases_lt (2 ^ 37 - index) pages) [
              | inl over ↦
                  absurd (omega (
                    arith,
                    rw (part, lt-leb pages (2 ^ 37 - index) over) at within,
                  ))
              | inr under ↦
                  let one = le-leb pages (2 ^ 37 - index) under in
                  let inside : k + min (turns * 512) pages < pages = rw (part, one) at within
                  in
                  let short : min (turns * 512) pages ≡ turns * 512 =
                  short-of (turns * 512) pages (omega (arith, inside)) in
                  rw (part, one, short)
                  (turn-later (index + k) turns (omega (arith, high))
                  (omega (arith, inside, short, under)))
            ]
        | inr far ↦
            let part : is_part index ≡ false = part-above index far in
            let shared : is_shared index ≡ true = shared-from index far in
            let turn = (index - 2 ^ 37) % 2 ^ 36 in
            elim (cases_lt (2 ^ 36 - turn) pages) [
              | inl over ↦
                  absurd (omega (
                    arith,
                    rw (part, shared, lt-leb pages (2 ^ 36 - turn) over) at within,
                  ))
              | inr under ↦
                  let one = le-leb pages (2 ^ 36 - turn) under in
                  let inside : k + min turns pages < pages = rw (part, shared, one) at within
                  in
                  let short : min turns pages ≡ turns =
                  short-of turns pages (omega (arith, inside)) in
                  let place : index + k + turns ≡ index + (k + turns) = omega arith in
                  let before = shared-later index k far (omega (arith, inside, short, under)) in
                  let behind =
                  shared-later index (k + turns) far (omega (arith, inside, short, under)) in
                  let whole : turn_at (index + k + turns) ≡ turn_at index + (k + turns) =
                  ap turn_at place ∙ behind in
                  let sums : turn_at index + (k + turns) ≡ turn_at index + k + turns =
                  omega arith in
                  rw (part, shared, one, short)
                  (whole ∙ sums ∙ ap (λ (n : ℕ). n + turns) (sym before))
            ]
      ]
    ]

-- so many rounds further
pub rounds-later : (turns index pages k times : ℕ) → k + times * round_of turns index pages < pages
    → turn_at (index + (k + times * round_of turns index pages)) ≡ turn_at (index + k) + times *
    turns
rounds-later turns index pages k zero within =
    let none : k + 0 * round_of turns index pages ≡ k = omega arith in
    let same : turn_at (index + k) ≡ turn_at (index + k) + 0 * turns = omega arith in
    ap (λ (n : ℕ). turn_at (index + n)) none ∙ same
rounds-later turns index pages k (suc times) within =
    let round : ℕ = round_of turns index pages in
    let one : suc times * round ≡ times * round + round = suc-times times round in
    let place : index + (k + suc times * round) ≡ index + (k + times * round) + round =
    omega (arith, one) in
    let before = rounds-later turns index pages k times (omega (arith, within, one)) in
    let last = round-later turns index pages (k + times * round) (omega (arith, within, one)) in
    ap turn_at place ∙ last ∙ ap (λ (n : ℕ). n + turns) before
    ∙ omega (arith, suc-times times turns)
  where
    suc-times : (a b : ℕ) → suc a * b ≡ a * b + b
    suc-times a b = omega arith

-- a round is no longer than the pages
pub round-within : (turns index pages : ℕ) → round_of turns index pages ≤ pages
unfolding round_of
round-within turns index pages = elim (cases_Bool (nat_le pages (turns_left index))) [
  | inl t ↦ rw t (min-le_right (if is_part index then turns * 512 else turns) pages)
  | inr f ↦ rw f (omega arith)
]

-- ---- worked

-- the second page of 2 MiB of a mapping has turn 1, and so its second part
second-page : turn_at (index_in Huge 513) ≡ 1
unfolding turn_at is_part
second-page = refl

-- a page of 4 KiB has the turn of its place
small-page : turn_at (index_in Small 513) ≡ 513
unfolding turn_at is_part is_shared
small-page = refl

-- place 3 of an object of inode 1024 has turn 1027, whichever object it is
shared-page : turn_at (2 ^ 37 + 2 * 2 ^ 36 + 1024 + 3) ≡ 1027
unfolding turn_at is_part is_shared shared_turn
shared-page = refl

-- a border inside a page of 2 MiB, and one between two
inside-page : is_inside (index_in Huge 1) ≡ true
unfolding is_inside is_part
inside-page = refl

between-pages : is_inside (index_in Huge 512) ≡ false
unfolding is_inside is_part
between-pages = refl

-- no border lies inside a page of 4 KiB
small-inside : is_inside (index_in Small 513) ≡ false
unfolding is_inside is_part
small-inside = refl

-- a byte more takes a page more
one-page : whole Huge 0x200000 ≡ 0x200000
one-page = refl

one-byte-more : whole Huge 0x200001 ≡ 0x400000
one-byte-more = refl

-- four nodes in turn come again after 8 MiB
four-nodes : round_of 4 (index_in Huge 0) 4096 ≡ 2048
unfolding round_of turns_left is_part
four-nodes = refl
