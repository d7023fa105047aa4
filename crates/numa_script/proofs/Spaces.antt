-- Where the spaces of a line stand: from vectors to bits, and from bits to words.
use Rattle.std.specs.Prelude.{◌≡◌, ◌==◌, ℕ, ◌+◌, ◌-◌, ◌*◌, ◌/◌, ◌^◌, ◌%◌, ◌<◌, ◌≤◌, Bool, true}
use Rattle.std.specs.Prelude.{false}
use Rattle.std.specs.Prelude.{cond, List, length, drop, Some, None, position}
use Rattle.std.specs.Prelude.{refl, max}
use Rattle.std.proofs.Common.{sym, ◌∙◌, ap, subst, arith, get_or, replicate, map, w8, w64, eqb, not}
use Rattle.std.proofs.Common.{bit_or, inl, inr}
use Rattle.std.specs.Int.{bit_at, trailing_zeros}
use Rattle.std.specs.List.{position_or_len}
use Rattle.std.specs.Simd.Lanes.{chunk, zip2, mask_l, top}
use Rattle.std.proofs.Math.ListN.{get_or-map}
use Rattle.std.proofs.lemmas.Bool.{cases_lt}
use Rattle.std.proofs.lemmas.Bool.Decides.{nat_tests}
use Rattle.std.proofs.lemmas.List.{get_or_past, get_or-drop, length-map}
use Rattle.std.proofs.lemmas.List.Sums.{prefix_len_is, prefix_len_stops}
use Rattle.std.proofs.lemmas.Nat.{pow_pos, shl_whole, shr-shr}
use Rattle.std.proofs.lemmas.Nat.Bits.{bit_at_or, bit_at_cat_low, bit_at_cat_high, bit_at_above}
use Rattle.std.proofs.lemmas.Nat.Bits.{bit_at-zero, bit_at-trailing_zeros}
use Rattle.std.proofs.lemmas.Simd.{bitmask_splat, bit_mask_l, mask_l-lt, length-chunk, get_or-chunk}
use Rattle.numa_script.specs.Words.{Marks, MarksFrom}

-- 1 where the byte is a space
abbrev pub mark : ℕ → ℕ
mark b = cond (b == 32) 1 0

-- ---- from vectors to bits

-- the mask of the lanes that are spaces
pub lanes_marked : (text : List ℕ) (at n : ℕ) → at + n ≤ length text → n ≤ 64 → MarksFrom text at n
    (mask_l (map (top 7) (zip2 (λ a b. cond (eqb a b) 255 0) (chunk at n text) (replicate n 32)))
    % 2 ^ 64)
lanes_marked text at n room few =
    let v : List ℕ = chunk at n text in
    let f : ℕ → Bool = λ x. x == 32 in
    let long : length v ≡ n = length-chunk at n text room in
    let is = bitmask_splat w8 eqb v n 32 long few in
    subst (MarksFrom text at n) (sym is)
    (record {
      bits = λ k lt.
          bit_mask_l (map f v) k ∙ ap (λ b. cond b 1 0) (get_or-map f v k 0)
          ∙ ap mark (get_or-chunk at n text k 0 lt);
      few = subst (λ m. mask_l (map f v) < 2 ^ m) (length-map v f ∙ long) (mask_l-lt (map f v));
    })

-- ---- two vectors

max_zero : (x : ℕ) → max x 0 ≡ x
max_zero x = omega arith

zero_max : (x : ℕ) → max 0 x ≡ x
zero_max x = omega arith

max_same : (x : ℕ) → max x x ≡ x
max_same x = omega arith

-- a bit of a number that is shifted left
below_shift : (b s k : ℕ) → k < s → bit_at (b * 2 ^ s) k ≡ 0
below_shift b s k lt =
    let plain : b * 2 ^ s + 0 ≡ b * 2 ^ s = omega arith in
    ap (λ n. bit_at n k) (sym plain) ∙ bit_at_cat_low b s 0 k lt ∙ bit_at-zero k

above_shift : (b s k : ℕ) → s ≤ k → bit_at (b * 2 ^ s) k ≡ bit_at b (k - s)
above_shift b s k le =
    let plain : b * 2 ^ s + 0 ≡ b * 2 ^ s = omega arith in
    let small : 0 < 2 ^ s = pow_pos s in
    ap (λ n. bit_at n k) (sym plain) ∙ bit_at_cat_high b s 0 k small le

plain : (k : ℕ) → 0 + k ≡ k
plain k = omega arith

module _ (text : List ℕ) (lanes a b : ℕ) (some : lanes ≤ length text)
    (few : length text ≤ 2 * lanes) (front : MarksFrom text 0 lanes a)
    (back : MarksFrom text (length text - lanes) lanes b) where
  abbrev start : ℕ
  start = length text - lanes

  front_bit : (k : ℕ) → k < lanes → bit_at a k ≡ mark (get_or text k 0)
  front_bit k lt = front.bits k lt ∙ ap (λ j. mark (get_or text j 0)) (plain k)

  no_front : (k : ℕ) → lanes ≤ k → bit_at a k ≡ 0
  no_front k le = bit_at_above a lanes k front.few le

  back_bit : (k : ℕ) → start ≤ k → k < length text
      → bit_at (b * 2 ^ start) k ≡ mark (get_or text k 0)
  back_bit k le lt =
      let place : start + (k - start) ≡ k = omega arith in
      above_shift b start k le ∙ back.bits (k - start) (omega arith)
      ∙ ap (λ j. mark (get_or text j 0)) place

  no_back : (k : ℕ) → length text ≤ k → bit_at (b * 2 ^ start) k ≡ 0
  no_back k le =
      above_shift b start k (omega arith)
      ∙ bit_at_above b lanes (k - start) back.few (omega arith)

  joined_bit : (k : ℕ) → max (bit_at a k) (bit_at (b * 2 ^ start) k) ≡ mark (get_or text k 0)
  joined_bit k =
      elim (cases_lt k start) [
        | inl before ↦
            (λ i. max (front_bit k (omega arith) i) (below_shift b start k before i))
            ∙ max_zero (mark (get_or text k 0))
        | inr behind ↦
            elim (cases_lt k (length text)) [
              | inl within ↦
                  elim (cases_lt k lanes) [
                    | inl low ↦
                        (λ i. max (front_bit k low i) (back_bit k behind within i))
                        ∙ max_same (mark (get_or text k 0))
                    | inr high ↦
                        (λ i. max (no_front k high i) (back_bit k behind within i))
                        ∙ zero_max (mark (get_or text k 0))
                  ]
              | inr past ↦
                  (λ i. max (no_front k (omega arith) i) (no_back k past i))
                  ∙ sym (ap mark (get_or_past text k 0 past))
            ]
      ]

  pub marks_joined : lanes ≤ 32 → Marks text (bit_or a (b * 2 ^ start % 2 ^ 64))
  marks_joined small =
      let whole : b * 2 ^ start % 2 ^ 64 ≡ b * 2 ^ start =
      shl_whole b lanes start 64 back.few (omega arith) in
      record {
        bits = λ k.
            bit_at_or a (b * 2 ^ start % 2 ^ 64) k
            ∙ ap (λ m. max (bit_at a k) (bit_at m k)) whole ∙ joined_bit k;
      }

-- ---- the first space

none_marked : (text : List ℕ) → Marks text 0 → (k : ℕ) → (get_or text k 0 == 32) ≡ false
none_marked text marked k =
    let none : mark (get_or text k 0) ≡ 0 = sym (marked.bits k) ∙ bit_at-zero k in
    grind (arith, nat_tests, none)

is_marked : (text : List ℕ) (marks k : ℕ) → Marks text marks → bit_at marks k ≡ 1
    → (get_or text k 0 == 32) ≡ true
is_marked text marks k marked set =
    let one : mark (get_or text k 0) ≡ 1 = sym (marked.bits k) ∙ set in
    grind (arith, nat_tests, one)

not_marked : (text : List ℕ) (marks k : ℕ) → Marks text marks → bit_at marks k ≡ 0
    → (get_or text k 0 == 32) ≡ false
not_marked text marks k marked unset =
    let none : mark (get_or text k 0) ≡ 0 = sym (marked.bits k) ∙ unset in
    grind (arith, nat_tests, none)

abbrev space : ℕ → Bool
space b = b == 32

not_false : (b : Bool) → b ≡ false → not b ≡ true
not_false true h = cc
not_false false h = refl

not_true : (b : Bool) → b ≡ true → not b ≡ false
not_true true h = refl
not_true false h = cc

space_found : (b : Bool) → not b ≡ false → b ≡ true
space_found true h = refl
space_found false h = cc

-- where no bit is set there is no space
pub no_space : (text : List ℕ) → Marks text 0 → position space text ≡ None
no_space text marked =
    let all : position_or_len space text ≡ length text =
    prefix_len_is (λ b. not (space b)) text (length text) 0 (omega arith)
    (λ k lt. not_false _ (none_marked text marked k)) (λ h. absurd (omega arith)) in
    grind (arith, nat_tests, all)

-- the lowest bit is the first space
pub first_found : (text : List ℕ) (marks : ℕ) → Marks text marks → 0 < marks → marks < 2 ^ 64
    → position space text ≡ Some (trailing_zeros w64 marks)
first_found text marks marked some fits =
    let end : ℕ = trailing_zeros w64 marks in
    let lowest = bit_at-trailing_zeros w64 marks some fits in
    let is : (get_or text end 0 == 32) ≡ true = is_marked text marks end marked lowest.1 in
    let within : end < length text =
    elim (cases_lt end (length text)) [
      | inl lt ↦ lt
      | inr past ↦
          absurd
          (let zero : (get_or text end 0 == 32) ≡ false =
          ap space (get_or_past text end 0 past) in cc)
    ] in
    let at : position_or_len space text ≡ end =
    prefix_len_is (λ b. not (space b)) text end 0 (omega arith)
    (λ k lt. not_false _ (not_marked text marks k marked (lowest.2 k lt))) (λ h. not_true _ is) in
    grind (arith, nat_tests, at, within)

-- where the first space stands there is a bit
pub space_below : (text : List ℕ) (marks end : ℕ) → Marks text marks → marks < 2 ^ 64
    → position space text ≡ Some end → end < 64
space_below text marks end marked fits found =
    let within : position_or_len space text < length text = grind (arith, nat_tests) in
    let at : position_or_len space text ≡ end = grind (arith, nat_tests) in
    let stops : not (space (get_or text (position_or_len space text) 0)) ≡ false =
    prefix_len_stops (λ b. not (space b)) text 0 within in
    let is : (get_or text end 0 == 32) ≡ true =
    space_found _ (ap (λ k. not (space (get_or text k 0))) (sym at) ∙ stops) in
    elim (cases_lt end 64) [
      | inl lt ↦ lt
      | inr past ↦
          absurd
          (let none : bit_at marks end ≡ 0 = bit_at_above marks 64 end fits past in
          let one : bit_at marks end ≡ 1 = marked.bits end ∙ ap (λ b. cond b 1 0) is in
          omega (arith, none, one))
    ]

-- the bits without the lowest ones
pub marks_behind : (text : List ℕ) (marks n : ℕ) → Marks text marks
    → Marks (drop n text) (marks / 2 ^ n)
marks_behind text marks n marked = record {
  bits = λ k.
      ap (λ q. q % 2) (shr-shr marks n k) ∙ marked.bits (n + k)
      ∙ ap mark (sym (get_or-drop n text k 0));
}
