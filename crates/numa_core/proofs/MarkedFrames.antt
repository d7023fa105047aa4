-- Marks, one bit each in words of 64: cleared, and read off many at a time.
use Rattle.std.proofs.Common.{◌≡◌, ◌≢◌, ℕ, ◌+◌, ◌-◌, ◌*◌, ◌/◌, ◌%◌, ◌^◌, ◌<◌, ◌≤◌, ◌==◌, ◌&&◌, ◌⊎◌}
use Rattle.std.proofs.Common.{inl, inr, true, false, not, Some, List, length, get_or, sym, ap}
use Rattle.std.proofs.Common.{◌∙◌, arith, eq-eqb}
use native.Mathlib.Decide.{dec_le}
use native.Mathlib.Nat.{div-le_self}
use mir.Syntax.{w64}
use Rattle.std.specs.Int.{bit_at, bit_not, trailing_ones}
use Rattle.std.specs.Int.Bits.{bit_and}
use Rattle.std.specs.Int.Count.{trailing_of_zero}
use Rattle.std.proofs.Math.ListN.{set}
use Rattle.std.proofs.lemmas.Bool.Decides.{eqb_tells}
use Rattle.std.proofs.lemmas.List.{get_or-set_same, get_or-set_other}
use Rattle.std.proofs.lemmas.Nat.{shr-shr}
use Rattle.std.proofs.lemmas.Nat.Bits.{bit_at_above, bit_at_clear_same, bit_at_clear_other}
use Rattle.std.proofs.lemmas.Nat.Bits.{bit_at_ones, bit_at-trailing_ones}
use Rattle.numa_core.specs.Standing.{is_met}
use Rattle.numa_core.proofs.InARow.{any_default}

cleared : (words : List ℕ) (place word p : ℕ) → place / 64 < length words
    → word ≡ bit_and (get_or words (place / 64) 0) (bit_not w64 (1 * 2 ^ (place % 64) % 2 ^ 64))
    → is_met (set words (place / 64) word) (Some p) ≡ (not (p == place) && is_met words (Some p))
cleared words place word p within is =
    go (eqb_tells (p / 64) (place / 64)) (eqb_tells (p % 64) (place % 64)) (eqb_tells p place)
  where
    go : ((p / 64 == place / 64 ≡ true) × (p / 64 ≡ place / 64))
        ⊎ ((p / 64 == place / 64 ≡ false) × (p / 64 ≢ place / 64))
        → ((p % 64 == place % 64 ≡ true) × (p % 64 ≡ place % 64))
        ⊎ ((p % 64 == place % 64 ≡ false) × (p % 64 ≢ place % 64))
        → ((p == place ≡ true) × (p ≡ place)) ⊎ ((p == place ≡ false) × (p ≢ place))
        → is_met (set words (place / 64) word) (Some p)
        ≡ (not (p == place) && is_met words (Some p))
    go (inr e) f (inl g) = absurd (e.1 (ap (λ i. i / 64) g.1))
    go (inr e) f (inr g) =
        rw g.0
        (ap (λ w. bit_at w (p % 64) == 1) (get_or-set_other words (place / 64) (p / 64) word 0 e.1))
    go (inl e) (inr f) (inl g) = absurd (f.1 (ap (λ i. i % 64) g.1))
    go (inl e) (inr f) (inr g) = rw g.0
        (ap (λ w. bit_at w (p % 64) == 1) (ap (λ i. get_or (set words (place / 64) word) i 0) e.1
        ∙ get_or-set_same words (place / 64) word 0 within ∙ is)
        ∙ ap (λ b. b == 1)
        (bit_at_clear_other w64 (get_or words (place / 64) 0) (place % 64) (omega arith) (p % 64)
        (omega arith) f.1)
        ∙ ap (λ i. bit_at (get_or words i 0) (p % 64) == 1) (sym e.1))
    go (inl e) (inl f) (inl g) = rw g.0
        (ap (λ w. bit_at w (p % 64) == 1) (ap (λ i. get_or (set words (place / 64) word) i 0) e.1
        ∙ get_or-set_same words (place / 64) word 0 within ∙ is)
        ∙ ap (λ i. bit_at (bit_and (get_or words (place / 64) 0)
        (bit_not w64 (1 * 2 ^ (place % 64) % 2 ^ 64))) i == 1) f.1
        ∙ ap (λ b. b == 1)
        (bit_at_clear_same w64 (get_or words (place / 64) 0) (place % 64) (omega arith)))
    go (inl e) (inl f) (inr g) =
        absurd (let ne : p ≢ place = g.1 in let high : p / 64 ≡ place / 64 = e.1 in
        let low : p % 64 ≡ place % 64 = f.1 in omega arith)

pub bit_cleared : (words : List ℕ) (place old p : ℕ) → place / 64 < length words
    → old ≡ get_or words (place / 64) old
    → is_met (set words (place / 64) (bit_and old (bit_not w64 (1 * 2 ^ (place % 64) % 2 ^ 64))))
    (Some p) ≡ (not (p == place) && is_met words (Some p))
bit_cleared words place old p within was =
    cleared words place (bit_and old (bit_not w64 (1 * 2 ^ (place % 64) % 2 ^ 64))) p within
    (ap (λ w. bit_and w (bit_not w64 (1 * 2 ^ (place % 64) % 2 ^ 64)))
    (was ∙ any_default words (place / 64) old 0 within))

-- ---- marks one after another

-- each of the low bits of a word that are ones
low_one : (x i : ℕ) → x < 2 ^ 64 → i < trailing_ones w64 x → bit_at x i ≡ 1
low_one x i wide low = by (dec_le (x + 2) (2 ^ 64))
  where
    by : Dec (x + 2 ≤ 2 ^ 64) → bit_at x i ≡ 1
    by (yes d) = (bit_at-trailing_ones w64 x (omega arith)).2 i low
    by (no d) =
        let all : x ≡ 18446744073709551615 = omega arith in
        let full : trailing_ones w64 x ≡ 64 = ap (trailing_ones w64) all ∙ trailing_of_zero 64 in
        ap (λ y. bit_at y i) all ∙ bit_at_ones 64 i (omega arith)

ones_few : (x : ℕ) → x < 2 ^ 64 → trailing_ones w64 x ≤ 64
ones_few x wide = by (dec_le (x + 2) (2 ^ 64))
  where
    by : Dec (x + 2 ≤ 2 ^ 64) → trailing_ones w64 x ≤ 64
    by (yes d) = omega (arith, (bit_at-trailing_ones w64 x (omega arith)).0)
    by (no d) =
        let all : x ≡ 18446744073709551615 = omega arith in
        let full : trailing_ones w64 x ≡ 64 = ap (trailing_ones w64) all ∙ trailing_of_zero 64 in
        omega arith

pub marks_few : (word s : ℕ) → word < 2 ^ 64 → trailing_ones w64 (word / 2 ^ s) ≤ 64
marks_few word s wide = ones_few (word / 2 ^ s) (omega (arith, div-le_self word (2 ^ s), wide))

-- the marks from a place on, read off its word
pub marks_on : (words : List ℕ) (place word : ℕ) → place / 64 < length words → word < 2 ^ 64
    → word ≡ get_or words (place / 64) word → (p : ℕ) → place ≤ p
    → p < place + trailing_ones w64 (word / 2 ^ (place % 64)) → is_met words (Some p) ≡ true
marks_on words place word within wide was p low high =
    let s : ℕ = place % 64 in
    let i : ℕ = p - place in
    let less : word / 2 ^ s < 2 ^ 64 = omega (arith, div-le_self word (2 ^ s)) in
    let one : bit_at (word / 2 ^ s) i ≡ 1 = low_one (word / 2 ^ s) i less (omega arith) in
    let here : bit_at word (s + i) ≡ 1 = ap (λ x. x % 2) (sym (shr-shr word s i)) ∙ one in
    let inside : s + i < 64 = by (dec_le 64 (s + i)) here in
    let same : p / 64 ≡ place / 64 = omega arith in
    let bit : p % 64 ≡ s + i = omega arith in
    ap (λ k. bit_at (get_or words k 0) (p % 64) == 1) same
    ∙ ap (λ w. bit_at w (p % 64) == 1) (sym (was ∙ any_default words (place / 64) word 0 within))
    ∙ ap (λ k. bit_at word k == 1) bit ∙ eq-eqb (bit_at word (s + i)) 1 here
  where
    by : Dec (64 ≤ place % 64 + (p - place)) → bit_at word (place % 64 + (p - place)) ≡ 1
        → place % 64 + (p - place) < 64
    by (yes over) here =
        let none : bit_at word (place % 64 + (p - place)) ≡ 0 =
        bit_at_above word 64 (place % 64 + (p - place)) wide over in
        absurd (omega (arith, none, here))
    by (no under) here = omega (arith, under)
