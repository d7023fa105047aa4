-- Hexadecimal digits, the last of them apart.
use Rattle.std.proofs.Common.{◌≡◌, ℕ, zero, suc, ◌+◌, ◌-◌, ◌/◌, ◌%◌, ◌^◌, ◌<◌, ◌≤◌, false, cond}
use Rattle.std.proofs.Common.{List, [], ◌∷◌, ◌++◌, length, replicate, ◌⊎◌, inl, inr, refl, sym, ap}
use Rattle.std.proofs.Common.{◌∙◌, arith, append_assoc, length-append}
use Rattle.std.specs.Fmt.{digit_glyph, digits, digits_onto}
use Rattle.std.proofs.lemmas.Bool.{cases_lt, eq-eqb, ne_eqb}
use Rattle.std.proofs.lemmas.Fmt.{hex_one_digit}
use Rattle.std.proofs.lemmas.List.{length-replicate, replicate_more}
use Rattle.numa_maps.specs.Listing.{hex_text}

glyph : ℕ → ℕ
glyph n = digit_glyph false (n % 16)

-- the digits before `acc`, of which there are at most k
hex_onto : ℕ → ℕ → List ℕ → List ℕ
hex_onto k n acc = digits_onto k 16 false n acc

onto-is : (n : ℕ) → hex_onto 64 n [] ≡ digits 16 false n
unfolding digits hex_onto
onto-is n = refl

onto-last : (k n : ℕ) (acc : List ℕ) → n < 16 → hex_onto (suc k) n acc ≡ glyph n ∷ acc
unfolding hex_onto glyph
onto-last k n acc small = ap (λ t. cond t (glyph n ∷ acc) (hex_onto k (n / 16) (glyph n ∷ acc)))
    (eq-eqb (n / 16) 0 (omega arith))

onto-more : (k n : ℕ) (acc : List ℕ) → 16 ≤ n → hex_onto (suc k) n acc ≡ hex_onto k (n / 16)
    (glyph n ∷ acc)
unfolding hex_onto glyph
onto-more k n acc large = ap (λ t. cond t (glyph n ∷ acc) (hex_onto k (n / 16) (glyph n ∷ acc)))
    (ne_eqb (n / 16) 0 (λ e. omega arith))

onto-none : (n : ℕ) (acc : List ℕ) → hex_onto zero n acc ≡ hex_onto zero n [] ++ acc
unfolding hex_onto
onto-none n acc = refl

onto-append : (k n : ℕ) (acc : List ℕ) → hex_onto k n acc ≡ hex_onto k n [] ++ acc
onto-append zero n acc = onto-none n acc
onto-append (suc k) n acc = elim (cases_lt n 16) [
  | inl small ↦ onto-last k n acc small ∙ ap (λ x. x ++ acc) (sym (onto-last k n [] small))
  | inr large ↦
      onto-more k n acc large ∙ onto-append k (n / 16) (glyph n ∷ acc)
      ∙ sym (append_assoc (hex_onto k (n / 16) []) (glyph n ∷ []) acc)
      ∙ ap (λ x. x ++ acc) (sym (onto-more k n [] large ∙ onto-append k (n / 16) (glyph n ∷ [])))
]

-- so many digits are enough
onto-enough : (j k n : ℕ) (acc : List ℕ) → n < 16 ^ suc j → n < 16 ^ suc k
    → hex_onto (suc j) n acc ≡ hex_onto (suc k) n acc
onto-enough zero k n acc p q = onto-last zero n acc (omega arith)
    ∙ sym (onto-last k n acc (omega arith))
onto-enough (suc j) zero n acc p q = onto-last (suc j) n acc (omega arith)
    ∙ sym (onto-last zero n acc (omega arith))
onto-enough (suc j) (suc k) n acc p q = elim (cases_lt n 16) [
  | inl small ↦ onto-last (suc j) n acc small ∙ sym (onto-last (suc k) n acc small)
  | inr large ↦ onto-more (suc j) n acc large ∙ onto-enough j k (n / 16) (glyph n ∷ acc)
      (omega arith) (omega arith) ∙ sym (onto-more (suc k) n acc large)
]

hex-more : (n : ℕ) → 16 ≤ n → n < 2 ^ 64 → digits 16 false n ≡ digits 16 false (n / 16) ++ glyph n
    ∷ []
hex-more n large fits =
    sym (onto-is n) ∙ onto-more 63 n [] large ∙ onto-enough 62 63 (n / 16) (glyph n ∷ [])
    (omega arith) (omega arith) ∙ onto-append 64 (n / 16) (glyph n ∷ [])
    ∙ ap (λ x. x ++ glyph n ∷ []) (onto-is (n / 16))

hex-one : (n : ℕ) → n < 16 → digits 16 false n ≡ glyph n ∷ []
unfolding glyph
hex-one n small =
    let same : n ≡ n % 16 = omega arith in
    hex_one_digit false n small ∙ ap (λ d. digit_glyph false d ∷ []) same

-- a text of more than one digit is that of the number without its last digit, and that digit
text-more : (least n : ℕ) → 16 ≤ n → n < 2 ^ 64 → hex_text least n ≡ hex_text (least - 1) (n / 16)
    ++ digit_glyph false (n % 16) ∷ []
unfolding glyph
text-more least n large fits =
    let front : List ℕ = digits 16 false (n / 16) in
    let places : length (front ++ glyph n ∷ []) ≡ length front + 1 =
    length-append front (glyph n ∷ []) in
    let zeros : least - length (front ++ glyph n ∷ []) ≡ least - 1 - length front =
    omega (arith, places) in
    ap (λ (ds : List ℕ). replicate (least - length ds) 48 ++ ds) (hex-more n large fits)
    ∙ ap (λ (k : ℕ). replicate k 48 ++ (front ++ glyph n ∷ [])) zeros
    ∙ sym (append_assoc (replicate (least - 1 - length front) 48) front (glyph n ∷ []))

text-zeros : (least n : ℕ) → n < 16 → 1 < least → hex_text least n ≡ hex_text (least - 1) (n / 16)
    ++ digit_glyph false (n % 16) ∷ []
unfolding glyph
text-zeros least n small more =
    let none : n / 16 ≡ 0 = omega arith in
    let zero-is : digits 16 false (n / 16) ≡ 48 ∷ [] = ap (digits 16 false) none
    ∙ hex_one_digit false 0 (omega arith) in
    let fewer : least - 1 - 1 + 1 ≡ least - 1 = omega arith in
    let zeros : hex_text (least - 1) (n / 16) ≡ replicate (least - 1) 48 =
    ap (λ (ds : List ℕ). replicate (least - 1 - length ds) 48 ++ ds) zero-is
    ∙ replicate_more (least - 1 - 1) 48 ∙ ap (λ (k : ℕ). replicate k 48) fewer in
    ap (λ (ds : List ℕ). replicate (least - length ds) 48 ++ ds) (hex-one n small)
    ∙ ap (λ (x : List ℕ). x ++ glyph n ∷ []) (sym zeros)

pub text-step : (least n k : ℕ) → ((n < 16) × (1 < least)) ⊎ (16 ≤ n) → k ≡ least - 1 → n < 2 ^ 64
    → hex_text least n ≡ hex_text k (n / 16) ++ digit_glyph false (n % 16) ∷ []
text-step least n k (inl small) e fits = text-zeros least n small.0 small.1
    ∙ ap (λ (j : ℕ). hex_text j (n / 16) ++ digit_glyph false (n % 16) ∷ []) (sym e)
text-step least n k (inr large) e fits = text-more least n large fits
    ∙ ap (λ (j : ℕ). hex_text j (n / 16) ++ digit_glyph false (n % 16) ∷ []) (sym e)

pub text-one : (least n : ℕ) → n < 16 → least ≤ 1 → hex_text least n ≡ digit_glyph false (n % 16)
    ∷ []
unfolding glyph
text-one least n small few =
    let none : least - 1 ≡ 0 = omega arith in
    ap (λ (ds : List ℕ). replicate (least - length ds) 48 ++ ds) (hex-one n small)
    ∙ ap (λ (k : ℕ). replicate k 48 ++ glyph n ∷ []) none

-- a number below 16 ^ k has at most k digits
digits-short : (k n : ℕ) → n < 16 ^ suc k → n < 2 ^ 64 → length (digits 16 false n) ≤ suc k
digits-short zero n small fits = omega (arith, ap length (hex-one n (omega arith)))
digits-short (suc k) n small fits = elim (cases_lt n 16) [
  | inl one ↦ omega (arith, ap length (hex-one n one))
  | inr large ↦
      omega (
        arith,
        ap length (hex-more n large fits),
        length-append (digits 16 false (n / 16))
            (glyph n ∷ []),
        digits-short k (n / 16) (omega arith) (omega arith),
      )
]

pub text-short : (n : ℕ) → n < 2 ^ 64 → length (hex_text 8 n) ≤ 16
text-short n fits =
    omega (
      arith,
      length-append (replicate (8 - length (digits 16 false n)) 48) (digits 16 false n),
      length-replicate {A = ℕ} (8 - length (digits 16 false n)) 48,
      digits-short 15 n (omega arith) fits,
    )
