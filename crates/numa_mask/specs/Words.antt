-- Four words of 64 bits as one number: bit n of the number is bit n % 64 of word n / 64.
use Rattle.std.specs.Prelude.{refl, slice_index, ◌≡◌, ℕ, ◌+◌, ◌*◌, ◌/◌}
use Rattle.std.specs.Prelude.{◌%◌, ◌^◌, ◌<◌, List, [], ◌∷◌, length}
use Rattle.std.proofs.Common.{arith}

unfoldable pub number_of : List ℕ → ℕ
number_of [] = 0
number_of (word ∷ words) = number_of words * 2 ^ 64 + word

-- the four words of a number below 2 ^ 256
abbrev pub words_of : ℕ → List ℕ
words_of n = n % 2 ^ 64 ∷ n / 2 ^ 64 % 2 ^ 64 ∷ n / 2 ^ 64 / 2 ^ 64 % 2 ^ 64
    ∷ n / 2 ^ 64 / 2 ^ 64 / 2 ^ 64 ∷ []

pub record AreFour (words : List ℕ) : Type 0 where
  pub four : length words ≡ 4
  pub small : (k : ℕ) → slice_index words k < 2 ^ 64

low : (a b : ℕ) → a < 2 ^ 64 → (b * 2 ^ 64 + a) % 2 ^ 64 ≡ a
low a b h = omega arith

high : (a b : ℕ) → a < 2 ^ 64 → (b * 2 ^ 64 + a) / 2 ^ 64 ≡ b
high a b h = omega arith

-- the law that lets a mask be copied and compared: its number gives its words back
pub words_of-number : (words : List ℕ) → AreFour words → words_of (number_of words) ≡ words
unfolding number_of
words_of-number [] h = absurd (omega (arith, h.four))
words_of-number (a ∷ []) h = absurd (omega (arith, h.four))
words_of-number (a ∷ b ∷ []) h = absurd (omega (arith, h.four))
words_of-number (a ∷ b ∷ c ∷ []) h = absurd (omega (arith, h.four))
words_of-number (a ∷ b ∷ c ∷ d ∷ []) h =
    let ha : a < 2 ^ 64 = h.small 0 in
    let hb : b < 2 ^ 64 = h.small 1 in
    let hc : c < 2 ^ 64 = h.small 2 in
    let e0 : 0 * 2 ^ 64 + d ≡ d = omega arith in
    rw (e0, low a _ ha, high a _ ha, low b _ hb, high b _ hb, low c _ hc, high c _ hc) refl
words_of-number (a ∷ b ∷ c ∷ d ∷ e ∷ words) h = absurd (omega (arith, h.four))
