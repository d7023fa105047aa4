-- The bits of four words as one number.
use Rattle.std.proofs.Common.{◌≡◌, ◌≢◌, ℕ, suc, ◌+◌, ◌-◌, ◌*◌, ◌/◌, ◌%◌, ◌^◌, ◌<◌, max, List, []}
use Rattle.std.proofs.Common.{◌∷◌, length, get_or, set, bit_and, bit_or, eqb, Bool, true, false}
use Rattle.std.proofs.Common.{cond, eq-eqb, refl, sym, ap, ◌∙◌, arith, inl, inr, get_or-set_same}
use Rattle.std.proofs.Common.{get_or-set_other}
use Rattle.std.specs.Int.{bit_at, bit_not, w64}
use Rattle.std.proofs.lemmas.Bool.{cases_lt, cases_eq, ne_eqb}
use Rattle.std.proofs.lemmas.Nat.Bits.{bit_at-zero, bit_at-lt, bit_at_cat_low, bit_at_cat_high}
use Rattle.std.proofs.lemmas.Nat.Bits.{same_from_bits, bit_at_or, bit_at-pow_same, bit_at-pow_other}
use Rattle.std.proofs.lemmas.Nat.Bits.{bit_at_set_same, bit_at_set_other, bit_at_clear_same}
use Rattle.std.proofs.lemmas.Nat.Bits.{bit_at_clear_other}
use Rattle.std.proofs.lemmas.Nat.{and_block, and_le_l}
use Rattle.std.specs.Bool.{Decides}
use Rattle.std.specs.Cmp.Lexicographic.{pointwise}
use Rattle.std.proofs.lemmas.Bool.Decides.{Decides-eqb}
use Rattle.std.proofs.lemmas.Slice.Eq.{slice_eq-Decides}
use Rattle.numa_mask.specs.Words.{number_of, words_of, words_of-number, AreFour}

pub bit_at-number : (words : List ℕ) → ((k : ℕ) → get_or words k 0 < 2 ^ 64) → (i : ℕ)
    → bit_at (number_of words) i ≡ bit_at (get_or words (i / 64) 0) (i % 64)
unfolding number_of
bit_at-number [] small i = bit_at-zero i ∙ sym (bit_at-zero (i % 64))
bit_at-number (word ∷ words) small i =
    elim (cases_lt i 64) [
      | inl low ↦
          let q : i / 64 ≡ 0 = omega arith in
          let r : i % 64 ≡ i = omega arith in
          bit_at_cat_low (number_of words) 64 word i low ∙ ap (λ j. bit_at word j) (sym r)
          ∙ ap (λ k. bit_at (get_or (word ∷ words) k 0) (i % 64)) (sym q)
      | inr high ↦
          let q : i / 64 ≡ suc ((i - 64) / 64) = omega arith in
          let r : (i - 64) % 64 ≡ i % 64 = omega arith in
          bit_at_cat_high (number_of words) 64 word i (small 0) high
          ∙ bit_at-number words (λ k. small (suc k)) (i - 64)
          ∙ ap (λ j. bit_at (get_or words ((i - 64) / 64) 0) j) r
          ∙ ap (λ k. bit_at (get_or (word ∷ words) k 0) (i % 64)) (sym q)
    ]

pub small-set : (words : List ℕ) (at word : ℕ) → ((k : ℕ) → get_or words k 0 < 2 ^ 64)
    → at < length words → word < 2 ^ 64 → (k : ℕ) → get_or (set words at word) k 0 < 2 ^ 64
small-set words at word small within fits k =
    elim (cases_eq k at) [
      | inl e ↦ let same : get_or (set words at word) k 0 ≡ word =
          ap (λ j. get_or (set words at word) j 0) e ∙ get_or-set_same words at word 0 within in
          omega arith
      | inr ne ↦ let same : get_or (set words at word) k 0 ≡ get_or words k 0 =
          get_or-set_other words at k word 0 ne in omega (arith, small k)
    ]

-- one bit more, in its word
pub set_bit : (words : List ℕ) (node word : ℕ) → ((k : ℕ) → get_or words k 0 < 2 ^ 64)
    → node / 64 < length words
    → word ≡ bit_or (get_or words (node / 64) 0) (1 * 2 ^ (node % 64) % 2 ^ 64) → word < 2 ^ 64
    → number_of (set words (node / 64) word) ≡ bit_or (number_of words) (2 ^ node)
set_bit words node word small within is fits = same_from_bits _ _ (λ i.
    bit_at-number (set words (node / 64) word) (small-set words (node / 64) word small within fits)
    i ∙ at i ∙ sym (bit_at_or (number_of words) (2 ^ node) i))
  where
    at : (i : ℕ) → bit_at (get_or (set words (node / 64) word) (i / 64) 0) (i % 64)
        ≡ max (bit_at (number_of words) i) (bit_at (2 ^ node) i)
    at i =
        let old : bit_at (number_of words) i ≡ bit_at (get_or words (i / 64) 0) (i % 64) =
        bit_at-number words small i in
        elim (cases_eq (i / 64) (node / 64)) [
          | inr ne ↦
              let other : i ≢ node = λ e. ne (ap (λ j. j / 64) e) in
              let kept : get_or (set words (node / 64) word) (i / 64) 0 ≡ get_or words (i / 64) 0 =
              get_or-set_other words (node / 64) (i / 64) word 0 ne in
              omega (arith, bit_at-pow_other node i other, ap (λ w. bit_at w (i % 64)) kept, old)
          | inl e ↦
              let written : get_or (set words (node / 64) word) (i / 64) 0 ≡ word =
              ap (λ j. get_or (set words (node / 64) word) j 0) e
              ∙ get_or-set_same words (node / 64) word 0 within in
              let now : bit_at (get_or (set words (node / 64) word) (i / 64) 0) (i % 64)
              ≡ bit_at (bit_or (get_or words (node / 64) 0) (1 * 2 ^ (node % 64) % 2 ^ 64))
              (i % 64) = ap (λ w. bit_at w (i % 64)) (written ∙ is) in
              elim (cases_eq (i % 64) (node % 64)) [
                | inl f ↦
                    let same : i ≡ node = omega arith in
                    let one : bit_at (2 ^ node) i ≡ 1 = ap (bit_at (2 ^ node)) same
                    ∙ bit_at-pow_same node in
                    let set_there :
                    bit_at (bit_or (get_or words (node / 64) 0) (1 * 2 ^ (node % 64) % 2 ^ 64))
                    (i % 64) ≡ 1 = ap (bit_at _) f
                    ∙ bit_at_set_same w64 (get_or words (node / 64) 0) (node % 64)
                    (omega arith) in
                    omega (arith, now, set_there, one, bit_at-lt (number_of words) i)
                | inr f ↦
                    let other : i ≢ node = λ g. f (ap (λ j. j % 64) g) in
                    let kept :
                    bit_at (bit_or (get_or words (node / 64) 0) (1 * 2 ^ (node % 64) % 2 ^ 64))
                    (i % 64) ≡ bit_at (get_or words (node / 64) 0) (i % 64) =
                    bit_at_set_other w64 (get_or words (node / 64) 0) (node % 64) (omega arith)
                    (i % 64) f in
                    let place : bit_at (get_or words (node / 64) 0) (i % 64)
                    ≡ bit_at (get_or words (i / 64) 0) (i % 64) =
                    ap (λ k. bit_at (get_or words k 0) (i % 64)) (sym e) in
                    omega (arith, now, kept, place, old, bit_at-pow_other node i other)
              ]
        ]

-- one bit less, in its word
pub clear_bit : (words : List ℕ) (node word : ℕ) → ((k : ℕ) → get_or words k 0 < 2 ^ 64)
    → node / 64 < length words → word ≡ bit_and (get_or words (node / 64) 0)
    (bit_not w64 (1 * 2 ^ (node % 64) % 2 ^ 64)) → (i : ℕ)
    → bit_at (number_of (set words (node / 64) word)) i ≡ cond (eqb i node) 0
    (bit_at (number_of words) i)
clear_bit words node word small within is i =
    let fits : word < 2 ^ 64 =
    omega (
      arith,
      and_le_l (get_or words (node / 64) 0)
          (bit_not w64 (1 * 2 ^ (node % 64) % 2 ^ 64)),
      small (node / 64),
    ) in
    let old : bit_at (number_of words) i ≡ bit_at (get_or words (i / 64) 0) (i % 64) =
    bit_at-number words small i in
    let new : bit_at (number_of (set words (node / 64) word)) i
    ≡ bit_at (get_or (set words (node / 64) word) (i / 64) 0) (i % 64) =
    bit_at-number (set words (node / 64) word)
    (small-set words (node / 64) word small within fits) i in
    elim (cases_eq (i / 64) (node / 64)) [
      | inr ne ↦
          let other : i ≢ node = λ e. ne (ap (λ j. j / 64) e) in
          let kept : get_or (set words (node / 64) word) (i / 64) 0 ≡ get_or words (i / 64) 0 =
          get_or-set_other words (node / 64) (i / 64) word 0 ne in
          rw (ne_eqb i node other) (omega (arith, ap (λ w. bit_at w (i % 64)) kept, old, new))
      | inl e ↦
          let written : get_or (set words (node / 64) word) (i / 64) 0 ≡ word =
          ap (λ j. get_or (set words (node / 64) word) j 0) e
          ∙ get_or-set_same words (node / 64) word 0 within in
          let now : bit_at (get_or (set words (node / 64) word) (i / 64) 0) (i % 64)
          ≡ bit_at
          (bit_and (get_or words (node / 64) 0) (bit_not w64 (1 * 2 ^ (node % 64) % 2 ^ 64)))
          (i % 64) = ap (λ w. bit_at w (i % 64)) (written ∙ is) in
          elim (cases_eq (i % 64) (node % 64)) [
            | inl f ↦
                let same : i ≡ node = omega arith in
                let gone :
                bit_at (bit_and (get_or words (node / 64) 0)
                (bit_not w64 (1 * 2 ^ (node % 64) % 2 ^ 64))) (i % 64) ≡ 0 = ap (bit_at _) f
                ∙ bit_at_clear_same w64 (get_or words (node / 64) 0) (node % 64)
                (omega arith) in
                rw (eq-eqb i node same) (new ∙ now ∙ gone)
            | inr f ↦
                let other : i ≢ node = λ g. f (ap (λ j. j % 64) g) in
                let kept :
                bit_at (bit_and (get_or words (node / 64) 0)
                (bit_not w64 (1 * 2 ^ (node % 64) % 2 ^ 64))) (i % 64)
                ≡ bit_at (get_or words (node / 64) 0) (i % 64) =
                bit_at_clear_other w64 (get_or words (node / 64) 0) (node % 64) (omega arith)
                (i % 64) (omega arith) f in
                let place : bit_at (get_or words (node / 64) 0) (i % 64)
                ≡ bit_at (get_or words (i / 64) 0) (i % 64) =
                ap (λ k. bit_at (get_or words k 0) (i % 64)) (sym e) in
                rw (ne_eqb i node other) (omega (arith, new, now, kept, place, old))
          ]
    ]

-- four words, one by one
pub four_words : (words : List ℕ) → length words ≡ 4 → words ≡ get_or words 0 0 ∷ get_or words 1 0
    ∷ get_or words 2 0 ∷ get_or words 3 0 ∷ []
four_words [] h = absurd (omega (arith, h))
four_words (a ∷ []) h = absurd (omega (arith, h))
four_words (a ∷ b ∷ []) h = absurd (omega (arith, h))
four_words (a ∷ b ∷ c ∷ []) h = absurd (omega (arith, h))
four_words (a ∷ b ∷ c ∷ d ∷ []) h = refl
four_words (a ∷ b ∷ c ∷ d ∷ e ∷ words) h = absurd (omega (arith, h))

and_four : (a b c d e f g h : ℕ) → a < 2 ^ 64 → b < 2 ^ 64 → c < 2 ^ 64 → e < 2 ^ 64 → f < 2 ^ 64
    → g < 2 ^ 64 → number_of (bit_and a e ∷ bit_and b f ∷ bit_and c g ∷ bit_and d h ∷ [])
    ≡ bit_and (number_of (a ∷ b ∷ c ∷ d ∷ [])) (number_of (e ∷ f ∷ g ∷ h ∷ []))
unfolding number_of
and_four a b c d e f g h ha hb hc he hf hg =
    let ed : 0 * 2 ^ 64 + d ≡ d = omega arith in
    let eh : 0 * 2 ^ 64 + h ≡ h = omega arith in
    let edh : 0 * 2 ^ 64 + bit_and d h ≡ bit_and d h = omega arith in
    rw (
      ed,
      eh,
      edh,
      and_block 64 _ _ a e ha he,
      and_block 64 _ _ b f hb hf,
      and_block 64 _ _ c g hc hg,
    ) refl

-- word by word, the bits that both have
pub and_words : (words others : List ℕ) → AreFour words → AreFour others
    → number_of (bit_and (get_or words 0 0) (get_or others 0 0)
    ∷ bit_and (get_or words 1 0) (get_or others 1 0)
    ∷ bit_and (get_or words 2 0) (get_or others 2 0)
    ∷ bit_and (get_or words 3 0) (get_or others 3 0) ∷ []) ≡ bit_and (number_of words)
    (number_of others)
and_words words others h g =
    and_four _ _ _ _ _ _ _ _ (h.small 0) (h.small 1) (h.small 2) (g.small 0) (g.small 1) (g.small 2)
    ∙ ap
    (λ n.
    bit_and n
    (number_of (get_or others 0 0 ∷ get_or others 1 0 ∷ get_or others 2 0 ∷ get_or others 3 0
    ∷ []))) (ap number_of (sym (four_words words h.four)))
    ∙ ap (λ n. bit_and (number_of words) n) (ap number_of (sym (four_words others g.four)))

pub below_number : (words : List ℕ) → AreFour words → number_of words < 2 ^ 256
unfolding number_of
below_number [] h = absurd (omega (arith, h.four))
below_number (a ∷ []) h = absurd (omega (arith, h.four))
below_number (a ∷ b ∷ []) h = absurd (omega (arith, h.four))
below_number (a ∷ b ∷ c ∷ []) h = absurd (omega (arith, h.four))
below_number (a ∷ b ∷ c ∷ d ∷ []) h = omega (arith, h.small 0, h.small 1, h.small 2, h.small 3)
below_number (a ∷ b ∷ c ∷ d ∷ e ∷ words) h = absurd (omega (arith, h.four))

-- words are equal exactly where their numbers are
pub same_words : (words others : List ℕ) (test : Bool) → AreFour words → AreFour others
    → test ≡ pointwise eqb words others → test ≡ eqb (number_of words) (number_of others)
same_words words others true h g e =
    let decides : Decides true (words ≡ others) = slice_eq-Decides Decides-eqb words others true
    e in
    sym (eq-eqb _ _ (ap number_of (decides.0 refl)))
same_words words others false h g e =
    let decides : Decides false (words ≡ others) = slice_eq-Decides Decides-eqb words others false
    e in
    sym (ne_eqb _ _ (λ same. let odd : false ≡ true =
    decides.1 (sym (words_of-number words h) ∙ ap words_of same ∙ words_of-number others g) in
    cc))
