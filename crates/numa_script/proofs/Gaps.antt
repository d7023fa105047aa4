-- Whether one of the words of a text is empty, by its spaces.
use Rattle.std.specs.Prelude.{◌≡◌, ◌==◌, ℕ, ◌-◌, ◌*◌, ◌/◌, ◌%◌, ◌<◌, Bool, true, false, List, []}
use Rattle.std.specs.Prelude.{◌∷◌, ◌||◌, ◌&&◌, if◌then◌else◌, cond, length, suc, refl}
use Rattle.std.proofs.Common.{sym, ◌∙◌, ap, arith, get_or, bit_and, not, ◌≢◌}
use lib.Bits.{and_mask, and_step, and_zero_r}
use Rattle.std.specs.List.{onto_first}
use Rattle.std.proofs.lemmas.Bool.{ne_eqb}
use Rattle.std.proofs.lemmas.Bool.Decides.{nat_tests}
use Rattle.std.proofs.lemmas.Nat.Bits.{bit_at_lowest, bit_at-zero, same_from_bits}
use Rattle.numa_script.specs.Parts.{words_of}
use Rattle.numa_script.specs.Words.{Marks}
use Rattle.numa_script.proofs.EmptyWords.{any_empty, word_begun}
use Rattle.numa_script.proofs.Spaces.{marks_behind}

-- ---- from words to spaces

-- a space or an end comes behind a space or, if `before`, at once
abbrev pub gap : Bool → List ℕ → Bool
gap before [] = before
gap before (b ∷ bs) = if b == 32 then before || gap true bs else gap false bs

-- a word is empty, where the first counts only if `before`
abbrev empty_from : Bool → List (List ℕ) → Bool
empty_from before [] = false
empty_from before (word ∷ words) = (before && (length word == 0)) || any_empty words

from_first : (words : List (List ℕ)) → empty_from true words ≡ any_empty words
from_first [] = refl
from_first (word ∷ words) = refl

gap_step : (before space : Bool) (b : ℕ) (bs : List ℕ) (words : List (List ℕ))
    → gap true bs ≡ empty_from true words → gap false bs ≡ empty_from false words
    → (if space then before || gap true bs else gap false bs)
    ≡ empty_from before (cond space ([] ∷ words) (onto_first b words))
gap_step true true b bs words far near = refl
gap_step false true b bs words far near = far ∙ from_first words
gap_step true false b bs [] far near = near ∙ sym (ap (λ e. e || false) (word_begun b []))
gap_step false false b bs [] far near = near
gap_step true false b bs (word ∷ words) far near =
    near ∙ sym (ap (λ e. e || any_empty words) (word_begun b word))
gap_step false false b bs (word ∷ words) far near = near

gap_from : (before : Bool) (text : List ℕ) → gap before text ≡ empty_from before (words_of text)
gap_from true [] = refl
gap_from false [] = refl
gap_from before (b ∷ bs) =
    gap_step before (b == 32) b bs (words_of bs) (gap_from true bs) (gap_from false bs)

gap_is : (text : List ℕ) → any_empty (words_of text) ≡ gap true text
gap_is text = sym (gap_from true text ∙ from_first (words_of text))

-- ---- from spaces to bits

first_bit : (b : ℕ) (bs : List ℕ) (marks : ℕ) → Marks (b ∷ bs) marks
    → marks % 2 ≡ cond (b == 32) 1 0
first_bit b bs marks marked = sym (bit_at_lowest marks) ∙ marked.bits 0

bits_behind : (b : ℕ) (bs : List ℕ) (marks : ℕ) → Marks (b ∷ bs) marks → Marks bs (marks / 2)
bits_behind b bs marks marked = marks_behind (b ∷ bs) marks 1 marked

no_bits : (marks : ℕ) → Marks [] marks → marks ≡ 0
no_bits marks marked = same_from_bits marks 0 (λ k. marked.bits k ∙ sym (bit_at-zero k))

-- two bits in a row are set
abbrev pub pair : ℕ → Bool
pair marks = not (bit_and marks (marks / 2) == 0)

-- the last byte is a space
abbrev pub ends : List ℕ → Bool
ends text = get_or text (length text - 1) 0 == 32

gap_true : (b : ℕ) (bs : List ℕ) → gap true (b ∷ bs) ≡ (b == 32) || gap false (b ∷ bs)
gap_true b bs = by_space (b == 32)
  where
    by_space : (space : Bool) → (if space then true || gap true bs else gap false bs)
        ≡ space || (if space then false || gap true bs else gap false bs)
    by_space true = refl
    by_space false = refl

no_pair : (marks : ℕ) → marks / 2 ≡ 0 → pair marks ≡ false
no_pair marks none =
    let zero : bit_and marks (marks / 2) ≡ 0 =
    ap (bit_and marks) none ∙ and_zero_r marks in
    ap (λ n. not (n == 0)) zero

-- the lowest two bits, or two above them
pair_step : (marks : ℕ) (first second : Bool) → marks % 2 ≡ cond first 1 0
    → marks / 2 % 2 ≡ cond second 1 0 → pair marks ≡ (first && second) || pair (marks / 2)
pair_step marks true true low high =
    let some : 0 < bit_and marks (marks / 2) =
    omega (arith, low, high, and_step marks (marks / 2)) in
    grind (arith, nat_tests, some)
pair_step marks true false low high =
    let twice : bit_and marks (marks / 2) ≡ bit_and (marks / 2) (marks / 2 / 2) * 2 =
    omega (arith, low, high, and_step marks (marks / 2)) in
    grind (arith, nat_tests, twice)
pair_step marks false second low high =
    let twice : bit_and marks (marks / 2) ≡ bit_and (marks / 2) (marks / 2 / 2) * 2 =
    omega (arith, low, and_step marks (marks / 2)) in
    grind (arith, nat_tests, twice)

ends_behind : (b c : ℕ) (bs : List ℕ) → ends (c ∷ bs) ≡ ends (b ∷ c ∷ bs)
ends_behind b c bs =
    let long : suc (length (c ∷ bs) - 1) ≡ length (b ∷ c ∷ bs) - 1 = omega arith in
    ap (λ k. get_or (b ∷ c ∷ bs) k 0 == 32) long

gap_bits : (b : ℕ) (bs : List ℕ) (marks : ℕ) → Marks (b ∷ bs) marks
    → gap false (b ∷ bs) ≡ ends (b ∷ bs) || pair marks
gap_bits b [] marks marked =
    by_space (b == 32) (no_pair marks (no_bits (marks / 2) (bits_behind b [] marks marked)))
  where
    by_space : (space : Bool) → pair marks ≡ false
        → (if space then true else false) ≡ space || pair marks
    by_space true none = refl
    by_space false none = sym none
gap_bits b (c ∷ bs) marks marked =
    let behind : Marks (c ∷ bs) (marks / 2) = bits_behind b (c ∷ bs) marks marked in
    by_space (b == 32) (c == 32) (ends (c ∷ bs)) (pair (marks / 2)) (pair marks)
    (gap true (c ∷ bs)) (gap false (c ∷ bs)) (gap_true c bs)
    (gap_bits c bs (marks / 2) behind)
    (pair_step marks (b == 32) (c == 32) (first_bit b (c ∷ bs) marks marked)
    (first_bit c bs (marks / 2) behind))
    ∙ ap (λ e. e || pair marks) (ends_behind b c bs)
  where
    by_space : (first second end more all far near : Bool) → far ≡ second || near
        → near ≡ end || more → all ≡ (first && second) || more
        → (if first then false || far else near) ≡ end || all
    by_space true true true more all far near y n p = y
    by_space true true false more all far near y n p = y ∙ sym p
    by_space true false end more all far near y n p = y ∙ n ∙ ap (λ e. end || e) (sym p)
    by_space false second end more all far near y n p = n ∙ ap (λ e. end || e) (sym p)

-- ---- whether a word is empty

pub empty_at_end : (text : List ℕ) (marks : ℕ) → Marks text marks → 0 < length text
    → get_or text (length text - 1) 0 ≡ 32 → any_empty (words_of text) ≡ true
empty_at_end [] marks marked some last = absurd (omega arith)
empty_at_end (b ∷ bs) marks marked some last =
    let is : ends (b ∷ bs) ≡ true = ap (λ k. k == 32) last in
    gap_is (b ∷ bs) ∙ gap_true b bs
    ∙ ap (λ e. (b == 32) || e) (gap_bits b bs marks marked ∙ ap (λ e. e || pair marks) is)
    ∙ or_true (b == 32)
  where
    or_true : (a : Bool) → a || true ≡ true
    or_true true = refl
    or_true false = refl

pub empty_within : (text : List ℕ) (marks : ℕ) → Marks text marks → 0 < length text
    → get_or text (length text - 1) 0 ≢ 32 → bit_and marks 1 ≢ 1
    → any_empty (words_of text) ≡ pair marks
empty_within [] marks marked some last first = absurd (omega arith)
empty_within (b ∷ bs) marks marked some last first =
    let is : ends (b ∷ bs) ≡ false = ne_eqb (get_or (b ∷ bs) (length (b ∷ bs) - 1) 0) 32 last in
    gap_is (b ∷ bs) ∙ gap_true b bs
    ∙ ap (λ e. (b == 32) || e) (gap_bits b bs marks marked ∙ ap (λ e. e || pair marks) is)
    ∙ by_space (b == 32) (first_bit b bs marks marked)
  where
    by_space : (space : Bool) → marks % 2 ≡ cond space 1 0 → space || pair marks ≡ pair marks
    by_space true is = absurd (first (and_mask marks 1 ∙ is))
    by_space false is = refl
