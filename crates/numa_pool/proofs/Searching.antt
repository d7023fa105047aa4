-- What each step adds to a search.
use Rattle.std.proofs.Common.{◌≡◌, ◌≢◌, ◌⊎◌, ℕ, ◌+◌, ◌*◌, ◌/◌, ◌%◌, ◌^◌, ◌<◌, ◌≤◌, List, [], ◌∷◌}
use Rattle.std.proofs.Common.{◌++◌, Bool, true, false, refl, sym, ap, ◌∙◌, subst, inl, inr, arith}
use Rattle.std.proofs.Common.{eq-eqb, ne_eqb}
use Rattle.std.specs.Prelude.{slice_index, ◌==◌, ◌&&◌, ◌||◌}
use Rattle.std.specs.Int.{bit_at, trailing_ones}
use Rattle.std.proofs.lemmas.Nat.Bits.{bit_at-trailing_ones}
use Rattle.std.specs.Int.Count.{trailing_of_zero}
use mir.Syntax.{w64}
use native.Mathlib.Decide.{ℕ_discrete, dec_le}
use Rattle.numa_pool.specs.declared.view.Entry.{Entry}
use Rattle.numa_pool.specs.declared.view.Entry.TheVariants.{Load, Won, Lost}
use Rattle.numa_pool.specs.Frames.{frame_of, is_frame, one_if}
use Rattle.numa_pool.specs.Search.{Reached, Within, WonSince}
use Rattle.numa_pool.specs.Walk.{shows, met, IsNext, Exhausts, loads_of, LoadsOnce}
use Rattle.numa_pool.proofs.Totals.{and_true, and_false, and_false_first}

pub or_false : (a b : Bool) → a ≡ false → (a || b) ≡ b
or_false true b e = absurd (cc)
or_false false b e = refl

pub or_true : (a b : Bool) → a ≡ true → (a || b) ≡ true
or_true true b e = refl
or_true false b e = absurd (cc)

pub or_last : (a b : Bool) → b ≡ false → (a || b) ≡ a
or_last true b e = refl
or_last false b e = e

and_first : (a b : Bool) → a ≡ true → (a && b) ≡ b
and_first true b e = refl
and_first false b e = absurd (cc)

pub one_if-le : (b : Bool) → one_if b ≤ 1
one_if-le true = omega arith
one_if-le false = omega arith

load_here : (n w x k : ℕ) → w ≡ k / 64 → shows (Load n w x) n k ≡ (bit_at x (k % 64) == 1)
load_here n w x k e = and_first (n == n) ((w == k / 64) && (bit_at x (k % 64) == 1))
    (eq-eqb n n refl) ∙ and_first (w == k / 64) (bit_at x (k % 64) == 1) (eq-eqb w (k / 64) e)

load_else : (n w x k : ℕ) → w ≢ k / 64 → shows (Load n w x) n k ≡ false
load_else n w x k d = and_false (n == n) ((w == k / 64) && (bit_at x (k % 64) == 1))
    (and_false_first (w == k / 64) (bit_at x (k % 64) == 1) (ne_eqb w (k / 64) d))

frame_here : (n k : ℕ) → is_frame (frame_of n k) n k ≡ true
frame_here n k = and_true (n == n) (k == k) (eq-eqb n n refl) (eq-eqb k k refl)

frame_else : (n j k : ℕ) → j ≢ k → is_frame (frame_of n j) n k ≡ false
frame_else n j k d = and_false (n == n) (j == k) (ne_eqb j k d)

-- a load of a word that was not loaded yet
loads_more : (n word x : ℕ) (es : List Entry) → LoadsOnce es → loads_of n word es ≡ 0
    → LoadsOnce (Load n word x ∷ es)
loads_more n word x es once first m w = by (ℕ_discrete n m) (ℕ_discrete word w)
  where
    by : Dec (n ≡ m) → Dec (word ≡ w) → one_if ((n == m) && (word == w)) + loads_of m w es ≤ 1
    by (yes e) (yes d) =
        let zero_yet : loads_of m w es ≡ 0 = subst (λ (y : ℕ × ℕ). loads_of y.0 y.1 es ≡ 0)
        (λ i. (e i, d i)) first in
        let one : one_if ((n == m) && (word == w)) ≤ 1 = one_if-le ((n == m) && (word == w)) in
        omega arith
    by (no e) d = let none : one_if ((n == m) && (word == w)) ≡ 0 =
        ap one_if (and_false_first (n == m) (word == w) (ne_eqb n m e)) in let o = once m w in
        omega arith
    by e (no d) = let none : one_if ((n == m) && (word == w)) ≡ 0 =
        ap one_if (and_false (n == m) (word == w) (ne_eqb word w d)) in let o = once m w in
        omega arith

loads_not : (n word x w : ℕ) (es : List Entry) → word < w → loads_of n w es ≡ 0
    → loads_of n w (Load n word x ∷ es) ≡ 0
loads_not n word x w es l z = let none : one_if ((n == n) && (word == w)) ≡ 0 =
    ap one_if (and_false (n == n) (word == w) (ne_eqb word w (λ e. omega arith))) in omega arith

module _ (frames : List ℕ) (n word : ℕ) (base log : List Entry) where
  pub loads : (x : ℕ) → 64 * word < slice_index frames n → Reached frames n word base log
      → Within frames n word x base (Load n word x ∷ log)
  loads x some_left (es, is, so_far, done, later, once, fresh) = (
    Load n word x ∷ es,
    ap (λ l. Load n word x ∷ l) is,
    (so_far, inl (refl, (64 * word, some_left, later (64 * word) (omega arith))), some_left),
    (λ k l inside. or_false (shows (Load n word x) n k) (met es n k)
        (load_else n word x k (λ e. omega arith)) ∙ done k l inside),
    (λ k l h. or_last (shows (Load n word x) n k) (met es n k) (later k l)
        ∙ load_here n word x k (omega arith)),
    (λ k l. or_false (shows (Load n word x) n k) (met es n k)
        (load_else n word x k (λ e. omega arith)) ∙ later k (omega arith)),
    loads_more n word x es once (fresh word (omega arith)),
    (λ w l. loads_not n word x w es l (fresh w (omega arith))),
  )

  module _ (bit taken : ℕ) (small : bit < 64) (clear : bit_at taken bit ≡ 0)
      (inside : 64 * word + bit < slice_index frames n) (h : Within frames n word taken base log)
    where
      abbrev j : ℕ
      j = 64 * word + bit

      unmet : met h.0 n j ≡ false
      unmet = let same : j % 64 ≡ bit = omega arith in h.4 j (omega arith) (omega arith)
          ∙ ap (λ i. bit_at taken i == 1) same ∙ ap (λ y. y == 1) clear

      next : IsNext frames h.0 (n ∷ []) (frame_of n j)
      next = (inl (refl, (j, inside, unmet)), inside, unmet)

      -- the try lost, and the bit counts as set from now on
      pub misses : (now : ℕ) → bit_at now bit ≡ 1
          → ((i : ℕ) → i ≢ bit → bit_at now i ≡ bit_at taken i)
          → Within frames n word now base (Lost (frame_of n j) ∷ log)
      misses now here others = (
        Lost (frame_of n j) ∷ h.0,
        ap (λ l. Lost (frame_of n j) ∷ l) h.1,
        (h.2, next),
        (λ k l fits. or_false (is_frame (frame_of n j) n k) (met h.0 n k)
            (frame_else n j k (λ same. omega arith)) ∙ h.3 k l fits),
        (λ k l r. at_bit k l r (ℕ_discrete j k)),
        (λ k l. or_false (is_frame (frame_of n j) n k) (met h.0 n k)
            (frame_else n j k (λ same. omega arith)) ∙ h.5 k l),
        (λ m w. let o = h.6 m w in omega arith),
        (λ w l. let o = h.7 w l in omega arith),
      )
        where
          at_bit : (k : ℕ) → 64 * word ≤ k → k < 64 * word + 64 → Dec (j ≡ k)
              → met (Lost (frame_of n j) ∷ h.0) n k ≡ (bit_at now (k % 64) == 1)
          at_bit k l r (yes same) =
              let bit_is : k % 64 ≡ bit = omega arith in
              or_true (is_frame (frame_of n j) n k) (met h.0 n k)
              (subst (λ i. is_frame (frame_of n j) n i ≡ true) same (frame_here n j))
              ∙ sym (eq-eqb (bit_at now (k % 64)) 1 (ap (bit_at now) bit_is ∙ here))
          at_bit k l r (no apart) =
              or_false (is_frame (frame_of n j) n k) (met h.0 n k) (frame_else n j k apart)
              ∙ h.4 k l r
              ∙ ap (λ y. y == 1) (sym (others (k % 64) (λ e. apart (omega arith))))

      -- the try won
      pub gains : WonSince frames n (frame_of n j) base (Won (frame_of n j) ∷ log)
      gains = (
        Won (frame_of n j) ∷ h.0,
        ap (λ l. Won (frame_of n j) ∷ l) h.1,
        (refl, h.2, next),
        (λ m w. let o = h.6 m w in omega arith),
      )

  -- each bit of the node's frames in the word is set
  pub done_word : (limit taken : ℕ) → limit ≤ 64 → (64 * word + limit ≡ slice_index frames n)
      ⊎ (limit ≡ 64) → ((i : ℕ) → i < limit → bit_at taken i ≡ 1)
      → Within frames n word taken base log → Reached frames n (word + 1) base log
  done_word limit taken most last ones h = (
    h.0,
    h.1,
    h.2,
    (λ k l inside. below k l inside (dec_le (64 * word) k)),
    (λ k l. h.5 k (omega arith)),
    h.6,
    (λ w l. h.7 w (omega arith)),
  )
    where
      in_word : (k : ℕ) → k < 64 * (word + 1) → k < slice_index frames n → 64 * word ≤ k
          → ((64 * word + limit ≡ slice_index frames n) ⊎ (limit ≡ 64)) → k % 64 < limit
      in_word k l inside high (inl end) = omega arith
      in_word k l inside high (inr whole) = omega arith

      below : (k : ℕ) → k < 64 * (word + 1) → k < slice_index frames n → Dec (64 * word ≤ k)
          → met h.0 n k ≡ true
      below k l inside (yes high) = h.4 k high (omega arith)
          ∙ eq-eqb (bit_at taken (k % 64)) 1 (ones (k % 64) (in_word k l inside high last))
      below k l inside (no d) = h.3 k (omega arith) inside

-- a word in which the low bits up to one are set has that many ones at its low end
pub ones_up_to : (x b : ℕ) → x < 2 ^ 64 → b < 64 → ((i : ℕ) → i < b + 1 → bit_at x i ≡ 1)
    → b < trailing_ones w64 x
ones_up_to x b wide small ones = by (dec_le (x + 2) (2 ^ 64))
  where
    by : Dec (x + 2 ≤ 2 ^ 64) → b < trailing_ones w64 x
    by (yes d) = let p = bit_at-trailing_ones w64 x (omega arith) in
        from p (dec_le (trailing_ones w64 x) b)
      where
        from : (trailing_ones w64 x < 64) × (bit_at x (trailing_ones w64 x) ≡ 0)
            × ((i : ℕ) → i < trailing_ones w64 x → bit_at x i ≡ 1) → Dec (trailing_ones w64 x ≤ b)
            → b < trailing_ones w64 x
        from p (yes l) = let one = ones (trailing_ones w64 x) (omega arith) in let none = p.1 in
            absurd (omega arith)
        from p (no l) = omega arith
    by (no d) = let all : x ≡ 18446744073709551615 = omega arith in let full : trailing_ones w64 x
        ≡ 64 = ap (trailing_ones w64) all ∙ trailing_of_zero 64 in omega arith

-- the place of the lowest clear bit of a word that has one
pub lowest_clear : (x b : ℕ) → x < 2 ^ 64 → x ≢ 18446744073709551615 → b ≡ trailing_ones w64 x
    → (b < 64) × (bit_at x b ≡ 0) × ((i : ℕ) → i < b → bit_at x i ≡ 1)
lowest_clear x b wide room e =
    subst (λ (y : ℕ). (y < 64) × (bit_at x y ≡ 0) × ((i : ℕ) → i < y → bit_at x i ≡ 1)) (sym e)
    (bit_at-trailing_ones w64 x (omega arith))

pub starts : (frames : List ℕ) (n : ℕ) (base : List Entry) → Reached frames n 0 base base
starts frames n base = (
  [],
  refl,
  tt,
  (λ k l inside. absurd (omega arith)),
  (λ k l. refl),
  (λ m w. omega arith),
  (λ w l. refl),
)

pub ends : (frames : List ℕ) (n words : ℕ) (base log : List Entry)
    → slice_index frames n ≤ 64 * words → Reached frames n words base log → (es : List Entry)
    × (log ≡ es ++ base) × Exhausts frames (n ∷ []) es × LoadsOnce es
ends frames n words base log all h = (h.0, h.1, (h.2, ((λ k l. h.3 k (omega arith) l), tt)), h.5)
