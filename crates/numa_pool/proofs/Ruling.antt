-- The counts say the rule.
use Rattle.std.proofs.Common.{◌≡◌, ◌≢◌, ℕ, zero, suc, ◌+◌, ◌<◌, ◌≤◌, List, [], ◌∷◌, refl, sym, ap}
use Rattle.std.proofs.Common.{arith}
use Rattle.std.specs.Prelude.{slice_index}
use Rattle.std.proofs.lemmas.Nat.Bits.{bit_at-lt}
use mathlib.Core.Option.{some, some-ne-none, some-injective}
use native.Mathlib.Decide.{ℕ_discrete, dec_le}
use lib.ListN.{get_elem?}
use Rattle.numa_pool.specs.declared.view.View.{View}
use Rattle.numa_pool.specs.Frames.{times, bit_in}
use Rattle.numa_pool.specs.Rule.{total, holdings, Counted, PoolRule, IsHeld}

abbrev Some_of : (View → ℕ) → List View → Type 0
Some_of h views = (id : ℕ) × (v : View) × (get_elem? views id ≡ some v) × (0 < h v)

some_of : (h : View → ℕ) (views : List View) → 0 < total h views → Some_of h views
some_of h [] l = absurd (omega arith)
some_of h (v ∷ vs) l = by (dec_le 1 (h v)) (λ m. some_of h vs m)
  where
    by : Dec (1 ≤ h v) → (0 < total h vs → Some_of h vs) → Some_of h (v ∷ vs)
    by (yes d) rest = (0, v, refl, omega arith)
    by (no d) rest = let r = rest (omega arith) in (suc r.0, r.1, r.2, r.3)

pub at_most : (h : View → ℕ) (views : List View) (i : ℕ) (v : View) → get_elem? views i ≡ some v
    → h v ≤ total h views
at_most h [] i v e = absurd (some-ne-none v (sym e))
at_most h (x ∷ xs) zero v e = let s : h x ≡ h v = ap h (some-injective x v e) in omega arith
at_most h (x ∷ xs) (suc i) v e = let r = at_most h xs i v e in omega arith

two_of : (h : View → ℕ) (views : List View) (i j : ℕ) (v w : View) → i ≢ j
    → get_elem? views i ≡ some v → get_elem? views j ≡ some w → h v + h w ≤ total h views
two_of h [] i j v w d e f = absurd (some-ne-none v (sym e))
two_of h (x ∷ xs) zero zero v w d e f = absurd (d refl)
two_of h (x ∷ xs) zero (suc j) v w d e f = let s : h x ≡ h v = ap h (some-injective x v e) in
    let r = at_most h xs j w f in omega arith
two_of h (x ∷ xs) (suc i) zero v w d e f = let s : h x ≡ h w = ap h (some-injective x w f) in
    let r = at_most h xs i v e in omega arith
two_of h (x ∷ xs) (suc i) (suc j) v w d e f = let r = two_of h xs i j v w (λ s. d (ap suc s)) e f in
    omega arith

module _ (frames words : List ℕ) (views : List View) (low : (n : ℕ) → slice_index frames n ≤ 4096)
    (r : Counted frames words views) where
  most : (n k : ℕ) → Dec (4096 ≤ k) → holdings n k views < 2
  most n k (yes d) = let l = low n in let p = r.past n k (omega arith) in omega arith
  most n k (no d) = let e = r.exact n k (omega arith) in let l : bit_in words n k < 2 =
      bit_at-lt _ _ in omega arith

  one_seat : (n k i j : ℕ) (v w : View) → get_elem? views i ≡ some v → get_elem? views j ≡ some w
      → 0 < times n k v.held → 0 < times n k w.held → Dec (i ≡ j) → i ≡ j
  one_seat n k i j v w e f p q (yes d) = d
  one_seat n k i j v w e f p q (no d) = let t = two_of (λ u. times n k u.held) views i j v w d e
      f in let m = most n k (dec_le 4096 k) in absurd (omega arith)

  in_range : (n k : ℕ) → IsHeld views n k → Dec (slice_index frames n ≤ k)
      → k < slice_index frames n
  in_range n k h (no d) = omega arith
  in_range n k h (yes high) =
      let a = at_most (λ u. times n k u.held) views h.0 h.1 h.2 in
      let mine = h.3 in
      let none = r.past n k high in
      absurd (omega arith)

  pub means : PoolRule frames words views
  means = record {
    set_where_held = λ n k l. (
      (λ e. let x = r.exact n k l in some_of (λ u. times n k u.held) views (omega arith)),
      (λ h. let x = r.exact n k l in let a = at_most (λ u. times n k u.held) views h.0 h.1 h.2 in
          let p = h.3 in let b : bit_in words n k < 2 = bit_at-lt _ _ in omega arith),
    );
    one_holder = λ n k i j v w e f p q. one_seat n k i j v w e f p q (ℕ_discrete i j);
    held_once = λ n k i v e. let a = at_most (λ u. times n k u.held) views i v e in let m =
        most n k (dec_le 4096 k) in omega arith;
    held_in_range = λ n k h. in_range n k h (dec_le (slice_index frames n) k);
    clear_past = λ n k p l. let x = r.exact n k l in let y = r.past n k p in omega arith;
  }

  -- the bit of a frame that a seat holds is set, and the frame is one of its node's
  pub held_bits : (id : ℕ) (v : View) → get_elem? views id ≡ some v → (n k : ℕ)
      → 0 < times n k v.held → (k < slice_index frames n) × (bit_in words n k ≡ 1)
  held_bits id v at n k mine = by (dec_le (slice_index frames n) k)
    where
      by : Dec (slice_index frames n ≤ k) → (k < slice_index frames n) × (bit_in words n k ≡ 1)
      by (yes high) = let a = at_most (λ u. times n k u.held) views id v at in let p =
          r.past n k high in absurd (omega arith)
      by (no d) =
          let a = at_most (λ u. times n k u.held) views id v at in
          let l = low n in
          let e = r.exact n k (omega arith) in
          let b : bit_in words n k < 2 = bit_at-lt _ _ in
          (omega arith, omega arith)
