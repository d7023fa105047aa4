-- A seat is alone at the end exactly where as many frames of each node are taken as it holds.
use Rattle.std.proofs.Common.{zero, suc, ◌≡◌, ℕ, ◌+◌, ◌<◌, ◌≤◌, ◌*◌, ◌/◌, ◌%◌, ◌⊎◌, ◌==◌}
use Rattle.std.proofs.Common.{Bool, true, false, List, [], ◌∷◌, refl, sym, ap, subst, ◌∙◌, arith}
use Rattle.std.proofs.Common.{inl, inr, IsTrue, ◌↔◌}
use Rattle.std.specs.Prelude.{slice_index}
use Rattle.std.proofs.lemmas.Bool.{cases_Bool, eq-eqb}
use Rattle.std.proofs.lemmas.Bool.Decides.{eqb_tells}
use Rattle.std.proofs.lemmas.Nat.Bits.{bit_at-lt}
use Rattle.numa_machine.specs.declared.frame.Frame.{Frame}
use Rattle.numa_pool.specs.Frames.{bit_in, is_frame, one_if, set_below, times, held_on}
use Rattle.numa_pool.specs.Seats.{Closes, IsAllOf}

-- ---- sums

abbrev sum_below : (ℕ → ℕ) → ℕ → ℕ
sum_below f zero = 0
sum_below f (suc m) = f m + sum_below f m

sums-agree : (f g : ℕ → ℕ) (m : ℕ) → ((k : ℕ) → k < m → f k ≡ g k) → sum_below f m ≡ sum_below g m
sums-agree f g zero same = refl
sums-agree f g (suc m) same =
    omega (arith, same m (omega arith), sums-agree f g m (λ k low. same k (omega arith)))

sums-at_most : (f g : ℕ → ℕ) (m : ℕ) → ((k : ℕ) → k < m → f k ≤ g k) → sum_below f m ≤ sum_below g m
sums-at_most f g zero most = omega arith
sums-at_most f g (suc m) most =
    omega (arith, most m (omega arith), sums-at_most f g m (λ k low. most k (omega arith)))

-- equal sums of terms of which none is above its fellow
sums-equal : (f g : ℕ → ℕ) (m k : ℕ) → ((j : ℕ) → j < m → f j ≤ g j) → sum_below f m ≡ sum_below g m
    → k < m → f k ≡ g k
sums-equal f g zero k most same low = absurd (omega arith)
sums-equal f g (suc m) k most same low =
    let rest : sum_below f m ≤ sum_below g m = sums-at_most f g m (λ j l. most j (omega arith)) in
    let here : f m ≤ g m = most m (omega arith) in
    let last : f m ≡ g m = omega (arith, rest, here, same) in
    elim (eqb_tells k m) [
      | inl e ↦ ap f e.1 ∙ last ∙ ap g (sym e.1)
      | inr e ↦ sums-equal f g m k (λ j l. most j (omega arith)) (omega (arith, rest, here, same))
          (omega (arith, low, e.1))
    ]

bits-sum : (words : List ℕ) (n m : ℕ) → set_below words n m ≡ sum_below (bit_in words n) m
bits-sum words n zero = refl
bits-sum words n (suc m) = ap (λ s. bit_in words n m + s) (bits-sum words n m)

-- ---- frames of a node, counted by their numbers

times-sum : (f : Frame) (fs : List Frame) (n m : ℕ) → sum_below (λ k. times n k (f ∷ fs)) m
    ≡ sum_below (λ k. one_if (is_frame f n k)) m + sum_below (λ k. times n k fs) m
times-sum f fs n zero = refl
times-sum f fs n (suc m) = omega (arith, times-sum f fs n m)

times-none : (n m : ℕ) → sum_below (λ k. times n k []) m ≡ 0
times-none n zero = refl
times-none n (suc m) = omega (arith, times-none n m)

-- a frame of another node
apart-sum : (f : Frame) (n m : ℕ) → (f.node == n) ≡ false
    → sum_below (λ k. one_if (is_frame f n k)) m ≡ 0
apart-sum f n zero e = refl
apart-sum f n (suc m) e = let none : one_if (is_frame f n m) ≡ 0 = rw e refl in
    omega (arith, none, apart-sum f n m e)

other-number : (f : Frame) (n k : ℕ) → (f.number == k) ≡ false → one_if (is_frame f n k) ≡ 0
other-number f n k e =
    elim (cases_Bool (f.node == n)) [ inl t ↦ rw (t, e) refl | inr g ↦ rw g refl ]

-- a frame with a number above those that are counted
above-sum : (f : Frame) (n m : ℕ) → m ≤ f.number → sum_below (λ k. one_if (is_frame f n k)) m ≡ 0
above-sum f n zero high = refl
above-sum f n (suc m) high =
    elim (eqb_tells f.number m) [
      | inl e ↦ absurd (omega (arith, e.1))
      | inr e ↦ omega (arith, other-number f n m e.0, above-sum f n m (omega arith))
    ]

-- a frame of the node, with a number among them
one-sum : (f : Frame) (n m : ℕ) → (f.node == n) ≡ true → f.number < m
    → sum_below (λ k. one_if (is_frame f n k)) m ≡ 1
one-sum f n zero here low = absurd (omega arith)
one-sum f n (suc m) here low =
    elim (eqb_tells f.number m) [
      | inl e ↦ let one : one_if (is_frame f n m) ≡ 1 = rw (here, e.0) refl in
          omega (arith, one, above-sum f n m (omega (arith, e.1)))
      | inr e ↦ omega (arith, other-number f n m e.0, one-sum f n m here (omega (arith, low, e.1)))
    ]

-- frames of a node that are all numbered below a bound are as many as they are by number
held-sum : (held : List Frame) (n m : ℕ) → ((k : ℕ) → 0 < times n k held → k < m)
    → held_on n held ≡ sum_below (λ k. times n k held) m
held-sum [] n m inside = sym (times-none n m)
held-sum (f ∷ fs) n m inside =
    let rest : held_on n fs ≡ sum_below (λ k. times n k fs) m =
    held-sum fs n m (λ k h. inside k (omega arith)) in
    elim (cases_Bool (f.node == n)) [
      | inl t ↦
          let itself : one_if (is_frame f n f.number) ≡ 1 = rw (t, eq-eqb f.number f.number refl)
          refl in
          let one : one_if (f.node == n) ≡ 1 = rw t refl in
          omega (
            arith,
            times-sum f fs n m,
            one-sum f n m t (inside f.number (omega (arith, itself))),
            rest,
            one,
          )
      | inr e ↦
          let none : one_if (f.node == n) ≡ 0 = rw e refl in
          omega (arith, times-sum f fs n m, apart-sum f n m e, rest, none)
    ]

-- ---- the end

bit-low : (words : List ℕ) (n k : ℕ) → bit_in words n k ≤ 1
bit-low words n k = omega (arith, bit_at-lt (slice_index words (64 * n + k / 64)) (k % 64))

pub alone-counts : (frames : List ℕ) (held : List Frame) (taken : List ℕ) (alone : Bool)
    → Closes frames held taken alone → IsTrue alone
    ↔ ((n : ℕ) → slice_index taken n ≡ held_on n held)
alone-counts frames held taken alone closes = (λ h. same (closes.4.0 h), λ h. closes.4.1 (all h))
  where
    words : List ℕ
    words = closes.0

    once : (n k : ℕ) → times n k held ≤ 1
    once n k = subst (λ (fs : List Frame). times n k fs ≤ 1) closes.1.5
        (closes.1.3.held_once n k closes.1.1 closes.1.2 closes.1.4)

    most : (n k : ℕ) → times n k held ≤ bit_in closes.0 n k
    most n k = elim (≤_cases (times n k held)) [
      | inl none ↦ omega (arith, none)
      | inr some ↦
          omega (arith, once n k, (closes.2 n k some).1)
    ]
      where
        ≤_cases : (t : ℕ) → (t ≡ 0) ⊎ (0 < t)
        ≤_cases zero = inl refl
        ≤_cases (suc t) = inr (omega arith)

    counted : (n : ℕ) → held_on n held ≡ sum_below (λ k. times n k held) (slice_index frames n)
    counted n = held-sum held n (slice_index frames n) (λ k h. (closes.2 n k h).0)

    bits : (n : ℕ) → slice_index taken n ≡ sum_below (bit_in closes.0 n) (slice_index frames n)
    bits n = closes.3 n ∙ bits-sum closes.0 n (slice_index frames n)

    same : IsAllOf frames closes.0 held → (n : ℕ) → slice_index taken n ≡ held_on n held
    same h n = bits n ∙ sums-agree (bit_in closes.0 n) (λ k. times n k held) (slice_index frames n)
        (λ k low. here k low (h n k low)) ∙ sym (counted n)
      where
        here : (k : ℕ) → k < slice_index frames n → (bit_in closes.0 n k ≡ 1 → 0 < times n k held)
            → bit_in closes.0 n k ≡ times n k held
        here k low h = go (bit_in closes.0 n k) refl
          where
            go : (b : ℕ) → bit_in closes.0 n k ≡ b → bit_in closes.0 n k ≡ times n k held
            go zero e = omega (arith, e, most n k)
            go (suc b) e = let one : bit_in closes.0 n k ≡ 1 =
                omega (arith, e, bit-low closes.0 n k) in omega (arith, one, once n k, h one)

    all : ((n : ℕ) → slice_index taken n ≡ held_on n held) → IsAllOf frames closes.0 held
    all h n k low one =
        let even : sum_below (λ j. times n j held) (slice_index frames n)
        ≡ sum_below (bit_in closes.0 n) (slice_index frames n) = sym (counted n) ∙ sym (h n)
        ∙ bits n in
        let at : times n k held ≡ bit_in closes.0 n k =
        sums-equal (λ j. times n j held) (bit_in closes.0 n) (slice_index frames n) k
        (λ j l. most n j) even low in
        omega (arith, at, one)
