-- Marks for frames.
use Rattle.std.proofs.Common.{◌≡◌, ℕ, ◌+◌, ◌-◌, ◌*◌, ◌/◌, ◌%◌, ◌^◌, ◌<◌, ◌≤◌, List, [], ◌∷◌, ◌++◌}
use Rattle.std.proofs.Common.{length, set, get_or, Bool, true, false, refl, sym, ap, ◌∙◌, subst}
use Rattle.std.proofs.Common.{inl, inr, arith, replicate}
use Rattle.std.specs.Prelude.{slice_index, bit_or, bit_and, min, max}
use Rattle.std.specs.Int.{bit_at, bit_not}
use Rattle.std.proofs.lemmas.List.{get_or-replicate, get_or_past}
use Rattle.std.proofs.lemmas.Nat.Bits.{bit_at-lt, bit_at-zero, bit_at_or, bit_at_set_same}
use Rattle.std.proofs.lemmas.Nat.Bits.{bit_at_set_other, bit_at_clear_same, bit_at_clear_other}
use native.Mathlib.Decide.{dec_le}
use lib.ListN.{length-replicate}
use mir.Syntax.{w64}
use Rattle.numa_machine.specs.declared.frame.Frame.{Frame}
use Rattle.numa_pool.specs.Frames.{frame_of, is_frame, one_if, times, bit_in, without}
use Rattle.numa_pool.specs.Order.{Kept}
use Rattle.numa_pool.proofs.Ordering.{opens_order}
use Rattle.numa_pool.specs.Seats.{Marks}
use Rattle.numa_pool.specs.Steps.{newcomer, frame_at}
use Rattle.numa_pool.proofs.Totals.{Changed, changes, times_append}
use Rattle.numa_pool.proofs.StepLemmas.{frame_at-is}
use Rattle.numa_pool.proofs.Totals.{times_without-here, times_without-else, times_without-le}
use Rattle.numa_pool.proofs.Totals.{is_frame-same}

frame_here : (n k : ℕ) → k < 4096 → frame_at (64 * n + k / 64) (k % 64) ≡ frame_of n k
frame_here n k low = let whole : 64 * (k / 64) + k % 64 ≡ k = omega arith in
    frame_at-is n (k / 64) (k % 64) (omega arith) ∙ ap (frame_of n) whole

module _ (bits : List ℕ) (m j : ℕ) (fits : 64 * m + 64 ≤ length bits) (number : j < 4096) where
  abbrev i : ℕ
  i = 64 * m + j / 64

  abbrev b : ℕ
  b = j % 64

  abbrev x : ℕ
  x = slice_index bits i

  abbrev marked : ℕ
  marked = bit_or x (1 * 2 ^ b % 2 ^ 64)

  abbrev unmarked : ℕ
  unmarked = bit_and x (bit_not w64 (1 * 2 ^ b % 2 ^ 64))

  pub mark-bits : (n k : ℕ) → k < 4096 → bit_in (set bits i marked) n k ≡ max (bit_in bits n k)
      (one_if (is_frame (frame_of m j) n k))
  mark-bits n k low =
      subst (λ (f : Frame). bit_in (set bits i marked) n k ≡ max (bit_in bits n k)
      (one_if (is_frame f n k))) (frame_here m j number)
      (by (changes bits i b marked (omega arith) (omega arith)
      (λ d l a. bit_at_set_other w64 x b (omega arith) d a) n k low))
    where
      by : Changed bits i b marked n k → bit_in (set bits i marked) n k ≡ max (bit_in bits n k)
          (one_if (is_frame (frame_at i b) n k))
      by (inl t) = let w : one_if (is_frame (frame_at i b) n k) ≡ 1 = ap one_if t.0 in let s =
          bit_at_set_same w64 x b (omega arith) in let l = bit_at-lt x b in
          rw (t.1, t.2, w) (omega arith)
      by (inr t) = let w : one_if (is_frame (frame_at i b) n k) ≡ 0 = ap one_if t.0 in
          rw (t.1, w) (omega arith)

  pub unmark-bits : (n k : ℕ) → k < 4096 → bit_in (set bits i unmarked) n k ≡ min (bit_in bits n k)
      (1 - one_if (is_frame (frame_of m j) n k))
  unmark-bits n k low =
      subst (λ (f : Frame). bit_in (set bits i unmarked) n k ≡ min (bit_in bits n k)
      (1 - one_if (is_frame f n k))) (frame_here m j number)
      (by (changes bits i b unmarked (omega arith) (omega arith)
      (λ d l a. bit_at_clear_other w64 x b (omega arith) d l a) n k low))
    where
      by : Changed bits i b unmarked n k → bit_in (set bits i unmarked) n k ≡ min (bit_in bits n k)
          (1 - one_if (is_frame (frame_at i b) n k))
      by (inl t) = let w : one_if (is_frame (frame_at i b) n k) ≡ 1 = ap one_if t.0 in let s =
          bit_at_clear_same w64 x b (omega arith) in rw (t.1, t.2, w) (omega arith)
      by (inr t) = let w : one_if (is_frame (frame_at i b) n k) ≡ 0 = ap one_if t.0 in let l =
          bit_at-lt (slice_index bits (64 * n + k / 64)) (k % 64) in rw (t.1, w) (omega arith)

pub marks_without : (width : ℕ) (bits now : List ℕ) (held : List Frame) (f : Frame)
    → length now ≡ width
    → ((n k : ℕ) → k < 4096 → bit_in now n k ≡ min (bit_in bits n k) (1 - one_if (is_frame f n k)))
    → Marks width bits held → Marks width now (without f.node f.number held)
marks_without width bits now held f wide all h = record {
  words = wide;
  exact = λ n k l. rw (all n k l) (by n k (h.exact n k l) (is_frame f n k) refl);
  low = λ n k l. let b = h.low n k l in let s = times_without-le f.node f.number n k held in
      omega arith;
}
  where
    by : (n k : ℕ) → bit_in bits n k ≡ min 1 (times n k held) → (t : Bool) → is_frame f n k ≡ t
        → min (bit_in bits n k) (1 - one_if t) ≡ min 1 (times n k (without f.node f.number held))
    by n k b true e = let gone : times n k (without f.node f.number held) ≡ 0 =
        is_gone n k (is_frame-same f n k e) in rw gone (omega arith)
      where
        is_gone : (n k : ℕ) → (f.node ≡ n) × (f.number ≡ k)
            → times n k (without f.node f.number held) ≡ 0
        is_gone n k same = subst (λ (y : ℕ × ℕ). times n k (without y.0 y.1 held) ≡ 0)
            (λ c. (sym same.0 c, sym same.1 c)) (times_without-here n k held)
    by n k b false e = rw (times_without-else f.node f.number n k held e) (omega arith)

pub marks_both : (width : ℕ) (bits other now : List ℕ) (held more : List Frame) → length now ≡ width
    → ((n k : ℕ) → bit_in now n k ≡ max (bit_in bits n k) (bit_in other n k))
    → Marks width bits held → Marks width other more → Marks width now (held ++ more)
marks_both width bits other now held more wide all h o = record {
  words = wide;
  exact = λ n k l. let a = all n k in let b = h.exact n k l in let c = o.exact n k l in let s =
      times_append n k held more in omega arith;
  low = λ n k l. let b = h.low n k l in let c = o.low n k l in let s = times_append n k held more in
      omega arith;
}

none_in : (words : List ℕ) → ((i : ℕ) → slice_index words i ≡ 0) → (n k : ℕ) → bit_in words n k ≡ 0
none_in words clear n k = ap (λ y. bit_at y (k % 64)) (clear (64 * n + k / 64))
    ∙ bit_at-zero (k % 64)

pub opens : (frames words : List ℕ) → length words ≡ 64 * length frames
    → ((i : ℕ) → slice_index words i ≡ 0) → Kept frames words (newcomer ∷ [])
opens frames words wide clear = record {
  counts =
      record { wide = wide; exact = λ n k l. none_in words clear n k; past = λ n k l. refl };
  in_order = opens_order frames words wide clear;
}

-- words that were joined bit by bit
pub joined : (old other now : List ℕ) → length old ≡ length other → length now ≡ length other
    → ((j : ℕ) → j < length other → get_or now j 0 ≡ bit_or (get_or old j 0) (get_or other j 0))
    → (n k : ℕ) → bit_in now n k ≡ max (bit_in old n k) (bit_in other n k)
joined old other now a c each n k = by (64 * n + k / 64) (dec_le (length other) (64 * n + k / 64))
  where
    by : (j : ℕ) → Dec (length other ≤ j) → bit_at (get_or now j 0) (k % 64)
        ≡ max (bit_at (get_or old j 0) (k % 64)) (bit_at (get_or other j 0) (k % 64))
    by j (no d) = rw (each j (omega arith)) (bit_at_or (get_or old j 0) (get_or other j 0) (k % 64))
    by j (yes d) = rw (
      get_or_past now j 0 (omega arith),
      get_or_past old j 0 (omega arith),
      get_or_past other j 0 (omega arith),
    ) (let z = bit_at-zero (k % 64) in omega arith)

pub blank_at : (m : ℕ) (words : List ℕ) → words ≡ replicate m 0 → (i : ℕ) → slice_index words i ≡ 0
blank_at m words e i = ap (λ w. slice_index w i) e ∙ by (dec_le m i)
  where
    by : Dec (m ≤ i) → slice_index (replicate m 0) i ≡ 0
    by (no d) = get_or-replicate m i 0 0 (omega arith)
    by (yes d) =
        get_or_past (replicate m 0) i 0 (subst (λ (l : ℕ). l ≤ i) (sym (length-replicate m 0)) d)

pub blank_words : (m : ℕ) (words : List ℕ) → words ≡ replicate m 0 → (length words ≡ m)
    × ((i : ℕ) → slice_index words i ≡ 0)
blank_words m words e = (ap length e ∙ length-replicate m 0, blank_at m words e)
