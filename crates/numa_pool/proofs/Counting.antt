-- Counting set bits.
use Rattle.std.proofs.Common.{◌≡◌, ℕ, zero, suc, ◌+◌, ◌*◌, ◌/◌, ◌%◌, ◌<◌, ◌≤◌, List, [], ◌∷◌}
use Rattle.std.proofs.Common.{length, get_or, sym, ap, arith}
use Rattle.std.specs.Prelude.{slice_index}
use Rattle.std.specs.Int.{bit_at}
use Rattle.std.proofs.lemmas.List.{get_or_past}
use native.Mathlib.Decide.{dec_le}
use mathlib.Core.Option.{some, some-ne-none, some-injective}
use lib.ListN.{get_elem?}
use Rattle.numa_machine.specs.declared.frame.Frame.{Frame}
use Rattle.numa_pool.specs.Frames.{bit_in}
use Rattle.numa_pool.specs.Seats.{Marks, IsAllOf}

pub get_or-of : {A : Type 0} (l : List A) (i : ℕ) (a d : A) → get_elem? l i ≡ some a
    → get_or l i d ≡ a
get_or-of [] i a d e = absurd (some-ne-none a (sym e))
get_or-of (x ∷ xs) zero a d e = some-injective x a e
get_or-of (x ∷ xs) (suc i) a d e = get_or-of xs i a d e

pub bit_in-of : (words : List ℕ) (n k x : ℕ) → get_elem? words (64 * n + k / 64) ≡ some x
    → bit_in words n k ≡ bit_at x (k % 64)
bit_in-of words n k x e = ap (λ y. bit_at y (k % 64)) (get_or-of words (64 * n + k / 64) x 0 e)

-- a node with a frame is one of the nodes
pub inside : (frames : List ℕ) (n k : ℕ) → k < slice_index frames n → n < length frames
inside frames n k l = by (dec_le (length frames) n)
  where
    by : Dec (length frames ≤ n) → n < length frames
    by (no d) = omega arith
    by (yes d) = let none : slice_index frames n ≡ 0 = get_or_past frames n 0 d in
        absurd (omega arith)

-- the marks say which taken frames are held
pub all_marked : (width : ℕ) (frames words bits : List ℕ) (held : List Frame)
    → ((n : ℕ) → slice_index frames n ≤ 4096) → Marks width bits held
    → (((n k : ℕ) → n < length frames → k < slice_index frames n → bit_in words n k ≡ 1
    → bit_in bits n k ≡ 1) → IsAllOf frames words held)
    × (IsAllOf frames words held → (n k : ℕ) → n < length frames → k < slice_index frames n
    → bit_in words n k ≡ 1 → bit_in bits n k ≡ 1)
all_marked width frames words bits held low marks = (
  (λ h n k m set. let l = inside frames n k m in let a = h n k l m set in let b = low n in let c =
      marks.exact n k (omega arith) in omega arith),
  (λ h n k l m set. let a = h n k m set in let b = low n in let c = marks.exact n k (omega arith) in
      omega arith),
)
