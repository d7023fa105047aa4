-- Each step keeps the rule.
use Rattle.std.proofs.Common.{◌≡◌, ◌⊎◌, ℕ, ◌+◌, ◌*◌, ◌/◌, ◌%◌, ◌^◌, ◌<◌, ◌≤◌, List}
use Rattle.std.proofs.Common.{length, set, inl, inr, true, false, refl}
use Rattle.std.proofs.Common.{sym, ap, ◌∙◌, subst, arith}
use Rattle.std.specs.Prelude.{slice_index, slice_set, ◌==◌, bit_or, bit_and}
use Rattle.std.specs.Int.{bit_at, bit_not}
use Rattle.std.proofs.lemmas.List.{set-get_or}
use Rattle.std.proofs.lemmas.Nat.{one_shl, pow_below}
use Rattle.std.proofs.lemmas.Nat.Bits.{bit_at-lt, bit_at_set_same, bit_at_set_other}
use Rattle.std.proofs.lemmas.Nat.Bits.{bit_at_clear_same, bit_at_clear_other, bit_at-pow_same}
use Rattle.std.proofs.lemmas.Nat.Bits.{bit_at-pow_other}
use mathlib.Core.Option.{some, none}
use native.Mathlib.Decide.{ℕ_discrete, dec_le}
use lib.ListN.{get_elem?}
use mir.Syntax.{w64}
use Rattle.atomic_table.specs.Table.{State, Me, step, keeps, Allows, Splits, Joins}
use Rattle.numa_pool.specs.declared.view.Entry.TheVariants.{Load, Won, Lost, Gave}
use Rattle.numa_pool.specs.declared.view.View.{View}
use Rattle.numa_pool.specs.Frames.{frame_of, times, bit_in, IsOnce}
use Rattle.numa_pool.specs.Order.{InOrder, Kept, word_of, mask_of}
use Rattle.numa_pool.proofs.Joining.{joins_order}
use Rattle.numa_pool.proofs.Ordering.{logs_step, checks_order}
use Rattle.numa_pool.proofs.Splitting.{splits_order}
use Rattle.numa_pool.specs.Rule.{holdings, Counted}
use Rattle.numa_pool.specs.Steps.{newborn, newcomer, spent, with_entry, after_try, after_give}
use Rattle.numa_pool.specs.Steps.{after_split}
use Rattle.numa_pool.specs.Steps.{after_join, after_check, frame_at, IsLook, IsCheck, IsAttempt}
use Rattle.numa_pool.specs.Steps.{IsReturn}
use Rattle.numa_pool.proofs.Totals.{total_set, stays, wins, loses, gives_up, counts_split}
use Rattle.numa_pool.proofs.Totals.{counts_join}

pub pow_same : (b k : ℕ) → 2 ^ b ≡ 2 ^ k → b ≡ k
pow_same b k e = pick (ℕ_discrete k b)
  where
    pick : Dec (k ≡ b) → b ≡ k
    pick (yes d) = sym d
    pick (no d) = let one = bit_at-pow_same k in let none = bit_at-pow_other b k d in
        let same : bit_at (2 ^ b) k ≡ bit_at (2 ^ k) k = ap (λ y. bit_at y k) e in
        absurd (omega arith)

abbrev Bit : ℕ → Type 0
Bit y = (y ≡ 0) ⊎ (y ≡ 1)

is_bit : (n k : ℕ) → Bit (bit_at n k)
is_bit n k = pick (ℕ_discrete (bit_at n k) 0)
  where
    pick : Dec (bit_at n k ≡ 0) → Bit (bit_at n k)
    pick (yes e) = inl e
    pick (no e) = let l = bit_at-lt n k in inr (omega arith)

-- a frame that one seat holds is held
mine_held : (views : List View) (id : ℕ) (v : View) → get_elem? views id ≡ some v → (n k : ℕ)
    → 0 < times n k v.held → 0 < holdings n k views
mine_held views id v at n k mine =
    let most = total_set (λ u. times n k u.held) views id v newcomer at in omega arith

-- the bit of a frame that a seat holds is set, and it is a frame of its node
set_and_inside : (frames words : List ℕ) (views : List View) (id : ℕ) (v : View)
    → get_elem? views id ≡ some v → Counted frames words views → (n k : ℕ) → k < 4096
    → 0 < times n k v.held → (k < slice_index frames n) × (bit_in words n k ≡ 1)
set_and_inside frames words views id v at r n k low mine = (
  by (dec_le (slice_index frames n) k),
  (let e = r.exact n k low in let l : bit_in words n k < 2 = bit_at-lt _ _ in let m =
      mine_held views id v at n k mine in omega arith),
)
  where
    by : Dec (slice_index frames n ≤ k) → k < slice_index frames n
    by (no d) = omega arith
    by (yes high) = let e = r.past n k high in let m = mine_held views id v at n k mine in
        absurd (omega arith)

-- no seat holds a frame twice
held_once : (frames words : List ℕ) (views : List View) (id : ℕ) (v : View)
    → get_elem? views id ≡ some v → Counted frames words views
    → ((n : ℕ) → slice_index frames n ≤ 4096) → IsOnce v.held
held_once frames words views id v at r few n k = by (dec_le 4096 k)
  where
    by : Dec (4096 ≤ k) → times n k v.held ≤ 1
    by (yes d) = let l = few n in let p = r.past n k (omega arith) in let m =
        total_set (λ u. times n k u.held) views id v newcomer at in omega arith
    by (no d) = let e = r.exact n k (omega arith) in let l : bit_in words n k < 2 =
        bit_at-lt _ _ in let m = total_set (λ u. times n k u.held) views id v newcomer at in
        omega arith

pub word_is : (i b : ℕ) → b < 64 → word_of (frame_at i b) ≡ i
word_is i b small = omega arith

pub mask_is : (i b : ℕ) → b < 64 → mask_of (frame_at i b) ≡ 1 * 2 ^ b % 2 ^ 64
mask_is i b small = let e : (64 * (i % 64) + b) % 64 ≡ b = omega arith in
    ap (λ y. 2 ^ y) e ∙ sym (one_shl b 64 small)

bit_is : (words : List ℕ) (i b : ℕ) → b < 64
    → bit_in words (i / 64) (64 * (i % 64) + b) ≡ bit_at (slice_index words i) b
bit_is words i b small =
    let w : 64 * (i / 64) + (64 * (i % 64) + b) / 64 ≡ i = omega arith in
    let e : (64 * (i % 64) + b) % 64 ≡ b = omega arith in
    λ j. bit_at (slice_index words (w j)) (e j)

module _ {S : Type 0} (frames : List ℕ) (slots id : ℕ) (me : Me S View) (live : me.0.gone ≡ false)
    (i : ℕ) where
  abbrev Rule : State S View → Type 0
  Rule s = Kept frames s.words s.views

  unchanged : (words : List ℕ) → set words i (slice_index words i) ≡ words
  unchanged words = set-get_or words i 0

  pub looks : i < 64 * length frames
      → Allows Rule slots id me i (λ n. n) (IsLook (step slots i 0 0 none) me)
  looks inside s r deep at fits =
      let e = Load (i / 64) (i % 64) (slice_index s.words i) in
      let w = with_entry me.0 e in
      let place : i ≡ 64 * (i / 64) + i % 64 = omega arith in (
        w,
        keeps,
        tt,
        record {
          counts = stays frames s.words s.views id me.0 at r.counts i w refl;
          in_order = subst (λ (ws : List ℕ). InOrder frames ws (set s.views id w))
              (sym (unchanged s.words))
              (logs_step frames s.words s.views id me.0 at live r.in_order e w
              (omega arith, omega arith, ap (slice_index s.words) place) refl refl);
        },
        refl,
      )

  pub checks : ((n : ℕ) → slice_index frames n ≤ 4096)
      → Allows Rule slots id me i (λ n. n) (IsCheck (step slots i 0 0 none) me)
  checks few s r deep at fits = let w = after_check me.0 in (
    w,
    keeps,
    tt,
    record {
      counts = stays frames s.words s.views id me.0 at r.counts i w refl;
      in_order = subst (λ (ws : List ℕ). InOrder frames ws (set s.views id w))
          (sym (unchanged s.words))
          (checks_order frames s.words s.views id me.0 at live r.in_order);
    },
    (refl, held_once frames s.words s.views id me.0 at r.counts few),
  )

  module _ (inside : i < 64 * length frames) (b : ℕ) (small : b < 64) where
    abbrev set_mask : ℕ
    set_mask = 1 * 2 ^ b % 2 ^ 64

    abbrev clear_mask : ℕ
    clear_mask = bit_not w64 set_mask

    abbrev after : ℕ → View
    after x = after_try me.0 (frame_at i b) (bit_at x b == 0)

    abbrev tried_at : ℕ → ℕ → Me S View
    tried_at x j = (after_try me.0 (frame_at i j) (bit_at x j == 0), me.1)

    abbrev gave_at : ℕ → Me S View
    gave_at j = (after_give me.0 (frame_at i j), me.1)

    rules : 64 * (i % 64) + b < slice_index frames (i / 64) → (s : State S View) → Rule s
        → get_elem? s.views id ≡ some me.0 → Bit (bit_at (slice_index s.words i) b)
        → Counted frames (set s.words i (bit_or (slice_index s.words i) set_mask))
        (set s.views id (after (slice_index s.words i)))
    rules there s r at (inl e) =
        rw e
        (wins frames s.words s.views id me.0 at r.counts i b inside small
        (bit_or (slice_index s.words i) set_mask) e
        (bit_at_set_same w64 (slice_index s.words i) b small)
        (λ j l d. bit_at_set_other w64 (slice_index s.words i) b small j d) there)
    rules there s r at (inr e) =
        rw e
        (loses frames s.words s.views id me.0 at r.counts i b inside small
        (bit_or (slice_index s.words i) set_mask)
        (bit_at_set_same w64 (slice_index s.words i) b small ∙ sym e)
        (λ j l d. bit_at_set_other w64 (slice_index s.words i) b small j d))

    set_so : (words : List ℕ)
        → slice_set words (word_of (frame_at i b))
        (bit_or (slice_index words (word_of (frame_at i b))) (mask_of (frame_at i b)))
        ≡ set words i (bit_or (slice_index words i) set_mask)
    set_so words = λ c.
        set words (word_is i b small c)
        (bit_or (slice_index words (word_is i b small c)) (mask_is i b small c))

    cleared_so : (words : List ℕ)
        → slice_set words (word_of (frame_at i b))
        (bit_and (slice_index words (word_of (frame_at i b)))
        (bit_not w64 (mask_of (frame_at i b))))
        ≡ set words i (bit_and (slice_index words i) clear_mask)
    cleared_so words = λ c.
        set words (word_is i b small c)
        (bit_and (slice_index words (word_is i b small c)) (bit_not w64 (mask_is i b small c)))

    orders : 64 * (i % 64) + b < slice_index frames (i / 64) → (s : State S View) → Rule s
        → get_elem? s.views id ≡ some me.0 → Bit (bit_at (slice_index s.words i) b)
        → InOrder frames (set s.words i (bit_or (slice_index s.words i) set_mask))
        (set s.views id (after (slice_index s.words i)))
    orders there s r at (inl e) =
        rw e
        (subst (λ (ws : List ℕ). InOrder frames ws
        (set s.views id (after_try me.0 (frame_at i b) true))) (set_so s.words)
        (logs_step frames s.words s.views id me.0 at live r.in_order (Won (frame_at i b))
        (after_try me.0 (frame_at i b) true) (there, bit_is s.words i b small ∙ e) refl refl))
    orders there s r at (inr e) =
        rw e
        (subst (λ (ws : List ℕ). InOrder frames ws
        (set s.views id (after_try me.0 (frame_at i b) false))) (set_so s.words)
        (logs_step frames s.words s.views id me.0 at live r.in_order (Lost (frame_at i b))
        (after_try me.0 (frame_at i b) false) (there, bit_is s.words i b small ∙ e) refl refl))

    abbrev Free : ℕ → ℕ → Type 0
    Free x j = bit_at x j ≡ 0 → times (i / 64) (64 * (i % 64) + j) me.0.held ≡ 0

    -- a frame whose bit is clear is held by no seat, so not by this one
    free : (s : State S View) → Rule s → get_elem? s.views id ≡ some me.0
        → Free (slice_index s.words i) b
    free s r at clear =
        let word_is : 64 * (i / 64) + (64 * (i % 64) + b) / 64 ≡ i = omega arith in
        let bit_is : (64 * (i % 64) + b) % 64 ≡ b = omega arith in
        let same : bit_in s.words (i / 64) (64 * (i % 64) + b) ≡ bit_at (slice_index s.words i) b =
        λ j. bit_at (slice_index s.words (word_is j)) (bit_is j) in
        let rest = total_set (λ u. times (i / 64) (64 * (i % 64) + b) u.held) s.views id me.0
        newcomer at in
        let now = r.counts.exact (i / 64) (64 * (i % 64) + b) (omega arith) in
        omega arith

    told : (x : ℕ) → Free x b → IsAttempt (step slots i set_mask 0 none) me x (after x, me.1)
    told x none_held k l e = let same = pow_same b k (sym (one_shl b 64 small) ∙ e) in
        (ap (tried_at x) same, subst (Free x) same none_held)

    pub tries : 64 * (i % 64) + b < slice_index frames (i / 64)
        → Allows Rule slots id me i (λ n. bit_or n set_mask)
        (IsAttempt (step slots i set_mask 0 none) me)
    tries there s r deep at fits = (
      after (slice_index s.words i),
      keeps,
      tt,
      record {
        counts = rules there s r at (is_bit (slice_index s.words i) b);
        in_order = orders there s r at (is_bit (slice_index s.words i) b);
      },
      told (slice_index s.words i) (free s r at),
    )

    told_gave : (x : ℕ) → IsReturn (step slots i clear_mask 0 none) me x
        (after_give me.0 (frame_at i b), me.1)
    told_gave x k l e =
        let mask = one_shl b 64 small in
        let p = pow_below b 64 small in
        let q = pow_below k 64 l in
        let same : 2 ^ b ≡ 2 ^ k = omega arith in
        ap gave_at (pow_same b k same)

    pub gives : 0 < times (i / 64) (64 * (i % 64) + b) me.0.held
        → Allows Rule slots id me i (λ n. bit_and n clear_mask)
        (IsReturn (step slots i clear_mask 0 none) me)
    gives mine s r deep at fits = (
      after_give me.0 (frame_at i b),
      keeps,
      tt,
      record {
        counts = gives_up frames s.words s.views id me.0 at r.counts i b inside small
            (bit_and (slice_index s.words i) clear_mask) mine
            (bit_at_clear_same w64 (slice_index s.words i) b small)
            (λ j l d. bit_at_clear_other w64 (slice_index s.words i) b small j l d);
        in_order = subst (λ (ws : List ℕ). InOrder frames ws
            (set s.views id (after_give me.0 (frame_at i b)))) (cleared_so s.words)
            (logs_step frames s.words s.views id me.0 at live r.in_order (Gave (frame_at i b))
            (after_give me.0 (frame_at i b))
            (set_and_inside frames s.words s.views id me.0 at r.counts (i / 64)
            (64 * (i % 64) + b) (omega arith) mine) refl refl);
      },
      told_gave (slice_index s.words i),
    )

pub splits : {S : Type 0} (frames : List ℕ) (id : ℕ) (v : View) → v.gone ≡ false
    → Splits {S = S} (λ s. Kept frames s.words s.views) id v (after_split v) (newborn v)
splits frames id v live s r at = record {
  counts = counts_split frames s.words s.views id v at r.counts;
  in_order = splits_order frames s.words s.views id v at live r.in_order;
}

pub joins : {S : Type 0} (frames : List ℕ) (id : ℕ) (v : View) (other : ℕ) (w : View)
    → v.gone ≡ false → w.gone ≡ false
    → Joins {S = S} (λ s. Kept frames s.words s.views) id v other w (after_join v w) spent
joins frames id v other w live fit s r at apart there = record {
  counts = counts_join frames s.words s.views id v at other w there r.counts;
  in_order = joins_order frames s.words s.views id v at live r.in_order other w apart there fit;
}

pub node_of_word : (n w : ℕ) → w < 64 → (64 * n + w) / 64 ≡ n
node_of_word n w l = omega arith

pub word_of_word : (n w : ℕ) → w < 64 → (64 * n + w) % 64 ≡ w
word_of_word n w l = omega arith

pub frame_at-is : (n w b : ℕ) → w < 64 → frame_at (64 * n + w) b ≡ frame_of n (64 * w + b)
frame_at-is n w b l = λ c. frame_of (node_of_word n w l c) (64 * word_of_word n w l c + b)
