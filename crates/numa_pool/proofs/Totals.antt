-- Each step keeps the counts.
use Rattle.std.proofs.Common.{◌≡◌, ◌≢◌, ◌⊎◌, ℕ, zero, suc, ◌+◌, ◌*◌, ◌/◌, ◌%◌, ◌<◌, ◌≤◌, List}
use Rattle.std.proofs.Common.{[], ◌∷◌, ◌++◌, length, set, inl, inr, Bool, true, false, cond, refl}
use Rattle.std.proofs.Common.{sym, ap, ◌∙◌, subst, arith, length-set, get_or-set_other}
use Rattle.std.proofs.Common.{get_or-set_same, eq-eqb, ne_eqb, eqb-true}
use Rattle.std.specs.Prelude.{slice_index, ◌==◌, ◌&&◌}
use Rattle.std.specs.Int.{bit_at}
use Rattle.std.proofs.lemmas.List.{set-get_or}
use Rattle.std.proofs.lemmas.Nat.Bits.{bit_at-lt}
use mathlib.Core.Option.{some, some-ne-none, some-injective}
use native.Mathlib.Decide.{ℕ_discrete}
use lib.ListN.{get_elem?}
use Rattle.numa_machine.specs.declared.frame.Frame.{Frame}
use Rattle.numa_pool.specs.declared.view.View.{View}
use Rattle.numa_pool.specs.Frames.{frame_of, is_frame, one_if, times, bit_in, without}
use Rattle.numa_pool.specs.Rule.{total, holdings, Counted}
use Rattle.numa_pool.specs.Steps.{newborn, newcomer, spent, after_try, after_give, after_split}
use Rattle.numa_pool.specs.Steps.{after_join, frame_at}

-- the total after a change of one view
pub total_set : (h : View → ℕ) (views : List View) (id : ℕ) (v w : View)
    → get_elem? views id ≡ some v → total h (set views id w) + h v ≡ total h views + h w
total_set h [] id v w e = absurd (some-ne-none v (sym e))
total_set h (x ∷ xs) zero v w e = let same : h x ≡ h v = ap h (some-injective x v e) in omega arith
total_set h (x ∷ xs) (suc id) v w e = let rest = total_set h xs id v w e in omega arith

pub total_snoc : (h : View → ℕ) (views : List View) (w : View) → total h (views ++ w ∷ [])
    ≡ total h views + h w
total_snoc h [] w = omega arith
total_snoc h (x ∷ xs) w = let rest = total_snoc h xs w in omega arith

pub times_append : (n k : ℕ) (fs gs : List Frame) → times n k (fs ++ gs) ≡ times n k fs + times n k
    gs
times_append n k [] gs = omega arith
times_append n k (f ∷ fs) gs = let rest = times_append n k fs gs in omega arith

module _ (frames words : List ℕ) (views : List View) (id : ℕ) (v : View)
    (at : get_elem? views id ≡ some v) (r : Counted frames words views) where
  -- a step that writes one word and changes one view
  pub moves : (i x : ℕ) (w : View)
      → ((n k : ℕ) → k < 4096 → bit_in (set words i x) n k + times n k v.held ≡ bit_in words n k
      + times n k w.held)
      → ((n k : ℕ) → slice_index frames n ≤ k → times n k w.held ≤ times n k v.held)
      → Counted frames (set words i x) (set views id w)
  moves i x w exact past = record {
    wide = length-set words i x ∙ r.wide;
    exact = λ n k low.
        let t = total_set (λ u. times n k u.held) views id v w at in
        let before = r.exact n k low in
        let now = exact n k low in
        omega arith;
    past = λ n k high.
        let t = total_set (λ u. times n k u.held) views id v w at in
        let before = r.past n k high in
        let now = past n k high in
        omega arith;
  }

  -- a step that changes neither words nor frames
  pub stays : (i : ℕ) (w : View) → w.held ≡ v.held
      → Counted frames (set words i (slice_index words i)) (set views id w)
  stays i w same = moves i (slice_index words i) w
      (λ n k low.
      let words_same = ap (λ ws. bit_in ws n k) (set-get_or words i 0) in
      let t = ap (times n k) same in
      omega arith)
      (λ n k high. let t = ap (times n k) same in omega arith)

pub and_true : (a b : Bool) → a ≡ true → b ≡ true → (a && b) ≡ true
and_true true b p q = q
and_true false b p q = p

pub and_false : (a b : Bool) → b ≡ false → (a && b) ≡ false
and_false true b q = q
and_false false b q = refl

pub and_false_first : (a b : Bool) → a ≡ false → (a && b) ≡ false
and_false_first true b q = absurd (cc)
and_false_first false b q = refl

-- the frame of bit b of the word i is the frame k of node n just where word and bit are the same
place_no_word : (n k i b : ℕ) → k < 4096 → b < 64 → 64 * n + k / 64 ≢ i → Dec (i / 64 ≡ n)
    → is_frame (frame_at i b) n k ≡ false
place_no_word n k i b low small apart (yes e) = and_false (i / 64 == n) (64 * (i % 64) + b == k)
    (ne_eqb (64 * (i % 64) + b) k (λ h. apart (omega arith)))
place_no_word n k i b low small apart (no e) =
    and_false_first (i / 64 == n) (64 * (i % 64) + b == k) (ne_eqb (i / 64) n e)

abbrev Placed : ℕ → ℕ → ℕ → ℕ → Type 0
Placed n k i b = ((64 * n + k / 64 ≡ i) × (k % 64 ≡ b) × (is_frame (frame_at i b) n k ≡ true))
    ⊎ (((64 * n + k / 64 ≢ i) ⊎ (k % 64 ≢ b)) × (is_frame (frame_at i b) n k ≡ false))

place : (n k i b : ℕ) → k < 4096 → b < 64 → Dec (64 * n + k / 64 ≡ i) → Dec (k % 64 ≡ b)
    → Placed n k i b
place n k i b low small (yes e) (yes d) =
    inl (
      e,
      d,
      and_true (i / 64 == n) (64 * (i % 64) + b == k) (eq-eqb (i / 64) n (omega arith))
          (eq-eqb (64 * (i % 64) + b) k (omega arith)),
    )
place n k i b low small (no e) d =
    inr (inl e, place_no_word n k i b low small e (ℕ_discrete (i / 64) n))
place n k i b low small (yes e) (no d) =
    inr (
      inr d,
      and_false (i / 64 == n) (64 * (i % 64) + b == k)
          (ne_eqb (64 * (i % 64) + b) k (λ h. d (omega arith))),
    )

pub is_frame-same : (f : Frame) (n k : ℕ) → is_frame f n k ≡ true → (f.node ≡ n) × (f.number ≡ k)
is_frame-same f n k t = pick (f.node == n) (f.number == k) refl refl t
  where
    pick : (a c : Bool) → (f.node == n) ≡ a → (f.number == k) ≡ c → (a && c) ≡ true → (f.node ≡ n)
        × (f.number ≡ k)
    pick true true p q t = (eqb-true f.node n p, eqb-true f.number k q)
    pick true false p q t = absurd (cc)
    pick false c p q t = absurd (cc)

pub times_without-here : (n k : ℕ) (fs : List Frame) → times n k (without n k fs) ≡ 0
times_without-here n k [] = refl
times_without-here n k (f ∷ fs) = pick (is_frame f n k) refl (times_without-here n k fs)
  where
    pick : (a : Bool) → is_frame f n k ≡ a → times n k (without n k fs) ≡ 0
        → times n k (cond a (without n k fs) (f ∷ without n k fs)) ≡ 0
    pick true e rest = rest
    pick false e rest = let zero_w : one_if (is_frame f n k) ≡ 0 = ap one_if e in omega arith

pub times_without-else : (m j n k : ℕ) (fs : List Frame) → is_frame (frame_of m j) n k ≡ false
    → times n k (without m j fs) ≡ times n k fs
times_without-else m j n k [] apart = refl
times_without-else m j n k (f ∷ fs) apart =
    pick (is_frame f m j) refl (times_without-else m j n k fs apart)
  where
    pick : (a : Bool) → is_frame f m j ≡ a → times n k (without m j fs) ≡ times n k fs
        → times n k (cond a (without m j fs) (f ∷ without m j fs)) ≡ one_if (is_frame f n k) + times
        n k fs
    pick true e rest =
        let same = is_frame-same f m j e in
        let zero_w : one_if (is_frame f n k) ≡ 0 =
        ap one_if
        (subst (λ (y : ℕ × ℕ). is_frame (frame_of y.0 y.1) n k ≡ false)
        (λ c. (sym same.0 c, sym same.1 c)) apart) in
        omega arith
    pick false e rest = omega arith

pub times_without-le : (m j n k : ℕ) (fs : List Frame) → times n k (without m j fs) ≤ times n k fs
times_without-le m j n k [] = omega arith
times_without-le m j n k (f ∷ fs) = pick (is_frame f m j) (times_without-le m j n k fs)
  where
    pick : (a : Bool) → times n k (without m j fs) ≤ times n k fs
        → times n k (cond a (without m j fs) (f ∷ without m j fs)) ≤ one_if (is_frame f n k) + times
        n k fs
    pick true rest = omega arith
    pick false rest = omega arith

-- what a change of the bit b of the word i does to the bit of a frame
abbrev pub Changed : List ℕ → ℕ → ℕ → ℕ → ℕ → ℕ → Type 0
Changed words i b x n k =
    ((is_frame (frame_at i b) n k ≡ true) × (bit_in (set words i x) n k ≡ bit_at x b)
    × (bit_in words n k ≡ bit_at (slice_index words i) b))
    ⊎ ((is_frame (frame_at i b) n k ≡ false) × (bit_in (set words i x) n k ≡ bit_in words n k))

pub changes : (words : List ℕ) (i b x : ℕ) → i < length words → b < 64
    → ((j : ℕ) → j < 64 → j ≢ b → bit_at x j ≡ bit_at (slice_index words i) j) → (n k : ℕ)
    → k < 4096 → Changed words i b x n k
changes words i b x inside small others n k low =
    from (place n k i b low small (ℕ_discrete (64 * n + k / 64) i) (ℕ_discrete (k % 64) b))
  where
    here : 64 * n + k / 64 ≡ i → slice_index (set words i x) (64 * n + k / 64) ≡ x
    here e = ap (slice_index (set words i x)) e ∙ get_or-set_same words i x 0 inside

    far : Dec (64 * n + k / 64 ≡ i) → ((64 * n + k / 64 ≢ i) ⊎ (k % 64 ≢ b))
        → bit_in (set words i x) n k ≡ bit_in words n k
    far (no e) d = ap (λ y. bit_at y (k % 64)) (get_or-set_other words i (64 * n + k / 64) x 0 e)
    far (yes e) (inl d) = absurd (d e)
    far (yes e) (inr d) = ap (λ y. bit_at y (k % 64)) (here e) ∙ others (k % 64) (omega arith) d
        ∙ ap (λ j. bit_at (slice_index words j) (k % 64)) (sym e)

    from : Placed n k i b → Changed words i b x n k
    from (inl t) = inl (
      t.2,
      ap (λ y. bit_at y (k % 64)) (here t.0) ∙ ap (bit_at x) t.1,
      ap (λ j. bit_at (slice_index words j) (k % 64)) t.0 ∙ ap (bit_at (slice_index words i)) t.1,
    )
    from (inr t) = inr (t.1, far (ℕ_discrete (64 * n + k / 64) i) t.0)

module _ (frames words : List ℕ) (views : List View) (id : ℕ) (v : View)
    (at : get_elem? views id ≡ some v) (r : Counted frames words views) (i b : ℕ)
    (inside : i < 64 * length frames) (small : b < 64) where
  within : i < length words
  within = let w = r.wide in omega arith

  -- how the frame counts at the frame k of node n
  abbrev weight : ℕ → ℕ → ℕ
  weight n k = one_if (is_frame (frame_at i b) n k)

  -- a try that found the frame free
  pub wins : (x : ℕ) → bit_at (slice_index words i) b ≡ 0 → bit_at x b ≡ 1
      → ((j : ℕ) → j < 64 → j ≢ b → bit_at x j ≡ bit_at (slice_index words i) j)
      → 64 * (i % 64) + b < slice_index frames (i / 64)
      → Counted frames (set words i x) (set views id (after_try v (frame_at i b) true))
  wins x clear now others there = moves frames words views id v at r i x
      (after_try v (frame_at i b) true)
      (λ n k low. exact n k (changes words i b x within small others n k low))
      (λ n k high. let zero_w : weight n k ≡ 0 =
      ap one_if (apart n k high (ℕ_discrete (i / 64) n) (ℕ_discrete (64 * (i % 64) + b) k)) in
      omega arith)
    where
      exact : (n k : ℕ) → Changed words i b x n k → bit_in (set words i x) n k + times n k v.held
          ≡ bit_in words n k + (weight n k + times n k v.held)
      exact n k (inl t) = let one : weight n k ≡ 1 = ap one_if t.0 in rw (t.1, t.2) (omega arith)
      exact n k (inr t) = let zero_w : weight n k ≡ 0 = ap one_if t.0 in rw (t.1) (omega arith)

      apart : (n k : ℕ) → slice_index frames n ≤ k → Dec (i / 64 ≡ n) → Dec (64 * (i % 64) + b ≡ k)
          → is_frame (frame_at i b) n k ≡ false
      apart n k high (yes e) (yes d) = let h : slice_index frames (i / 64) ≤ k =
          subst (λ m. slice_index frames m ≤ k) (sym e) high in absurd (omega arith)
      apart n k high (yes e) (no d) = and_false (i / 64 == n) (64 * (i % 64) + b == k)
          (ne_eqb (64 * (i % 64) + b) k d)
      apart n k high (no e) d = and_false_first (i / 64 == n) (64 * (i % 64) + b == k)
          (ne_eqb (i / 64) n e)

  -- a try that found the frame taken
  pub loses : (x : ℕ) → bit_at x b ≡ bit_at (slice_index words i) b
      → ((j : ℕ) → j < 64 → j ≢ b → bit_at x j ≡ bit_at (slice_index words i) j)
      → Counted frames (set words i x) (set views id (after_try v (frame_at i b) false))
  loses x same others = moves frames words views id v at r i x (after_try v (frame_at i b) false)
      (λ n k low. exact n k (changes words i b x within small others n k low))
      (λ n k high. omega arith)
    where
      exact : (n k : ℕ) → Changed words i b x n k → bit_in (set words i x) n k + times n k v.held
          ≡ bit_in words n k + times n k v.held
      exact n k (inl t) = ap (λ y. y + times n k v.held) (t.1 ∙ same ∙ sym t.2)
      exact n k (inr t) = ap (λ y. y + times n k v.held) t.1

  -- the frame is given up
  pub gives_up : (x : ℕ) → 0 < times (i / 64) (64 * (i % 64) + b) v.held → bit_at x b ≡ 0
      → ((j : ℕ) → j < 64 → j ≢ b → bit_at x j ≡ bit_at (slice_index words i) j)
      → Counted frames (set words i x) (set views id (after_give v (frame_at i b)))
  gives_up x mine now others = moves frames words views id v at r i x (after_give v (frame_at i b))
      (λ n k low. exact n k low (changes words i b x within small others n k low))
      (λ n k high. times_without-le (i / 64) (64 * (i % 64) + b) n k v.held)
    where
      exact : (n k : ℕ) → k < 4096 → Changed words i b x n k
          → bit_in (set words i x) n k + times n k v.held ≡ bit_in words n k + times n k
          (without (i / 64) (64 * (i % 64) + b) v.held)
      exact n k low (inl t) =
          let same = is_frame-same (frame_at i b) n k t.0 in
          let some_held : 0 < times n k v.held = subst (λ (y : ℕ × ℕ). 0 < times y.0 y.1 v.held)
          (λ c. (same.0 c, same.1 c)) mine in
          let gone : times n k (without (i / 64) (64 * (i % 64) + b) v.held) ≡ 0 =
          subst (λ (y : ℕ × ℕ). times n k (without y.0 y.1 v.held) ≡ 0)
          (λ c. (sym same.0 c, sym same.1 c)) (times_without-here n k v.held) in
          let most = total_set (λ u. times n k u.held) views id v newcomer at in
          let before : bit_in words n k ≡ holdings n k views = r.exact n k low in
          let one : bit_in words n k < 2 = bit_at-lt (slice_index words (64 * n + k / 64))
          (k % 64) in
          let zero_w : bit_in (set words i x) n k ≡ 0 = t.1 ∙ now in
          rw (zero_w, gone) (omega arith)
      exact n k low (inr t) =
          rw (t.1, times_without-else (i / 64) (64 * (i % 64) + b) n k v.held t.0) refl

pub counts_split : (frames words : List ℕ) (views : List View) (id : ℕ) (v : View)
    → get_elem? views id ≡ some v → Counted frames words views
    → Counted frames words (set views id (after_split v) ++ newborn v ∷ [])
counts_split frames words views id v at r = record {
  wide = r.wide;
  exact = λ n k low.
      let t = total_snoc (λ u. times n k u.held) (set views id (after_split v)) (newborn v) in
      let u = total_set (λ u. times n k u.held) views id v (after_split v) at in
      let b = r.exact n k low in
      omega arith;
  past = λ n k high.
      let t = total_snoc (λ u. times n k u.held) (set views id (after_split v)) (newborn v) in
      let u = total_set (λ u. times n k u.held) views id v (after_split v) at in
      let b = r.past n k high in
      omega arith;
}

pub counts_join : (frames words : List ℕ) (views : List View) (id : ℕ) (v : View)
    → get_elem? views id ≡ some v → (other : ℕ) (w : View)
    → get_elem? (set views id (after_join v w)) other ≡ some w → Counted frames words views
    → Counted frames words (set (set views id (after_join v w)) other spent)
counts_join frames words views id v at other w there r = record {
  wide = r.wide;
  exact = λ n k low.
      let t = total_set (λ u. times n k u.held) views id v (after_join v w) at in
      let u = total_set (λ u. times n k u.held) (set views id (after_join v w)) other w spent
      there in
      let both = times_append n k v.held w.held in
      let b = r.exact n k low in
      omega arith;
  past = λ n k high.
      let t = total_set (λ u. times n k u.held) views id v (after_join v w) at in
      let u = total_set (λ u. times n k u.held) (set views id (after_join v w)) other w spent
      there in
      let both = times_append n k v.held w.held in
      let b = r.past n k high in
      omega arith;
}
