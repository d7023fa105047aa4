-- What a step finds taken is what its step meets.
use Rattle.std.proofs.Common.{◌≡◌, ℕ, ◌+◌, ◌*◌, ◌/◌, ◌%◌, ◌<◌, List, ◌∷◌, Bool, true, false, Option}
use Rattle.std.proofs.Common.{Some, None, is_some, refl, sym, ap, ◌∙◌, arith, eq-eqb, ne_eqb}
use Rattle.std.specs.Prelude.{slice_index, ◌==◌, ◌&&◌, ◌||◌}
use Rattle.std.specs.Int.{bit_at}
use native.Mathlib.Decide.{ℕ_discrete}
use Rattle.numa_core.specs.World.{Setup, World, FrameSearch, frame_search_after_look}
use Rattle.numa_core.specs.World.{frame_search_past}
use Rattle.numa_machine.specs.declared.frame.Frame.{Frame}
use Rattle.numa_pool.specs.declared.view.Entry.{Entry}
use Rattle.numa_pool.specs.declared.view.Entry.TheVariants.{Load, Lost}
use Rattle.numa_pool.specs.declared.view.View.{View}
use Rattle.numa_pool.specs.Frames.{is_frame, bit_in}
use Rattle.numa_pool.specs.Rule.{PoolRule}
use Rattle.numa_pool.specs.Walk.{shows, IsCurrent}
use Rattle.numa_refinement.proofs.Current.{current}
use Rattle.numa_refinement.specs.Tie.{OwnsWhatIsHeld, HasMet}

module _ (s : Setup) (world : World) (words : List ℕ) (views : List View)
    (rule : PoolRule s.machine.frames words views) (ties : OwnsWhatIsHeld world views) where
  pub owned : (n k : ℕ) (o : Option ℕ) → world.owner n k ≡ o → k < 4096
      → is_some o ≡ (bit_in words n k == 1)
  owned n k (Some id) e low =
      sym (eq-eqb (bit_in words n k) 1
      ((rule.set_where_held n k low).1 (let h = (ties n k id).0 e in (id, h.0, h.1, h.2))))
  owned n k None e low = by (ℕ_discrete (bit_in words n k) 1)
    where
      by : Dec (bit_in words n k ≡ 1) → false ≡ (bit_in words n k == 1)
      by (no d) = sym (ne_eqb (bit_in words n k) 1 d)
      by (yes d) =
          let h = (rule.set_where_held n k low).0 d in
          let o : world.owner n k ≡ Some h.0 = (ties n k h.0).1 (h.1, h.2, h.3) in
          absurd (cc)

  -- a load of a word of the current node is a Look at it: it meets the same frames
  pub looks_alike : (frame_search : FrameSearch) (es : List Entry) → HasMet frame_search es
      → (n w : ℕ) → w < 64 → IsCurrent s.machine.frames es frame_search.nodes n
      → HasMet (frame_search_after_look s world w frame_search)
      (Load n w (slice_index words (64 * n + w)) ∷ es)
  looks_alike frame_search es same n w low h m k =
      ap (λ b. b || frame_search.met m k)
      (ap (λ b. b && ((k / 64 == w) && is_some (world.owner m k)))
      (current s frame_search es same (λ j. m == j) n h)
      ∙ found (ℕ_discrete n m) (ℕ_discrete w (k / 64)))
      ∙ ap (λ b. shows (Load n w (slice_index words (64 * n + w))) m k || b) (same m k)
    where
      both_true : (a b c d x y : Bool) → a ≡ true → b ≡ true → c ≡ true → d ≡ true → x ≡ y
          → (a && (b && x)) ≡ (c && (d && y))
      both_true true true true true x y p q r t e = e
      both_true true true true false x y p q r t e = absurd (cc)
      both_true true true false d x y p q r t e = absurd (cc)
      both_true true false c d x y p q r t e = absurd (cc)
      both_true false b c d x y p q r t e = absurd (cc)

      first_false : (a b c d x y : Bool) → a ≡ false → c ≡ false → (a && (b && x)) ≡ (c && (d && y))
      first_false false b false d x y p q = refl
      first_false false b true d x y p q = absurd (cc)
      first_false true b c d x y p q = absurd (cc)

      second_false : (a b c d x y : Bool) → b ≡ false → d ≡ false
          → (a && (b && x)) ≡ (c && (d && y))
      second_false true false true false x y p q = refl
      second_false true false false false x y p q = refl
      second_false false false true false x y p q = refl
      second_false false false false false x y p q = refl
      second_false a false c true x y p q = absurd (cc)
      second_false a true c d x y p q = absurd (cc)

      found : Dec (n ≡ m) → Dec (w ≡ k / 64)
          → ((m == n) && ((k / 64 == w) && is_some (world.owner m k)))
          ≡ shows (Load n w (slice_index words (64 * n + w))) m k
      found (no d) e = first_false (m == n) (k / 64 == w) (n == m) (w == k / 64)
          (is_some (world.owner m k)) (bit_at (slice_index words (64 * n + w)) (k % 64) == 1)
          (ne_eqb m n (λ t. d (sym t))) (ne_eqb n m d)
      found (yes d) (no e) = second_false (m == n) (k / 64 == w) (n == m) (w == k / 64)
          (is_some (world.owner m k)) (bit_at (slice_index words (64 * n + w)) (k % 64) == 1)
          (ne_eqb (k / 64) w (λ t. e (sym t))) (ne_eqb w (k / 64) e)
      found (yes d) (yes e) =
          both_true (m == n) (k / 64 == w) (n == m) (w == k / 64) (is_some (world.owner m k))
          (bit_at (slice_index words (64 * n + w)) (k % 64) == 1)
          (eq-eqb m n (sym d)) (eq-eqb (k / 64) w (sym e)) (eq-eqb n m d) (eq-eqb w (k / 64) e)
          (owned m k (world.owner m k) refl (omega arith)
          ∙ ap (λ (p : ℕ × ℕ). bit_at (slice_index words (64 * p.0 + p.1)) (k % 64) == 1)
          (λ i. (sym d i, sym e i)))

pub eq_turned : (a b : ℕ) → (a == b) ≡ (b == a)
eq_turned a b = by (ℕ_discrete a b)
  where
    by : Dec (a ≡ b) → (a == b) ≡ (b == a)
    by (yes e) = eq-eqb a b e ∙ sym (eq-eqb b a (sym e))
    by (no d) = ne_eqb a b d ∙ sym (ne_eqb b a (λ e. d (sym e)))

-- a lost try is a Try that finds the frame with an owner: it meets the same frame
pub misses_alike : (frame_search : FrameSearch) (es : List Entry) (f : Frame)
    → HasMet frame_search es → HasMet (frame_search_past f frame_search) (Lost f ∷ es)
misses_alike frame_search es f same n k =
    ap (λ (p : Bool × Bool). (p.0 && p.1) || frame_search.met n k)
    (λ i. (eq_turned n f.node i, eq_turned k f.number i))
    ∙ ap (λ b. is_frame f n k || b) (same n k)
