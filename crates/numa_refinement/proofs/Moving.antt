-- What each kind of step leaves: the words, and what the seat shows.
use Rattle.std.proofs.Common.{◌≡◌, ◌≢◌, ℕ, zero, suc, ◌+◌, ◌*◌, ◌/◌, ◌%◌, ◌^◌, ◌<◌, List, [], ◌∷◌}
use Rattle.std.proofs.Common.{length, set, Bool, true, false, refl, sym, ap, ◌∙◌, subst, arith}
use Rattle.std.proofs.Common.{eq-eqb, ne_eqb}
use Rattle.std.specs.Prelude.{slice_index, ◌==◌, bit_or, bit_and}
use Rattle.std.specs.Int.{bit_at, bit_not}
use Rattle.std.proofs.lemmas.Nat.{one_shl}
use Rattle.std.proofs.lemmas.Nat.Bits.{bit_at-lt, bit_at_set_same, bit_at_set_other}
use Rattle.std.proofs.lemmas.Nat.Bits.{bit_at_clear_same, bit_at_clear_other}
use mir.Syntax.{w64}
use Rattle.numa_machine.specs.declared.frame.Frame.{Frame}
use Rattle.numa_pool.specs.declared.view.Entry.TheVariants.{Load}
use Rattle.numa_pool.specs.declared.view.View.{View}
use Rattle.numa_pool.specs.Frames.{frame_of, bit_in, times}
use Rattle.numa_pool.specs.Rule.{Counted}
use Rattle.numa_pool.specs.Steps.{frame_at, with_entry, after_try, after_give}
use Rattle.numa_pool.proofs.Totals.{stays, wins, loses}
use Rattle.numa_pool.proofs.StepLemmas.{frame_at-is, node_of_word, word_of_word}
use Rattle.numa_pool.proofs.Totals.{gives_up}
use Rattle.numa_refinement.specs.Moves.{PoolState, Loads, Tries, Clears, word_of, mask_of}

within-of : (frames : List ℕ) (n : ℕ) → 0 < slice_index frames n → n < length frames
within-of [] n l = absurd (omega arith)
within-of (x ∷ xs) zero l = omega arith
within-of (x ∷ xs) (suc n) l = let rest = within-of xs n l in omega arith

-- the frame of the bit that a step on a frame changes
frame-is : (f : Frame) → f.number < 4096 → frame_at (word_of f) (f.number % 64) ≡ f
frame-is f low =
    let number : 64 * (f.number / 64) + f.number % 64 ≡ f.number = omega arith in
    frame_at-is f.node (f.number / 64) (f.number % 64) (omega arith) ∙ ap (frame_of f.node) number

-- what a seat shows after a load
pub loaded : (n w id : ℕ) (old new : PoolState) (m : Loads n w id old new) → w < 64
    → m.after ≡ with_entry m.before (Load n w (slice_index old.words (64 * n + w)))
loaded n w id old new m low = ap (λ t. t.0) m.told
    ∙ λ i.
    with_entry m.before
    (Load (node_of_word n w low i) (word_of_word n w low i) (slice_index old.words (64 * n + w)))

-- after a try
pub tried-is : (f : Frame) (id : ℕ) (old new : PoolState) (m : Tries f id old new) → f.number < 4096
    → (won : Bool) → (bit_in old.words f.node f.number == 0) ≡ won
    → m.after ≡ after_try m.before f won
tried-is f id old new m low won e = ap (λ t. t.0) (m.told (f.number % 64) (omega arith) refl).0
    ∙ λ i. after_try m.before (frame-is f low i) (e i)

-- after a return
pub gave-is : (f : Frame) (id : ℕ) (old new : PoolState) (m : Clears f id old new) → f.number < 4096
    → m.after ≡ after_give m.before f
gave-is f id old new m low = ap (λ t. t.0) (m.told (f.number % 64) (omega arith) refl)
    ∙ λ i. after_give m.before (frame-is f low i)

module _ (frames : List ℕ) (old new : PoolState) (id : ℕ)
    (rule : Counted frames old.words old.views) where
  -- the rule, of the state that a step leaves
  arrives : (i x : ℕ) (w : View) → new.words ≡ set old.words i x → new.views ≡ set old.views id w
      → Counted frames (set old.words i x) (set old.views id w) → Counted frames new.words new.views
  arrives i x w words views r = subst (λ (p : List ℕ × List View). Counted frames p.0 p.1)
      (λ j. (sym words j, sym views j)) r

  pub load-keeps : (n w : ℕ) → (m : Loads n w id old new) → w < 64
      → Counted frames new.words new.views
  load-keeps n w m low = arrives (64 * n + w) (slice_index old.words (64 * n + w)) m.after m.words
      m.views
      (stays frames old.words old.views id m.before m.shown rule (64 * n + w) m.after
      (ap (λ (v : View). v.held) (loaded n w id old new m low)))

  module _ (f : Frame) (low : f.number < 4096) (inside : f.number < slice_index frames f.node) where
    abbrev at : ℕ
    at = word_of f

    abbrev bit : ℕ
    bit = f.number % 64

    here : at < 64 * length frames
    here = let n = within-of frames f.node (omega arith) in omega arith

    small : bit < 64
    small = omega arith

    there : 64 * (at % 64) + bit < slice_index frames (at / 64)
    there = subst (λ (g : Frame). g.number < slice_index frames g.node) (sym (frame-is f low))
        inside

    mask-is : 1 * 2 ^ bit % 2 ^ 64 ≡ mask_of f
    mask-is = one_shl bit 64 small

    pub win-keeps : (m : Tries f id old new) → bit_in old.words f.node f.number ≡ 0
        → Counted frames new.words new.views
    win-keeps m clear =
        let found = slice_index old.words at in
        let now = wins frames old.words old.views id m.before m.shown rule at bit here small
        (bit_or found (1 * 2 ^ bit % 2 ^ 64)) clear (bit_at_set_same w64 found bit small)
        (λ j l d. bit_at_set_other w64 found bit small j d) there in
        arrives at (bit_or found (mask_of f)) m.after m.words m.views
        (subst (λ (p : ℕ × View). Counted frames (set old.words at (bit_or found p.0))
        (set old.views id p.1))
        (λ j. (
          mask-is j,
          ((λ k. after_try m.before (frame-is f low k) true)
              ∙ sym
              (tried-is f id old new m low true
              (eq-eqb (bit_in old.words f.node f.number) 0 clear)))
              j,
        )) now)

    pub loss-keeps : (m : Tries f id old new) → bit_in old.words f.node f.number ≢ 0
        → Counted frames new.words new.views
    loss-keeps m set_already =
        let found = slice_index old.words at in
        let below = bit_at-lt found bit in
        let one : bit_at found bit ≡ 1 = omega (arith, set_already) in
        let now = loses frames old.words old.views id m.before m.shown rule at bit here small
        (bit_or found (1 * 2 ^ bit % 2 ^ 64)) (bit_at_set_same w64 found bit small ∙ sym one)
        (λ j l d. bit_at_set_other w64 found bit small j d) in
        arrives at (bit_or found (mask_of f)) m.after m.words m.views
        (subst (λ (p : ℕ × View). Counted frames (set old.words at (bit_or found p.0))
        (set old.views id p.1))
        (λ j. (
          mask-is j,
          ((λ k. after_try m.before (frame-is f low k) false)
              ∙ sym
              (tried-is f id old new m low false
              (ne_eqb (bit_in old.words f.node f.number) 0 set_already))) j,
        )) now)

    pub return-keeps : (m : Clears f id old new) → 0 < times f.node f.number m.before.held
        → Counted frames new.words new.views
    return-keeps m mine =
        let found = slice_index old.words at in
        let mine_here = subst (λ (g : Frame). 0 < times g.node g.number m.before.held)
        (sym (frame-is f low)) mine in
        let now = gives_up frames old.words old.views id m.before m.shown rule at bit here small
        (bit_and found (bit_not w64 (1 * 2 ^ bit % 2 ^ 64))) mine_here
        (bit_at_clear_same w64 found bit small)
        (λ j l d. bit_at_clear_other w64 found bit small j l d) in
        arrives at (bit_and found (bit_not w64 (mask_of f))) m.after m.words m.views
        (subst (λ (p : ℕ × View).
        Counted frames (set old.words at (bit_and found (bit_not w64 p.0)))
        (set old.views id p.1))
        (λ j. (
          mask-is j,
          ((λ k. after_give m.before (frame-is f low k)) ∙ sym (gave-is f id old new m low)) j,
        ))
        now)
