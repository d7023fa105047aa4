use Rattle.std.proofs.Common.{ℕ, arith, true, false, List, ◌∷◌, ◌≡◌, ◌<◌, ◌+◌, ◌*◌, ◌%◌, ◌^◌, ◌∙◌}
use Rattle.std.proofs.Common.{ap, sym, subst}
use Rattle.std.specs.Prelude.{bit_or}
use Rattle.std.specs.Int.{bit_at, trailing_ones}
use Rattle.std.proofs.lemmas.Nat.{or_lt}
use Rattle.std.proofs.lemmas.Nat.Bits.{bit_at_set_same, bit_at_set_other, bit_at_ones}
use native.Mathlib.Decide.{ℕ_discrete}
use mir.Syntax.{w64}
use Rattle.numa_pool.specs.declared.view.Entry.{Entry}
use Rattle.numa_machine.specs.declared.frame.Frame.{Frame}
use Rattle.numa_pool.specs.Frames.{frame_of, times}
use Rattle.numa_pool.specs.Steps.{after_try}
use Rattle.numa_pool.specs.Search.{Within, WonSince}
use Rattle.numa_pool.proofs.Searching.{loads, misses, gains, done_word, lowest_clear, ones_up_to}
use Rattle.numa_pool.proofs.search.take_word.Goals as goal

pub loop-taken-init : goal.loop-taken-init
loop-taken-init c =
    let e = c.look-taken.ensures in
    let now = ap (λ v. v.log) e.1 in
    record {
      seat = (e.0, ap (λ v. v.unlogged) e.1);
      held = ap (λ v. v.held) e.1;
      steps = λ base r.
          subst (λ (l : List Entry). Within c.args.words.now.frames c.args.node c.args.word
          c.look-taken.result base l) (sym now)
          (loads c.args.words.now.frames c.args.node c.args.word base c.args.token.now.view.log
          c.look-taken.result (omega arith) r);
    }

pub returns-then-bit-limit-clause-steps : goal.returns-then-bit-limit-clause-steps
returns-then-bit-limit-clause-steps c base reached =
    let w = c.requires.word in
    let low = lowest_clear c.loop-taken.taken c.trailing_ones-bit.result (omega arith)
    c.loop-taken-test.true c.trailing_ones-bit.ensures in
    done_word c.args.words.now.frames c.args.node c.args.word base c.loop-taken.token.view.log
    c.args.limit c.loop-taken.taken w.3 w.5
    (λ j l. low.2 j (omega arith)) (c.loop-taken.invariant.steps base reached)

pub returns-then-attempt-clause-held : goal.returns-then-attempt-clause-held
returns-then-attempt-clause-held c =
    let i = c.loop-taken.invariant in
    let bit = c.trailing_ones-bit.result in
    let f : Frame = frame_of c.args.node (64 * c.args.word + bit) in
    let now : c.attempt.new.token.view ≡ after_try c.loop-taken.token.view f true =
    c.attempt.ensures.step.1 ∙ ap (after_try c.loop-taken.token.view f) c.if-attempt.true in (
      omega arith,
      ap (λ v. v.held) now ∙ ap (λ fs. f ∷ fs) i.held,
      subst (λ (fs : List Frame). times c.args.node (64 * c.args.word + bit) fs ≡ 0) i.held
          (c.attempt.ensures.free c.if-attempt.true),
    )

pub returns-then-attempt-clause-steps : goal.returns-then-attempt-clause-steps
returns-then-attempt-clause-steps c base reached =
    let i = c.loop-taken.invariant in
    let w = c.requires.word in
    let bit = c.trailing_ones-bit.result in
    let f : Frame = frame_of c.args.node (64 * c.args.word + bit) in
    let now : c.attempt.new.token.view ≡ after_try c.loop-taken.token.view f true =
    c.attempt.ensures.step.1 ∙ ap (after_try c.loop-taken.token.view f) c.if-attempt.true in
    let low = lowest_clear c.loop-taken.taken bit (omega arith) c.loop-taken-test.true
    c.trailing_ones-bit.ensures in
    subst (λ (l : List Entry). WonSince c.args.words.now.frames c.args.node f base l)
    (sym (ap (λ v. v.log) now))
    (gains c.args.words.now.frames c.args.node c.args.word base c.loop-taken.token.view.log bit
    c.loop-taken.taken low.0 low.1 (omega arith) (i.steps base reached))

pub loop-taken-preserved : goal.loop-taken-preserved
loop-taken-preserved c =
    let i = c.loop-taken.invariant in
    let bit = c.trailing_ones-bit.result in
    let e = c.attempt.ensures.step in
    let f : Frame = frame_of c.args.node (64 * c.args.word + bit) in
    let now : c.attempt.new.token.view ≡ after_try c.loop-taken.token.view f false = e.1
    ∙ ap (after_try c.loop-taken.token.view f) c.if-attempt.false in
    let low = lowest_clear c.loop-taken.taken bit (omega arith) c.loop-taken-test.true
    c.trailing_ones-bit.ensures in
    let w = c.requires.word in
    let more = bit_or c.loop-taken.taken (1 * 2 ^ bit % 2 ^ 64) in
    record {
      seat = (e.0 ∙ i.seat.0, ap (λ v. v.unlogged) now ∙ i.seat.1);
      held = ap (λ v. v.held) now ∙ i.held;
      steps = λ base r.
          subst (λ (l : List Entry). Within c.args.words.now.frames c.args.node c.args.word more
          base l) (sym (ap (λ v. v.log) now))
          (misses c.args.words.now.frames c.args.node c.args.word base c.loop-taken.token.view.log
          bit c.loop-taken.taken low.0 low.1 (omega arith) (i.steps base r) more
          (bit_at_set_same w64 c.loop-taken.taken bit low.0)
          (λ j d. bit_at_set_other w64 c.loop-taken.taken bit low.0 j d));
    }

-- one more of the low bits is set
grows : (x b : ℕ) → x < 2 ^ 64 → b < 64 → ((i : ℕ) → i < b → bit_at x i ≡ 1)
    → b < trailing_ones w64 (bit_or x (1 * 2 ^ b % 2 ^ 64))
grows x b wide small ones = ones_up_to (bit_or x (1 * 2 ^ b % 2 ^ 64)) b
    (or_lt 64 x (1 * 2 ^ b % 2 ^ 64) wide (omega arith)) small (λ i l. at i l (ℕ_discrete i b))
  where
    at : (i : ℕ) → i < b + 1 → Dec (i ≡ b) → bit_at (bit_or x (1 * 2 ^ b % 2 ^ 64)) i ≡ 1
    at i l (yes e) = ap (bit_at (bit_or x (1 * 2 ^ b % 2 ^ 64))) e ∙ bit_at_set_same w64 x b small
    at i l (no d) = bit_at_set_other w64 x b small i d ∙ ones i (omega arith)

pub loop-taken-smaller : goal.loop-taken-smaller
loop-taken-smaller c =
    let low = lowest_clear c.loop-taken.taken c.trailing_ones-bit.result (omega arith)
    c.loop-taken-test.true c.trailing_ones-bit.ensures in
    let g = grows c.loop-taken.taken c.trailing_ones-bit.result (omega arith) low.0 low.2 in
    let e = c.trailing_ones-bit.ensures in
    omega arith

pub returns-clause-steps : goal.returns-clause-steps
returns-clause-steps c base reached =
    let w = c.requires.word in
    done_word c.args.words.now.frames c.args.node c.args.word base c.loop-taken.token.view.log
    c.args.limit c.loop-taken.taken w.3 w.5
    (λ j l. ap (λ x. bit_at x j) c.loop-taken-test.false ∙ bit_at_ones 64 j (omega arith))
    (c.loop-taken.invariant.steps base reached)
