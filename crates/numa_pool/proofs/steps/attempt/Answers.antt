use Rattle.std.proofs.Common.{ℕ, List, length, true, eqb-true, arith, ◌≡◌, ◌<◌, ◌∙◌, ap, sym, subst}
use Rattle.std.specs.Prelude.{slice_index, ◌==◌}
use Rattle.std.proofs.lemmas.Nat.{one_shl}
use Rattle.std.specs.Int.{bit_at}
use Rattle.std.proofs.lemmas.Nat.Bits.{shr_and_one}
use Rattle.numa_machine.specs.declared.frame.Frame.{Frame}
use Rattle.numa_pool.specs.declared.view.View.{View}
use Rattle.numa_pool.specs.Frames.{times}
use Rattle.numa_pool.specs.Steps.{after_try}
use Rattle.numa_pool.proofs.StepLemmas.{tries, frame_at-is}
use Rattle.numa_pool.proofs.steps.attempt.Goals as goal

pub fetch_or-found-requires : goal.fetch_or-found-requires
fetch_or-found-requires c =
    let one_table = ap (λ t. t.table) c.token.view_is ∙ c.requires.table
    ∙ sym (ap (λ w. w.table) c.words.view_is) in
    let wide = c.words.invariant.words in
    let nodes = ap (λ w. length w.frames) c.words.view_is in
    let p = c.requires.place in
    let there = subst (λ (q : Frame × List ℕ). q.0.number < slice_index q.1 q.0.node)
    (λ i. (
      sym (frame_at-is c.args.node c.args.word c.args.bit p.1) i,
      sym (ap (λ w. w.frames) c.words.view_is) i,
    )) p.3 in (
      one_table,
      omega arith,
      tries c.words.inside.table.shared.key.items _ _ _ c.token.invariant.1 _ (omega arith) _
          p.2 there,
    )

pub returns-clause-step : goal.returns-clause-step
returns-clause-step c =
    let e = c.fetch_or-found.ensures in
    let p = c.requires.place in
    let x = c.fetch_or-found.result in (
      e.0 ∙ ap (λ t. t.table) c.token.view_is,
      ap (λ m. m.0) (e.2 c.args.bit p.2 (one_shl c.args.bit 64 p.2)).0
          ∙ λ i. after_try (c.token.view_is i).view
          (frame_at-is c.args.node c.args.word c.args.bit p.1 i)
          (sym (shr_and_one x c.args.bit) i == 0),
    )

pub returns-clause-free : goal.returns-clause-free
returns-clause-free c clear =
    let p = c.requires.place in
    let x = c.fetch_or-found.result in
    let zero_bit : bit_at x c.args.bit ≡ 0 =
    eqb-true (bit_at x c.args.bit) 0
    (subst (λ (y : ℕ). (y == 0) ≡ true) (shr_and_one x c.args.bit) clear) in
    subst (λ (q : Frame × View). times q.0.node q.0.number q.1.held ≡ 0)
    (λ i. (frame_at-is c.args.node c.args.word c.args.bit p.1 i, (c.token.view_is i).view))
    ((c.fetch_or-found.ensures.2 c.args.bit p.2 (one_shl c.args.bit 64 p.2)).1 zero_bit)
