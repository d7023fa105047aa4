use Rattle.std.proofs.Common.{length, arith, ◌<◌, ◌∙◌, ap, sym, subst, w64}
use Rattle.std.specs.Int.{bit_not}
use Rattle.std.proofs.lemmas.Nat.{one_shl}
use Rattle.numa_machine.specs.declared.frame.Frame.{Frame}
use Rattle.numa_pool.specs.declared.view.View.{View}
use Rattle.numa_pool.specs.Frames.{times}
use Rattle.numa_pool.specs.Steps.{after_give}
use Rattle.numa_pool.proofs.StepLemmas.{gives, frame_at-is}
use Rattle.numa_pool.proofs.steps.clear.Goals as goal

pub fetch_and-requires : goal.fetch_and-requires
fetch_and-requires c =
    let one_table = ap (λ t. t.table) c.token.view_is ∙ c.requires.table
    ∙ sym (ap (λ w. w.table) c.words.view_is) in
    let wide = c.words.invariant.words in
    let nodes = ap (λ w. length w.frames) c.words.view_is in
    let p = c.requires.place in
    let there = subst (λ (q : Frame × View). 0 < times q.0.node q.0.number q.1.held)
    (λ i. (
      sym (frame_at-is c.args.node c.args.word c.args.bit p.1) i,
      (sym c.token.view_is i).view,
    )) c.requires.held in (
      one_table,
      omega arith,
      gives c.words.inside.table.shared.key.items _ _ _ c.token.invariant.1 _ (omega arith) _
          p.2 there,
    )

pub returns : goal.returns
returns c =
    let e = c.fetch_and.ensures in
    let p = c.requires.place in (
      e.0 ∙ ap (λ t. t.table) c.token.view_is,
      ap (λ m. m.0) (e.2 c.args.bit p.2 (ap (bit_not w64) (one_shl c.args.bit 64 p.2)))
          ∙ λ i. after_give (c.token.view_is i).view
          (frame_at-is c.args.node c.args.word c.args.bit p.1 i),
    )
