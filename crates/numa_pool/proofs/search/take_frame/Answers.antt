use Rattle.std.proofs.Common.{List, ◌≡◌, ◌∷◌, [], ◌∙◌, ◌+◌, ◌*◌, ap, subst, refl, arith}
use Rattle.std.specs.Prelude.{Some, None}
use Rattle.numa_machine.specs.declared.frame.Frame.{Frame}
use Rattle.numa_pool.specs.Frames.{frame_of, times}
use Rattle.numa_pool.proofs.Searching.{ends}
use Rattle.numa_pool.proofs.Sparing.{tries_once}
use Rattle.numa_pool.proofs.search.take_frame.Goals as goal

pub returns-in-Some-clause-held : goal.returns-in-Some-clause-held
returns-in-Some-clause-held c =
    c.in-Some.ensures.held.1 ∙ ap
    (λ fs. frame_of c.args.node (64 * c.loop-word.word + c.in-Some.bit) ∷ fs)
    c.loop-word.invariant.held

pub returns-in-Some-clause-found : goal.returns-in-Some-clause-found
returns-in-Some-clause-found c =
    let h = c.in-Some.ensures.held in (
      refl,
      omega arith,
      subst (λ (fs : List Frame). times c.args.node (64 * c.loop-word.word + c.in-Some.bit) fs
          ≡ 0) c.loop-word.invariant.held h.2,
    )

pub returns-in-Some-clause-walk : goal.returns-in-Some-clause-walk
returns-in-Some-clause-walk c =
    let w = c.in-Some.ensures.steps c.args.token.now.view.log c.loop-word.invariant.steps in
    let found = Some (frame_of c.args.node (64 * c.loop-word.word + c.in-Some.bit)) in
    (w.0, w.1, w.2, w.3, tries_once c.args.words.now.frames (c.args.node ∷ []) found w.0 w.2)

pub returns-clause-walk : goal.returns-clause-walk
returns-clause-walk c =
    let i = c.loop-word.invariant in
    let w = ends c.args.words.now.frames c.args.node c.loop-word.word c.args.token.now.view.log
    c.loop-word.token.view.log (omega arith) i.steps in
    (w.0, w.1, w.2, w.3, tries_once c.args.words.now.frames (c.args.node ∷ []) None w.0 w.2)
