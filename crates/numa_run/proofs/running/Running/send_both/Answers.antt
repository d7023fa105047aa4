use Rattle.std.proofs.Common.{Ok, ap, subst, ◌∙◌}
use Rattle.std.specs.Prelude.{IfOk, IsSomeAnd}
use Rattle.numa_huge.specs.Tallies.{IsWalk}
use Rattle.numa_run.proofs.BothSent.{both-starved, walk-found, walk_of}
use Rattle.numa_run.proofs.running.Running.send_both.Goals as goal

pub returns-in-Ok-Some : goal.returns-in-Ok-Some
returns-in-Ok-Some c = λ state stands found.
    let walks = walk-found c.args.self.now c.args.said.now c.args.words.now c.in-Some.kept
    c.in-Some.is c.huge_sent_from.result c.space-space.result.now c.space-space.ensures.space
    c.toucher_of-toucher.result c.toucher_of-toucher.ensures c.huge_sent_from.ensures.sent state
    stands c.args.sent found in
    c.settle_both.ensures state stands found
    (subst (λ r. IfOk r (λ done. IsSomeAnd done (λ done. IsWalk (walk_of c.args.self.now
    c.args.said.now c.args.words.now state) done.0 done.1)))
    (c.in-Ok-Some.is ∙ ap Ok c.in-Ok-Some.field-0-is) walks)

pub returns-in-Ok-None : goal.returns-in-Ok-None
returns-in-Ok-None c = λ state stands found.
    let walks = walk-found c.args.self.now c.args.said.now c.args.words.now c.in-Some.kept
    c.in-Some.is c.huge_sent_from.result c.space-space.result.now c.space-space.ensures.space
    c.toucher_of-toucher.result c.toucher_of-toucher.ensures c.huge_sent_from.ensures.sent state
    stands c.args.sent found in
    absurd (subst (λ r. IfOk r (λ done. IsSomeAnd done (λ done. IsWalk (walk_of c.args.self.now
    c.args.said.now c.args.words.now state) done.0 done.1)))
    (c.in-Ok-None.is ∙ ap Ok c.in-Ok-None.field-0-is) walks)

pub returns-in-Err : goal.returns-in-Err
returns-in-Err c = λ state stands found.
    rw c.command_reply-in-Err.ensures
    (both-starved c.args.self.now c.args.said.now c.args.words.now state stands)
