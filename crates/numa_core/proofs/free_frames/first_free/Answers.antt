use Rattle.std.proofs.Common.{sym, ◌∙◌, arith}
use Rattle.numa_core.proofs.TouchSteps.{free-none, free-some}
use Rattle.numa_core.proofs.free_frames.first_free.Goals as goal

pub returns-in-Some-clause-first : goal.returns-in-Some-clause-first
returns-in-Some-clause-first c s world shows =
    sym (free-some s world c.args.nodes.now c.loop-rank.rank c.in-Some.frame c.loop-rank-test.true
    (c.loop-rank.invariant s world shows) (sym (c.lowest_free.ensures.lowest s world shows)
    ∙ c.in-Some.is))

pub returns-clause-first : goal.returns-clause-first
returns-clause-first c s world shows =
    sym (free-none s world c.args.nodes.now
    (λ i low. c.loop-rank.invariant s world shows i (omega (arith, c.loop-rank-test.false))))
