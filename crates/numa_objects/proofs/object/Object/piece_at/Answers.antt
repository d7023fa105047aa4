use Rattle.std.proofs.Common.{arith}
use Rattle.numa_objects.proofs.Counted.{first-in_range}
use Rattle.numa_objects.proofs.Pieces.{gap-policy}
use Rattle.numa_objects.proofs.object.Object.piece_at.Goals as goal

pub overflow_add-end : goal.overflow_add-end
overflow_add-end c =
    let both = first-in_range c.loop-run.invariant.apart.0 c.loop-run.run-iterator c.next.new.self
    c.in-Some.run' c.in-Some.ensures.steps c.loop-run.invariant.apart.1 in
    let end = both.0.end in
    omega (arith, end)

pub returns-then-run-place-clause-same : goal.returns-then-run-place-clause-same
returns-then-run-place-clause-same c q less =
    gap-policy c.args.self.now.policies c.loop-run.run-iterator c.next.new.self c.in-Some.run'
    c.args.place c.loop-run.invariant.apart.0 c.in-Some.ensures.steps c.loop-run.invariant.apart.1
    c.loop-run.invariant.same q (omega (arith, less, c.min.ensures, c.if-run-place.true))
