use Rattle.std.proofs.Common.{arith}
use Rattle.numa_placed.proofs.Wrapped.{all-alike}
use Rattle.numa_placed.proofs.stay.turn_until.Goals as goal

pub returns-clause-alike : goal.returns-clause-alike
returns-clause-alike c p low high =
    all-alike c.args.nodes.now c.args.turn c.requires.named.some c.args.page c.args.node
    (λ q from to. c.loop-passed.invariant q from (omega (arith, to))) p low
