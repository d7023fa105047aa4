use Rattle.std.proofs.Common.{arith}
use Rattle.numa_mask.proofs.Counts.{ordinal-words, ordinal_le}
use Rattle.numa_mask.proofs.mask.NodeMask.count_below.Goals as goal

pub overflow_add-result : goal.overflow_add-result
overflow_add-result c =
    omega (
      arith,
      ordinal-words c.self.inside.words c.args.self.now c.args.node c.ones_of.result
          c.number-number.result c.self.invariant c.self.view_is c.number-number.ensures.number
          c.ones_of.ensures (omega arith),
      ordinal_le c.args.self.now c.args.node,
    )

pub returns-clause-ordinal : goal.returns-clause-ordinal
returns-clause-ordinal c = ordinal-words c.self.inside.words c.args.self.now c.args.node
    c.ones_of.result c.number-number.result c.self.invariant c.self.view_is
    c.number-number.ensures.number c.ones_of.ensures (omega arith)
