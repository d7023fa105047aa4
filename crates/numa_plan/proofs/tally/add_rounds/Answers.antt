use Rattle.std.proofs.Common.{arith}
use Rattle.numa_plan.proofs.CountLemmas.{count-turns}
use Rattle.numa_plan.proofs.tally.add_rounds.Goals as goal

pub returns : goal.returns
returns c node small =
    omega (
      arith,
      c.add_places.ensures node small,
      c.add_rest.ensures node small,
      count-turns c.args.nodes.now node c.args.index c.args.pages c.requires.some,
    )
