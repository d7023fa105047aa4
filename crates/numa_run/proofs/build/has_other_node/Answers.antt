use Rattle.std.proofs.Common.{ap, leb, rules, tests}
use Rattle.std.proofs.lemmas.Iterator.Consumers.{YieldsList-from_first}
use Rattle.std.proofs.lemmas.Iterator.Search.{any_from_yields_List}
use Rattle.numa_mask.specs.NodeSet.{members}
use Rattle.numa_run.proofs.build.has_other_node.Goals as goal

pub returns : goal.returns
returns c =
    any_from_yields_List (λ node. leb c.args.nodes node) _ _ _ c.any.ensures.ran
    (YieldsList-from_first (λ node. node) members (members c.args.set.now)
    (ap members c.iter.ensures.members)) (λ x b q k. search (rules, tests))
