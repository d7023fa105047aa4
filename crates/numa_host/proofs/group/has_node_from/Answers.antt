use Rattle.std.proofs.Common.{leb, ap, rules, tests}
use Rattle.std.proofs.lemmas.Iterator.Consumers.{YieldsList-from_first}
use Rattle.std.proofs.lemmas.Iterator.Search.{any_from_yields_List}
use Rattle.numa_mask.specs.NodeSet.{members}
use Rattle.numa_host.proofs.group.has_node_from.Goals as goal

pub returns : goal.returns
returns c =
    any_from_yields_List (λ node. leb c.args.first node) _ _ _ c.any.ensures.ran
    (YieldsList-from_first (λ node. node) members (members c.args.mask.now)
    (ap members c.iter.ensures.members)) (λ x b q k. search (rules, tests))
