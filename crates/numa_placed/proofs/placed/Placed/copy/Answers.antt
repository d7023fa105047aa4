use Rattle.std.proofs.Common.{◌∙◌}
use Rattle.numa_placed.proofs.Fresh.{laid-same, stored-same}
use Rattle.numa_placed.proofs.placed.Placed.copy.Goals as goal

pub invariant_of-result : goal.invariant_of-result
invariant_of-result c =
    stored-same c.self.inside.places c.in-Ok.places c.in-Ok.ensures.map c.in-Ok.ensures.nodes
    c.in-Ok.ensures.limit c.self.invariant

pub returns : goal.returns
returns c =
    laid-same c.self.inside.places c.in-Ok.places c.in-Ok.ensures.map c.in-Ok.ensures.nodes
    ∙ c.self.view_is
