use Rattle.std.proofs.Common.{◌∙◌, sym}
use Rattle.numa_placed.proofs.cycle.lacks_room.Goals as goal

pub returns-in_default : goal.returns-in_default
returns-in_default c so room are =
    sym (c.node_with_room.ensures.first room are) ∙ c.in_default.is
