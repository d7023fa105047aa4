use Rattle.std.proofs.Common.{◌∙◌}
use Rattle.numa_mask.proofs.Images.{set_of-empty}
use Rattle.numa_mask.proofs.ranked.Ranked.is_empty.Goals as goal

pub returns : goal.returns
returns c = c.is_empty.ensures ∙ set_of-empty c.self.inside.nodes.items c.args.self.now
    c.self.view_is
