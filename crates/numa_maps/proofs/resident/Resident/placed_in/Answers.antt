use Rattle.std.proofs.Common.{ap, ◌∙◌}
use Rattle.numa_maps.proofs.Placed.{between-is}
use Rattle.numa_maps.specs.Listing.{placed_in}
use Rattle.numa_maps.specs.Residents.{Kept}
use Rattle.numa_maps.proofs.resident.Resident.placed_in.Goals as goal

pub returns-clause-placed : goal.returns-clause-placed
returns-clause-placed c = c.range.ensures.between tt ∙ between-is c.self.inside.placements.entries
    c.args.range.now ∙ ap (λ (kept : Kept). placed_in kept c.args.range.now) c.self.view_is
