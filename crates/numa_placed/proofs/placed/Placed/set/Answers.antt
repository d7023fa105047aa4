use Rattle.std.proofs.Common.{IfErr, subst}
use Rattle.numa_placed.specs.Laid.{Laid}
use Rattle.numa_placed.specs.Refusals.{IsLack}
use Rattle.numa_placed.specs.Spots.{changed_spots, spot_at, stated_spot}
use Rattle.numa_placed.proofs.placed.Placed.set.Goals as goal

pub returns-clause-err : goal.returns-clause-err
returns-clause-err c =
    subst (λ (laid : Laid). IfErr c.edit_places.result (IsLack
    (changed_spots c.args.first c.args.pages (stated_spot c.args.node) (spot_at laid))))
    c.self.view_is c.edit_places.ensures.edit.lack
