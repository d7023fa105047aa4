use Rattle.std.proofs.Common.{subst}
use Rattle.std.specs.Prelude.{IfErr, IfOk}
use Rattle.numa_placed.specs.Laid.{Laid}
use Rattle.numa_placed.specs.Refusals.{IsLack}
use Rattle.numa_placed.specs.Shifts.{IsShift, shifted}
use Rattle.numa_placed.specs.Spots.{spot_at}
use Rattle.numa_placed.specs.Turns.{spots_of}
use Rattle.numa_placed.proofs.placed.Placed.follow_within.Goals as goal

pub returns-clause-ok : goal.returns-clause-ok
returns-clause-ok c room are =
    subst (λ (laid : Laid). IfOk c.fill_places.result (IsShift (spot_at laid) c.args.old.now
    c.args.new.now room (spots_of c.fill_places.new.places) c.fill_places.new.rooms))
    c.self.view_is (c.fill_places.ensures.moved room are)

pub returns-clause-err : goal.returns-clause-err
returns-clause-err c room are =
    subst (λ (laid : Laid). IfErr c.fill_places.result (IsLack (shifted (spot_at laid)
    c.args.old.now c.args.new.now room))) c.self.view_is (c.fill_places.ensures.lack room are)
