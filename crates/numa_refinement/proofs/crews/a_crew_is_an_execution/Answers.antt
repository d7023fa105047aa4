use Rattle.std.proofs.Common.{◌∷◌, refl}
use Rattle.numa_pool.proofs.Whole.{by_these}
use Rattle.numa_refinement.specs.Crews.{calls_at}
use Rattle.numa_refinement.specs.Moves.{IsOpening, opened}
use Rattle.numa_refinement.proofs.Crewing.{runs_after}
use Rattle.numa_refinement.proofs.Opening.{are_early, calls_play}
use Rattle.numa_refinement.proofs.Published.{seen}
use Rattle.numa_refinement.proofs.crews.a_crew_is_an_execution.Goals as goal

pub returns : goal.returns
returns c s few some_worker requests old new answers its others words run order whole room events
    desks desk made within =
    let first = opened order.first in
    let opening : IsOpening s.machine.frames first = record {
      wide = order.clear.size;
      clear = order.clear.none_set;
      first = refl;
    } in
    let play = calls_play s few some_worker first opening events desk desks made in
    runs_after s few some_worker requests old new answers its others words run order
    (by_these s.machine.frames (its ∷ others) words order whole) (calls_at first events) play
    (are_early first events desks) room
    (seen s few some_worker first (calls_at first events) play desk made s.machine.frames requests
    old new answers run.crew run.many run.served within)
