use Rattle.std.proofs.Common.{◌∷◌, refl}
use Rattle.numa_pool.proofs.Whole.{by_these}
use Rattle.numa_refinement.specs.Crews.{calls_at, first_words}
use Rattle.numa_refinement.specs.Moves.{IsOpening, opened}
use Rattle.numa_refinement.proofs.Crewing.{runs_after}
use Rattle.numa_refinement.proofs.Opening.{are_early, calls_play}
use Rattle.numa_refinement.proofs.Published.{seen}
use Rattle.numa_refinement.proofs.crews.a_crew_run_to_its_end_is_an_execution.Goals as goal

pub returns : goal.returns
returns c s few some_worker requests old answers taken ended first_crew of_machine room events desks
    desk made within =
    let first = opened (first_words ended) in
    let opening : IsOpening s.machine.frames first = record {
      wide = ended.order.1.clear.size;
      clear = ended.order.1.clear.none_set;
      first = refl;
    } in
    let play = calls_play s few some_worker first opening events desk desks made in
    runs_after s few some_worker requests old ended.after answers ended.its ended.others
    ended.order.0 record {
      crew = ended.crew;
      many = ended.many;
      served = ended.served;
      fresh = first_crew.logs;
      machine = of_machine;
      its_pasts = ended.pasts first_crew;
    } ended.order.1
    (by_these s.machine.frames (ended.its ∷ ended.others) ended.order.0 ended.order.1
    (ended.all_seats first_crew)) (calls_at first events) play (are_early first events desks) room
    (seen s few some_worker first (calls_at first events) play desk made s.machine.frames requests
    old ended.after answers ended.crew ended.many ended.served within)
