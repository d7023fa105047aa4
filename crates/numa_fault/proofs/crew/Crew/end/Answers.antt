use Rattle.numa_fault.specs.Crew.{AreWithin, IsJoined, IsFirstCrew, HaveNoPast}
use Rattle.numa_fault.specs.Worker.{WorkerState}
use Rattle.numa_pool.specs.Steps.{past_of}
use Rattle.std.proofs.Common.{refl, subst, List}
use Rattle.numa_fault.proofs.FirstCrew.{all_seats, have_no_past}
use Rattle.numa_fault.proofs.crew.Crew.end.Goals as goal

pub returns-clause-end : goal.returns-clause-end
returns-clause-end c requests before answers crew many served =
    let joined : IsJoined c.args.workers.items c.in-Some.seat = c.in-Some.ensures.seat.1 in
    let no_past : IsFirstCrew before → HaveNoPast c.args.workers.items =
    λ first. have_no_past c.args.pools.frames requests before c.args.workers.items answers first
    many served in (
      record {
        crew = crew;
        after = c.args.workers.items;
        many = many;
        served = served;
        its = past_of c.in-Some.seat.log c.in-Some.seat.unlogged;
        others = c.in-Some.seat.unlogged.past;
        order = c.close.ensures.order;
        pasts = λ first. joined.pasts (no_past first);
        all_seats = λ first. all_seats c.args.pools.frames requests before c.args.workers.items
            answers first many served (past_of c.in-Some.seat.log c.in-Some.seat.unlogged)
            c.in-Some.seat.unlogged.past (joined.pasts (no_past first));
      },
      refl,
    )

pub returns-clause-within : goal.returns-clause-within
returns-clause-within c told = subst (λ (ws : List WorkerState).
    AreWithin c.args.receipt.now.history c.args.receipt.now.versions ws) c.deref.ensures.value
    (c.are_within-within.ensures.within told)
