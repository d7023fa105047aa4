use Rattle.std.proofs.Common.{◌≡◌, ◌∙◌, [], ◌∷◌, List, ap, arith, refl, sym, subst, length}
use Rattle.std.proofs.Common.{length-append}
use Rattle.std.specs.List.{All}
use Rattle.numa_pool.specs.Seats.{SeatView}
use Rattle.numa_publish.specs.Shown.{ReaderState}
use Rattle.numa_publish.specs.declared.reader.PlanReader.{PlanReader}
use Rattle.numa_fault.specs.Crew.{AreEnlisted}
use Rattle.numa_fault.specs.Worker.{WorkerState}
use Rattle.numa_fault.specs.declared.worker.FaultWorker.{FaultWorker}
use Rattle.numa_fault.proofs.Enlisting.{all_enlisted, first_enlisted, desks_more}
use Rattle.numa_fault.proofs.Enlisting.{next_enlisted, tables_then}
use Rattle.numa_fault.proofs.Popped.{popped, one_fewer}
use Rattle.numa_fault.proofs.crew.Crew.enlist.Goals as goal

pub loop-reader-init : goal.loop-reader-init
loop-reader-init c = record {
  number =
      let none = ap length c.new-workers.ensures.items in
      let fewer = one_fewer _ _ _ _ c.pop.ensures.items c.in-Some.is in
      omega (arith, none, fewer);
  seats = subst (λ (ws : List WorkerState). AreEnlisted c.args.pools.now ws c.args.seat)
      (sym c.new-workers.ensures.items)
      (first_enlisted c.args.pools.now c.args.seat c.requires.0 c.requires.1 c.requires.2);
  desks = λ m all.
      let left = popped (λ (r : PlanReader). r.desk ≡ m) _ _ _ _ c.pop.ensures.items
      c.in-Some.is all in (
        left.0,
        subst (λ (ws : List WorkerState).
            All (λ (w : FaultWorker). w.reader.desk ≡ m) ws)
            (sym c.new-workers.ensures.items) (λ i d inside. absurd (omega arith)),
      );
}

pub loop-reader-preserved : goal.loop-reader-preserved
loop-reader-preserved c =
    let i = c.loop-reader.invariant in
    let one = c.in_ok-enlist_one.ensures.one in
    record {
      number =
          let more = ap length one.added
          ∙ length-append c.loop-reader.workers.items (one.worker ∷ []) in
          let fewer = one_fewer _ _ _ _ c.pop-in-loop-reader.ensures.items c.in-Some-pop.is in
          omega (arith, more, fewer, i.number);
      seats = next_enlisted c.args.pools.now c.in-Some-pop.reader c.loop-reader.workers.items
          c.enlist_one.new.workers.items c.loop-reader.first c.enlist_one.new.first
          i.seats one c.enlist_one.ensures.table;
      desks = λ m all.
          let so_far = i.desks m all in
          let left = popped (λ (r : PlanReader). r.desk ≡ m) _ _ _ _
          c.pop-in-loop-reader.ensures.items c.in-Some-pop.is so_far.0 in (
            left.0,
            desks_more m c.loop-reader.workers.items c.enlist_one.new.workers.items one.worker
                one.added so_far.1
                (ap (λ (r : ReaderState). r.desk) one.its_reader ∙ left.1),
          );
    }

-- the worker with the last reader and the first seat
abbrev last_of : ReaderState → SeatView → WorkerState
last_of reader seat = record { reader = reader; seat = seat; kept = []; room = 0 }

pub returns-clause-number : goal.returns-clause-number
returns-clause-number c =
    let last = last_of c.in-Some.last c.loop-reader.first in
    let more = ap length c.in_ok-enlist_last.ensures
    ∙ length-append c.loop-reader.workers.items (last ∷ []) in
    omega (arith, more, c.in_default-pop.ensures.cases.0, c.loop-reader.invariant.number)

pub returns-clause-seats : goal.returns-clause-seats
returns-clause-seats c =
    let last = last_of c.in-Some.last c.loop-reader.first in
    let so_far = c.loop-reader.invariant.seats in (
      all_enlisted c.args.pools.now c.loop-reader.workers.items c.enlist_last.new.workers.items
          c.loop-reader.first last so_far c.in_ok-enlist_last.ensures refl,
      tables_then c.args.pools.now c.loop-reader.workers.items c.enlist_last.new.workers.items
          c.loop-reader.first last so_far c.in_ok-enlist_last.ensures refl,
    )

pub returns-clause-desks : goal.returns-clause-desks
returns-clause-desks c m all =
    let last = last_of c.in-Some.last c.loop-reader.first in
    let left = popped (λ (r : PlanReader). r.desk ≡ m) _ _ _ _ c.pop.ensures.items
    c.in-Some.is all in
    desks_more m c.loop-reader.workers.items c.enlist_last.new.workers.items last
    c.in_ok-enlist_last.ensures (c.loop-reader.invariant.desks m all).1 left.1
