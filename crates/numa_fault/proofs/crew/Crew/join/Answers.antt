use Rattle.std.proofs.Common.{◌≡◌, ◌∙◌, ap, sym, [], ◌∷◌, ◌++◌, append-nil}
use Rattle.numa_fault.specs.declared.worker.FaultWorker.{FaultWorker}
use Rattle.numa_pool.specs.Seats.{SeatView}
use Rattle.numa_pool.specs.Steps.{one_other, joined}
use Rattle.numa_fault.proofs.Joining.{first_joined, next_joined, moved_on}
use Rattle.numa_fault.proofs.Popped.{popped}
use Rattle.numa_fault.proofs.crew.Crew.join.Goals as goal

pub loop-worker-init : goal.loop-worker-init
loop-worker-init c =
    let left = popped (λ (w : FaultWorker). w.seat.table ≡ c.args.pools.now.table) _ _ _ _
    c.pop.ensures.items c.in-Some.is c.requires in
    let same = c.into_parts-seat.ensures.1 in
    record {
      table = ap (λ (s : SeatView). s.table) same ∙ left.1;
      tables = left.0;
      so_far = (
        c.in-Some.last ∷ [],
        moved_on c.args.workers.items c.args.workers.items c.pop.new.self.items [] c.pop.result
            c.in-Some.last c.pop.ensures.items c.in-Some.is
            (sym (append-nil c.args.workers.items)),
        first_joined c.in-Some.last c.into_parts-seat.result.1 same,
      );
    }

pub join-requires : goal.join-requires
join-requires c =
    let i = c.loop-worker.invariant in
    let left = popped (λ (w : FaultWorker). w.seat.table ≡ c.args.pools.now.table) _ _ _ _
    c.pop-in-loop-worker.ensures.items c.in-Some-pop.is i.tables in
    (i.table, ap (λ (s : SeatView). s.table) c.into_parts-other.ensures.1 ∙ left.1)

pub loop-worker-preserved : goal.loop-worker-preserved
loop-worker-preserved c =
    let i = c.loop-worker.invariant in
    let left = popped (λ (w : FaultWorker). w.seat.table ≡ c.args.pools.now.table) _ _ _ _
    c.pop-in-loop-worker.ensures.items c.in-Some-pop.is i.tables in
    let e = c.join.ensures in
    let same = c.into_parts-other.ensures.1 in
    let before = c.loop-worker.seat in
    record {
      table = e.frames.0 ∙ i.table;
      tables = left.0;
      so_far = (
        c.in-Some-pop.worker ∷ i.so_far.0,
        moved_on c.args.workers.items c.loop-worker.workers.items
            c.pop-in-loop-worker.new.self.items i.so_far.0 c.pop-in-loop-worker.result
            c.in-Some-pop.worker c.pop-in-loop-worker.ensures.items c.in-Some-pop.is i.so_far.1,
        next_joined c.in-Some-pop.worker i.so_far.0 before c.join.new.seat i.so_far.2
            (e.frames.1 ∙ ap (λ (s : SeatView). before.held ++ s.held) same) e.frames.2
            (e.step
            ∙ ap (λ (s : SeatView). one_other (joined before.unlogged s.log s.unlogged)) same)
            e.apart,
      );
    }
