use Rattle.std.proofs.Common.{◌≡◌, ◌∙◌, ap}
use Rattle.numa_fault.specs.declared.worker.FaultWorker.{FaultWorker}
use Rattle.numa_pool.specs.Seats.{SeatView}
use Rattle.numa_stress.proofs.Popped.{popped}
use Rattle.numa_stress.proofs.crew.joined.Goals as goal

pub loop-worker-init : goal.loop-worker-init
loop-worker-init c =
    let left = popped (λ (w : FaultWorker). w.seat.table ≡ c.args.pools.now.table) _ _ _ _
    c.pop.ensures.items c.in_ok-pop.was c.requires in
    (ap (λ (s : SeatView). s.table) c.into_parts-seat.ensures.1 ∙ left.1, left.0)

pub join-requires : goal.join-requires
join-requires c =
    let i = c.loop-worker.invariant in
    let left = popped (λ (w : FaultWorker). w.seat.table ≡ c.args.pools.now.table) _ _ _ _
    c.pop-in-loop-worker.ensures.items c.in-Some.is i.1 in
    (i.0, ap (λ (s : SeatView). s.table) c.into_parts-other.ensures.1 ∙ left.1)

pub loop-worker-preserved : goal.loop-worker-preserved
loop-worker-preserved c =
    let i = c.loop-worker.invariant in
    let left = popped (λ (w : FaultWorker). w.seat.table ≡ c.args.pools.now.table) _ _ _ _
    c.pop-in-loop-worker.ensures.items c.in-Some.is i.1 in
    (c.join.ensures.frames.0 ∙ i.0, left.0)
