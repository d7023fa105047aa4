-- What was served by a view is a fault.
use Rattle.std.proofs.Common.{ℕ, List}
use Rattle.std.specs.Prelude.{Result, Ok, Err}
use Rattle.numa_requests.specs.declared.placement.Placement.{Placement}
use Rattle.numa_requests.specs.declared.request.Request.{Request}
use Rattle.numa_pool.specs.Seats.{SeatView}
use Rattle.numa_publish.specs.Shown.{ReaderState}
use Rattle.numa_fault.specs.Fault.{LetsIn, IsServed, Faults}
use Rattle.numa_fault.specs.Span.{SpanIsServed, FaultsOnSpan}
use Rattle.numa_fault.specs.Worker.{Parts}
use Rattle.numa_fault.specs.declared.span.Span.{Span}
use Rattle.numa_fault.specs.declared.refusal.FaultRefusal.{FaultRefusal}
use Rattle.numa_fault.specs.declared.refusal.SpanRefusal.{SpanRefusal}
use Rattle.numa_fault.specs.declared.refusal.SpanRefusal.TheVariants.{NoView as NoSight}
use Rattle.numa_fault.specs.declared.refusal.SpanRefusal.TheVariants.{BadCpu as NoCpu}
use Rattle.numa_fault.specs.declared.refusal.SpanRefusal.TheVariants.{Unmapped as NoPage}
use Rattle.numa_fault.specs.declared.refusal.SpanRefusal.TheVariants.{Exhausted as NoFrame}
use Rattle.numa_fault.specs.declared.refusal.SpanRefusal.TheVariants.{NoMemory as NoRoom}
use Rattle.numa_fault.specs.declared.refusal.FaultRefusal.TheVariants.{NoView, BadCpu, Unmapped}
use Rattle.numa_fault.specs.declared.refusal.FaultRefusal.TheVariants.{Exhausted}

pub serves : (frames : List ℕ) (request : Request) (before : Parts) (view : ReaderState)
    (seat : SeatView)
    (answer : Result Placement FaultRefusal) → LetsIn before.reader view
    → IsServed frames view.desk.machine view.history request before.seat seat answer
    → Faults frames request before (record { reader = view; seat = seat }) answer
serves frames request before view seat (Ok placement) in_view served = (in_view, served)
serves frames request before view seat (Err NoView) in_view served = absurd served
serves frames request before view seat (Err BadCpu) in_view served = (in_view, served)
serves frames request before view seat (Err (Unmapped version)) in_view served = (in_view, served)
serves frames request before view seat (Err (Exhausted version)) in_view served = (in_view, served)

pub serves-span : (frames : List ℕ) (span : Span) (before : Parts) (view : ReaderState)
    (seat : SeatView)
    (old new : List Placement) (answer : Result ℕ SpanRefusal) → LetsIn before.reader view
    → SpanIsServed frames view.desk.machine view.history span before.seat seat old new answer
    → FaultsOnSpan frames span before (record { reader = view; seat = seat }) old new answer
serves-span frames span before view seat old new (Ok version) in_view served = (in_view, served)
serves-span frames span before view seat old new (Err NoSight) in_view served = absurd served
serves-span frames span before view seat old new (Err NoCpu) in_view served = (in_view, served)
serves-span frames span before view seat old new (Err (NoPage version)) in_view served =
    (in_view, served)
serves-span frames span before view seat old new (Err (NoFrame version done)) in_view served =
    (in_view, served)
serves-span frames span before view seat old new (Err NoRoom) in_view served = (in_view, served)
