use Rattle.std.proofs.Common.{◌≡◌, ◌+◌, length}
use Rattle.std.specs.List.{All}
use Rattle.numa_publish.specs.Shown.{DeskIdentity}
use Rattle.numa_publish.specs.declared.reader.PlanReader.{PlanReader}
use Rattle.numa_fault.specs.Crew.{AreEnlisted}
use Rattle.numa_fault.specs.declared.worker.FaultWorker.{FaultWorker}
use Rattle.numa_fault.proofs.crew.Crew.enlist.Given as goal

-- how many readers are left
abbrev pub decreases-loop-reader : goal.decreases-loop-reader
decreases-loop-reader l = length l.readers.items

abbrev pub invariant-loop-reader : goal.invariant-loop-reader
invariant-loop-reader l = record {
  number : length l.workers.items + length l.readers.items + 1 ≡ length l.fn.readers.items;
  seats : AreEnlisted l.pools l.workers.items l.first;
  desks : (m : DeskIdentity) → All (λ (r : PlanReader). r.desk ≡ m) l.fn.readers.items
      → All (λ (r : PlanReader). r.desk ≡ m) l.readers.items
      × All (λ (w : FaultWorker). w.reader.desk ≡ m) l.workers.items;
}
