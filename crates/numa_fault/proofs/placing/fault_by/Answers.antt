use Rattle.std.proofs.Common.{◌∙◌, ap, sym, subst, List, length, Some, ℕ}
use Rattle.std.specs.Prelude.{slice_get}
use Rattle.numa_publish.specs.Batches.{Extends}
use Rattle.numa_publish.specs.Shown.{DeskIdentity}
use Rattle.numa_requests.specs.declared.command.Command.{Command}
use Rattle.numa_fault.specs.Fault.{LetsIn, IsServed}
use Rattle.numa_fault.proofs.Faulting.{serves}
use Rattle.numa_fault.proofs.placing.fault_by.Goals as goal

pub returns-clause-fault : goal.returns-clause-fault
returns-clause-fault c =
    let reader = c.args.reader in
    let seat = c.place-answer.new.seat in
    let entered = c.in-Ok.ensures in
    let left = c.leave.ensures in
    let let_in : LetsIn reader c.leave.result = record {
      desk = left.desk ∙ entered.desk;
      enters = left.counts.0 ∙ entered.enters;
      refused = left.counts.1 ∙ entered.refused;
      history = subst (λ (h : List Command). Extends reader.history h) (sym left.history)
          entered.seen;
      versions = subst (λ (ns : List ℕ). Extends reader.versions ns) (sym left.versions)
          entered.versions;
      newest = ap (λ (ns : List ℕ). slice_get ns 0) left.versions
          ∙ (entered.published ∙ ap (λ (h : List Command). Some (length h)) (sym left.history));
    } in
    let served =
    subst (λ (p : DeskIdentity × List Command). IsServed c.args.pools.now.frames p.0.machine p.1
    c.args.request c.args.seat.now seat c.place-answer.result)
    (λ i. (sym left.desk i, sym left.history i)) c.place-answer.ensures.served in
    serves c.args.pools.now.frames c.args.request
    (record { reader = reader; seat = c.args.seat.now }) c.leave.result seat
    c.place-answer.result let_in served
