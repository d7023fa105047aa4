use Rattle.std.proofs.Common.{sym, subst, ◌≤◌, ℕ, List, length}
use Rattle.numa_requests.specs.declared.command.Command.{Command}
use Rattle.numa_publish.specs.Batches.{Extends}
use Rattle.numa_refinement.proofs.Desking.{compared}
use Rattle.numa_refinement.proofs.desk.compare_worker.Goals as goal

pub returns : goal.returns
returns c s world is le =
    let told = c.receipt-published.ensures in
    let reader = c.args.worker.now.reader in
    let begins = c.compare.ensures
    (subst (λ (h : List Command). length reader.history ≤ length h) (sym told.1) le) in
    compared s world c.args.desk.now reader.history reader.versions is (
      subst (λ (h : List Command). Extends reader.history h) told.1 begins.0,
      subst (λ (ns : List ℕ). Extends reader.versions ns) told.2 begins.1,
    )
