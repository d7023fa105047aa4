use Rattle.std.proofs.Common.{sym, subst, ◌≤◌, ℕ, List, length}
use Rattle.numa_requests.specs.declared.command.Command.{Command}
use Rattle.numa_publish.specs.Batches.{Extends}
use Rattle.numa_refinement.specs.LegalSteps.{HasPublished}
use Rattle.numa_refinement.proofs.Desking.{compared, earlier}
use Rattle.numa_refinement.proofs.desk.compare_reader.Goals as goal

pub returns-clause-all : goal.returns-clause-all
returns-clause-all c s world is le =
    let told = c.receipt-published.ensures in
    let reader = c.args.reader.now in
    let begins = c.compare.ensures.begins
    (subst (λ (h : List Command). length reader.history ≤ length h) (sym told.1) le) in
    compared s world c.args.desk.now reader.history reader.versions is (
      subst (λ (h : List Command). Extends reader.history h) told.1 begins.0,
      subst (λ (ns : List ℕ). Extends reader.versions ns) told.2 begins.1,
    )

pub returns-clause-views : goal.returns-clause-views
returns-clause-views c s world is le view p q newest =
    let told = c.receipt-published.ensures in
    let reader = c.args.reader.now in
    let begins = c.compare.ensures.begins
    (subst (λ (h : List Command). length reader.history ≤ length h) (sym told.1) le) in
    let has : HasPublished world reader.history reader.versions =
    compared s world c.args.desk.now reader.history reader.versions is (
      subst (λ (h : List Command). Extends reader.history h) told.1 begins.0,
      subst (λ (ns : List ℕ). Extends reader.versions ns) told.2 begins.1,
    ) in
    earlier world view.history reader.history view.versions reader.versions has p q newest
