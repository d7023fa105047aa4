use Rattle.std.proofs.Common.{sym, subst, ap, ◌∙◌, ◌≤◌, Some, ℕ, List, length}
use Rattle.numa_requests.specs.declared.command.Command.{Command}
use Rattle.numa_publish.specs.Batches.{Extends}
use Rattle.numa_refinement.specs.LegalSteps.{HasPublished}
use Rattle.numa_refinement.proofs.Desking.{compared, newest-published}
use Rattle.numa_refinement.proofs.desk.compare.Goals as goal

pub returns-clause-all : goal.returns-clause-all
returns-clause-all c s world is le =
    let told = c.receipt-published.ensures in
    let receipt = c.args.receipt.now in
    let begins = c.equal_versions_agree.ensures.begins
    (subst (λ (h : List Command). length receipt.history ≤ length h) (sym told.1) le) in
    compared s world c.args.desk.now receipt.history receipt.versions is (
      subst (λ (h : List Command). Extends receipt.history h) told.1 begins.0,
      subst (λ (ns : List ℕ). Extends receipt.versions ns) told.2 begins.1,
    )

pub returns-clause-own : goal.returns-clause-own
returns-clause-own c s world is le =
    let told = c.receipt-published.ensures in
    let receipt = c.args.receipt.now in
    let begins = c.equal_versions_agree.ensures.begins
    (subst (λ (h : List Command). length receipt.history ≤ length h) (sym told.1) le) in
    let has : HasPublished world receipt.history receipt.versions =
    compared s world c.args.desk.now receipt.history receipt.versions is (
      subst (λ (h : List Command). Extends receipt.history h) told.1 begins.0,
      subst (λ (ns : List ℕ). Extends receipt.versions ns) told.2 begins.1,
    ) in
    newest-published world receipt.history receipt.versions has
    (c.version.ensures.newest ∙ ap Some c.version.ensures.length)
