use Rattle.std.proofs.Common.{sym, subst, List, ℕ}
use Rattle.std.proofs.lemmas.Result.{IfOk-weaker}
use Rattle.numa_requests.specs.declared.command.Command.{Command}
use Rattle.numa_refinement.specs.LegalSteps.{HasPublished, IsPublishedIn}
use Rattle.numa_refinement.proofs.Desking.{all-shown, shows}
use Rattle.numa_refinement.proofs.desk.publish.Goals as goal

pub returns-clause-receipt : goal.returns-clause-receipt
returns-clause-receipt c =
    IfOk-weaker c.publish.result _ _
    (λ r told s world is. subst (λ (h : List Command). IsPublishedIn world h) (sym told.1)
    (shows s world _ is)) c.publish.ensures.receipt

pub returns-clause-versions : goal.returns-clause-versions
returns-clause-versions c =
    IfOk-weaker c.publish.result _ _
    (λ r told s world is. subst (λ (p : List Command × List ℕ). HasPublished world p.0 p.1)
    (λ i. (sym told.1 i, sym told.2 i)) (all-shown s world _ is)) c.publish.ensures.receipt
