use Rattle.std.proofs.Common.{◌≡◌}
use Rattle.std.specs.Arc.{arc_value}
use Rattle.numa_compile.specs.Standing.{PlanStandsFor}
use Rattle.numa_publish.specs.Batches.{history_of}
use Rattle.numa_publish.proofs.Low.{span-judged}
use Rattle.numa_publish.proofs.view.PlanView.counts.Goals as goal

pub returns-clause-stands : goal.returns-clause-stands
returns-clause-stands c =
    let issue = c.deref-issue.result.now in
    let is : issue ≡ arc_value c.self.inside.taker.shown.issue = c.deref-issue.ensures in
    let stands : PlanStandsFor (arc_value c.self.inside.taker.shown.issue).machine issue.plan
    (history_of c.self.inside.past.front.log) =
    rw (c.self.invariant.history_is, ← is) issue.stands in
    let ok = c.in_ok-counts.ensures.ok in
    rw (← c.self.view_is) (span-judged _ issue.plan _ stands c.run_count.ensures.apart c.args.cpu
    c.args.first c.args.pages ok.0 ok.1)
