use Rattle.std.proofs.Common.{◌≡◌, ℕ, ◌<◌, length}
use Rattle.std.specs.Arc.{arc_value}
use Rattle.std.specs.Option.{ForSome}
use Rattle.numa_compile.specs.Standing.{PlanStandsFor}
use Rattle.numa_plan.specs.Meaning.{planned_list}
use Rattle.numa_space.specs.Policies.{allowed_nodes}
use Rattle.numa_space.specs.Standing.{IsNodeList}
use Rattle.numa_publish.specs.Batches.{history_of}
use Rattle.numa_publish.proofs.Low.{span-stands, span-filled, span-lists}
use Rattle.numa_publish.proofs.view.PlanView.fill.Goals as goal

pub returns-clause-ok : goal.returns-clause-ok
returns-clause-ok c =
    let issue = c.deref-issue.result.now in
    let is : issue ≡ arc_value c.self.inside.taker.shown.issue = c.deref-issue.ensures in
    let stands : PlanStandsFor (arc_value c.self.inside.taker.shown.issue).machine issue.plan
    (history_of c.self.inside.past.front.log) =
    rw (c.self.invariant.history_is, ← is) issue.stands in
    let ok = c.in_ok-fill.ensures.ok in
    rw (← c.self.view_is)
    (λ k l.
    (span-filled _ issue.plan _ c.args.task c.args.cpu c.args.first c.fill.new.out stands ok.0
    ok.1 k l).1)

pub returns-clause-stands : goal.returns-clause-stands
returns-clause-stands c =
    let issue = c.deref-issue.result.now in
    let is : issue ≡ arc_value c.self.inside.taker.shown.issue = c.deref-issue.ensures in
    let stands : PlanStandsFor (arc_value c.self.inside.taker.shown.issue).machine issue.plan
    (history_of c.self.inside.past.front.log) =
    rw (c.self.invariant.history_is, ← is) issue.stands in
    let ok = c.in_ok-fill.ensures.ok in
    rw (← c.self.view_is) (span-stands _ issue.plan _ stands c.run_count.ensures.apart c.args.cpu
    c.args.first (length c.fill.new.out) ok.0
    (λ k l.
    (span-filled _ issue.plan _ c.args.task c.args.cpu c.args.first c.fill.new.out stands ok.0
    ok.1 k l).0))

pub returns-clause-lists : goal.returns-clause-lists
returns-clause-lists c =
    let issue = c.deref-issue.result.now in
    let is : issue ≡ arc_value c.self.inside.taker.shown.issue = c.deref-issue.ensures in
    let stands : PlanStandsFor (arc_value c.self.inside.taker.shown.issue).machine issue.plan
    (history_of c.self.inside.past.front.log) =
    rw (c.self.invariant.history_is, ← is) issue.stands in
    let ok = c.in_ok-fill.ensures.ok in
    let sound : (task page cpu : ℕ) → cpu < issue.plan.nodes
    → ForSome (planned_list issue.plan task page cpu)
    (IsNodeList (allowed_nodes (arc_value c.self.inside.taker.shown.issue).machine
    (history_of c.self.inside.past.front.log))) =
    rw (c.self.invariant.history_is, ← is) issue.sound in
    rw (← c.self.view_is)
    (span-lists _ issue.plan _ c.args.task c.args.cpu c.args.first c.fill.new.out stands sound
    ok.0 ok.1)
