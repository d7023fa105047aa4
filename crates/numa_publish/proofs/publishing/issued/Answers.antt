use Rattle.std.proofs.Common.{◌≡◌, ℕ, ◌++◌, reverse, sym, subst, ◌∙◌, ap, length}
use Rattle.std.proofs.lemmas.Result.{IfOk-weaker}
use Rattle.std.specs.Arc.{arc_value}
use Rattle.numa_machine.specs.Machine.{Hardware}
use Rattle.numa_space.specs.Policies.{allowed_nodes}
use Rattle.numa_space.specs.Refusals.{range_count_of}
use Rattle.numa_space.specs.Standing.{IsNodeList, SpaceState, StandsFor}
use Rattle.numa_publish.specs.Batches.{history_of}
use Rattle.numa_publish.specs.declared.issue.Issue.{Issue}
use Rattle.numa_publish.specs.Kept.{IsIssueOf}
use Rattle.numa_publish.proofs.Lists.{ok_or_kept}
use Rattle.numa_publish.proofs.publishing.issued.Goals as goal

pub invariant_of-issue-clause-stands : goal.invariant_of-issue-clause-stands
invariant_of-issue-clause-stands c =
    let here : ◌≡◌ {A = SpaceState} c.space-accepted.result.now c.args.space.now =
    c.space-accepted.ensures ∙ c.plan_copy.ensures.same in
    rw (c.of.ensures, c.machine.ensures, here, c.of-2.ensures)
    (c.in-Ok.ensures.stands _ c.requires)

pub invariant_of-issue-clause-ranges : goal.invariant_of-issue-clause-ranges
invariant_of-issue-clause-ranges c =
    let here : ◌≡◌ {A = SpaceState} c.space-accepted.result.now c.args.space.now =
    c.space-accepted.ensures ∙ c.plan_copy.ensures.same in
    let machine : ◌≡◌ {A = Hardware} c.of.result c.space-accepted.result.now.machine = c.of.ensures
    ∙ c.machine.ensures in
    let stands = subst (λ (s : SpaceState). StandsFor s
    (reverse c.args.pending.now.items ++ history_of c.args.front.now.log)) (sym here) c.requires in
    c.in-Ok.ensures.plan.one_run_each ∙ (ap (λ (s : SpaceState). length s.ranges) (sym here)
    ∙ (sym c.ranges-2.ensures.ranges
    ∙ (c.ranges-2.ensures.meaning _ stands
    ∙ sym (λ i. range_count_of (machine i) (c.of-2.ensures i)))))

pub invariant_of-issue-clause-sound : goal.invariant_of-issue-clause-sound
invariant_of-issue-clause-sound c task page cpu low nodes is =
    let here : ◌≡◌ {A = SpaceState} c.space-accepted.result.now c.args.space.now =
    c.space-accepted.ensures ∙ c.plan_copy.ensures.same in
    let machine : ◌≡◌ {A = Hardware} c.of.result c.args.space.now.machine = c.of.ensures
    ∙ (c.machine.ensures ∙ ap (λ (s : SpaceState). s.machine) here) in
    let allowed : c.args.space.now.allowed ≡ allowed_nodes c.of.result c.of-2.result =
    c.requires.allowed ∙ sym (λ i. allowed_nodes (machine i) (c.of-2.ensures i)) in
    subst (λ (set : ℕ). IsNodeList set nodes) allowed
    (c.in-Ok.ensures.sound task page cpu low nodes is)

pub returns-clause-issue : goal.returns-clause-issue
returns-clause-issue c =
    let here : ◌≡◌ {A = SpaceState} c.space-accepted.result.now c.args.space.now =
    c.space-accepted.ensures ∙ c.plan_copy.ensures.same in
    ok_or_kept c.new.result c.ok.result c.ok_or.result _
    (λ a. IsIssueOf c.args.space.now
    (reverse c.args.pending.now.items ++ history_of c.args.front.now.log) (arc_value a))
    c.ok.ensures.value c.ok_or.ensures.value (
    IfOk-weaker c.new.result _ _ (λ a e. record {
      machine_is = ap (λ (i : Issue). i.machine) e
          ∙ (c.of.ensures ∙ (c.machine.ensures ∙ ap (λ (s : SpaceState). s.machine) here));
      history_is = ap (λ (i : Issue). i.history) e ∙ c.of-2.ensures;
    }) c.new.ensures.ok
    )
