use Rattle.std.proofs.Common.{◌≡◌, ◌+◌, ◌-◌, true, refl, sym, ◌∙◌, arith}
use Rattle.numa_machine.specs.Weights.{weight_at}
use Rattle.numa_ranges.specs.Runs.{in_pages}
use Rattle.numa_space.specs.Lists.{Setting, setting_of}
use Rattle.numa_space.specs.Pages.{index_of, range_record, resolved_policy}
use Rattle.numa_space.specs.Policies.{node_weight, task_record}
use Rattle.numa_rules.specs.Reasons.{ordered_by, rule_for, scope_of, set_for}
use Rattle.numa_rules.proofs.Ranges.{in_pages-inside, run-has}
use Rattle.numa_rules.proofs.Reasoning.{has-run, ordered-policy, said-index, said-range}
use Rattle.numa_rules.proofs.Reasoning.{said-record}
use Rattle.numa_rules.proofs.explanation.explain.Goals as goal

pub unreachable-requires : goal.unreachable-requires
unreachable-requires c =
    let space = c.args.space.now in
    has-run space.machine.nodes c.args.cpu c.args.page space.ranges c.in-Ok.ensures.answer.0
    (sym c.range_of.ensures.run ∙ c.in_default.is)

pub overflow_sub-index : goal.overflow_sub-index
overflow_sub-index c =
    let found = c.in-Some.found in
    let has : in_pages found.first found.pages c.args.page ≡ true =
    run-has c.args.space.now.ranges c.args.page found (sym c.range_of.ensures.run ∙ c.in-Some.is) in
    (in_pages-inside found.first found.pages c.args.page has).0

pub overflow_add-index : goal.overflow_add-index
overflow_add-index c =
    let found = c.in-Some.found in
    let has : in_pages found.first found.pages c.args.page ≡ true =
    run-has c.args.space.now.ranges c.args.page found (sym c.range_of.ensures.run ∙ c.in-Some.is) in
    let inside = in_pages-inside found.first found.pages c.args.page has in
    omega (arith, inside.0, inside.1, c.in-Some.ensures.small)

pub returns-clause-ok : goal.returns-clause-ok
returns-clause-ok c history stands =
    let space = c.args.space.now in
    let page = c.args.page in
    let found = c.in-Some.found in
    let range = c.in-Some.ensures.range in
    let has : in_pages found.first found.pages page ≡ true =
    run-has space.ranges page found (sym c.range_of.ensures.run ∙ c.in-Some.is) in
    let setting : Setting = setting_of space.machine history in
    let place = index_of history page in
    let index : found.index + (page - found.first) ≡ place =
    said-index space history page found stands range has in
    let own : c.own_policy.result ≡ range_record space.machine history page =
    c.own_policy.ensures ∙ said-record space history page found stands range has in
    let task : c.task_policy-task_policy.result ≡ task_record space.machine history c.args.task =
    c.task_policy-task_policy.ensures.meaning history stands in
    let meant = resolved_policy space.machine history c.args.task page in
    let policy : c.policy_at-policy.result ≡ meant =
    c.policy_at-policy.ensures.meaning history stands in
    let weights : weight_at c.weights.result.now ≡ node_weight history =
    λ i node. c.weights.ensures.meaning history stands node i in
    let rule : c.in-Ok-rule_for.rule
    ≡ rule_for (node_weight history) c.policy_at-policy.result c.args.cpu place =
    c.in-Ok-rule_for.ensures
    ∙ (λ i. rule_for (weights i) c.policy_at-policy.result c.args.cpu (index i)) in
    let by_meant : c.in-Ok-rule_for.rule ≡ rule_for (node_weight history) meant c.args.cpu place =
    rule ∙ (λ i. rule_for (node_weight history) (policy i) c.args.cpu place) in
    let nodes = (c.in-Ok.ensures.meaning history stands).1 in
    record {
      asked = (refl, refl, refl);
      range = said-range space history page found stands range has;
      has_page = has;
      index = index;
      task_policy = task;
      scope = c.scope_of-scope.ensures ∙ (λ i. scope_of (own i) (task i));
      policy = policy;
      allowed = c.allowed.ensures.meaning history stands;
      rule = rule;
      nodes = nodes;
      in_order = nodes ∙ (sym (ordered-policy setting meant c.args.cpu place)
          ∙ (λ i. ordered_by setting (set_for (sym policy i)) (sym by_meant i)));
    }
