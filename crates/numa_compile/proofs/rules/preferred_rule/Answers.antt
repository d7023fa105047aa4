use Rattle.std.proofs.Common.{◌≡◌, ◌∙◌, slice_index, arith}
use Rattle.std.proofs.lemmas.Result.{IfOk-weaker}
use Rattle.numa_mask.specs.NodeSet.{members}
use Rattle.numa_space.specs.Lists.{near}
use Rattle.numa_space.specs.Standing.{setting_in}
use Rattle.numa_compile.specs.Rules.{row_from}
use Rattle.numa_compile.specs.declared.reach.Reach.TheVariants.{Only}
use Rattle.numa_compile.proofs.AllowedLemmas.{node-low_memory}
use Rattle.numa_compile.proofs.RuleSteps.{gives-same}
use Rattle.numa_compile.proofs.rules.preferred_rule.Goals as goal

pub fixed_rule-requires-clause-from : goal.fixed_rule-requires-clause-from
fixed_rule-requires-clause-from c =
    omega (
      arith,
      c.from-node.ensures,
      node-low_memory c.args.space.now c.args.set.now
          c.first_node.result c.requires.ready c.requires.memory c.first_node.ensures.member,
    )

pub returns : goal.returns
returns c =
    let node : c.from-node.result ≡ slice_index (members c.args.set.now) 0 = c.from-node.ensures
    ∙ c.first_node.ensures.node in
    IfOk-weaker c.fixed_rule.result _ _
    (λ rule gives. gives-same c.args.space.now.machine.nodes rule
    (λ cpu index. row_from (setting_in c.args.space.now) (Only c.allowed.result)
    c.from-node.result) (λ cpu index. near (setting_in c.args.space.now)
    (slice_index (members c.args.set.now) 0))
    (λ cpu index i. row_from (setting_in c.args.space.now) (Only (c.allowed.ensures.allowed i))
    (node i)) gives)
    c.fixed_rule.ensures

pub fixed_rule-requires-clause-ready : goal.fixed_rule-requires-clause-ready
fixed_rule-requires-clause-ready c = c.requires.ready
