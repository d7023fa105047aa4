use Rattle.std.proofs.Common.{◌<◌, ◌∙◌, ap, arith}
use Rattle.std.specs.List.{range_with_len}
use Rattle.std.proofs.lemmas.Result.{IfOk-weaker}
use Rattle.numa_mask.specs.NodeSet.{weight_of}
use Rattle.numa_space.specs.Standing.{setting_in}
use Rattle.numa_compile.proofs.RuleSteps.{gives-interleave, interleave-below}
use Rattle.numa_compile.proofs.rules.interleave_rule.Goals as goal

pub turns_rule-requires-clause-places : goal.turns_rule-requires-clause-places
turns_rule-requires-clause-places c = interleave-below c.args.set.now c.in_ok-cycle.cycle.items
    (c.in_ok-cycle.ensures ∙ ap (range_with_len 0) c.weight.ensures.weight)

pub returns : goal.returns
returns c =
    let some : 0 < weight_of c.args.set.now =
    omega (arith, c.weight.ensures.weight, c.weight.ensures.some c.requires.some) in
    IfOk-weaker c.turns_rule.result _ _
    (λ rule gives. gives-interleave (setting_in c.args.space.now) c.args.space.now.machine.nodes
    c.args.set.now c.in_ok-cycle.cycle.items rule some
    (c.in_ok-cycle.ensures ∙ ap (range_with_len 0) c.weight.ensures.weight) gives)
    c.turns_rule.ensures
