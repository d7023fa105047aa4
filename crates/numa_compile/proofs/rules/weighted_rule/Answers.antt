use Rattle.std.proofs.Common.{◌≡◌, ◌≢◌, ◌<◌, ◌≤◌, ◌^◌, ◌∙◌, ap, arith, List, ℕ, length}
use Rattle.std.proofs.lemmas.Result.{IfOk-weaker}
use Rattle.numa_mask.specs.NodeSet.{members, weight_of}
use Rattle.numa_mask.proofs.Images.{weight-some}
use Rattle.numa_machine.specs.Weights.{NodeWeights, weight_at, total_weight}
use Rattle.numa_space.specs.Standing.{setting_in}
use Rattle.numa_compile.specs.Rules.{places_from}
use Rattle.numa_compile.proofs.AllowedLemmas.{memory-small}
use Rattle.numa_compile.proofs.RuleSteps.{gives-weighted, weighted-below, weighted-length}
use Rattle.numa_compile.proofs.rules.weighted_rule.Goals as goal

some : (set : ℕ) (cycle : List ℕ) → weight_of set ≤ length cycle → set < 2 ^ 256 → set ≢ 0
    → 0 < length cycle
some set cycle each small filled = omega (arith, each, weight-some set small filled)

pub turns_rule-requires-clause-cycle : goal.turns_rule-requires-clause-cycle
turns_rule-requires-clause-cycle c = some c.args.set.now c.in_ok-cycle.cycle.items
    c.in_ok-cycle.ensures.each (memory-small c.args.space.now c.args.set.now c.requires.ready
    c.requires.memory) c.requires.some

pub turns_rule-requires-clause-places : goal.turns_rule-requires-clause-places
turns_rule-requires-clause-places c = weighted-below (weight_at c.weights.result.now) c.args.set.now
    c.in_ok-cycle.cycle.items c.in_ok-cycle.ensures.places

pub returns : goal.returns
returns c =
    let weight : ℕ → ℕ = weight_at c.args.space.now.weights in
    let cycle : c.in_ok-cycle.cycle.items ≡ places_from 0 weight (members c.args.set.now) =
    c.in_ok-cycle.ensures.places ∙ ap
    (λ (w : NodeWeights). places_from 0 (weight_at w) (members c.args.set.now))
    c.weights.ensures.weights in
    let filled : 0 < length c.in_ok-cycle.cycle.items =
    some c.args.set.now c.in_ok-cycle.cycle.items c.in_ok-cycle.ensures.each
    (memory-small c.args.space.now c.args.set.now c.requires.ready c.requires.memory)
    c.requires.some in
    let total : 0 < total_weight weight c.args.set.now =
    omega (
      arith,
      filled,
      weighted-length weight c.args.set.now c.in_ok-cycle.cycle.items
          cycle,
    ) in
    IfOk-weaker c.turns_rule.result _ _
    (λ rule gives. gives-weighted (setting_in c.args.space.now) weight
    c.args.space.now.machine.nodes c.args.set.now c.in_ok-cycle.cycle.items rule total cycle
    gives)
    c.turns_rule.ensures
