use Rattle.std.proofs.Common.{◌≡◌, ◌∙◌, ◌%◌, List, ℕ, length, slice_index, ap}
use Rattle.numa_mask.specs.NodeSet.{members, weight_of}
use Rattle.numa_machine.specs.Sizes.{turn_at}
use Rattle.numa_space.specs.Lists.{near}
use Rattle.numa_space.specs.Standing.{setting_in}
use Rattle.numa_plan.specs.Rows.{RuleData, InTurns}
use Rattle.numa_compile.specs.Rules.{rows_from}
use Rattle.numa_compile.specs.declared.reach.Reach.TheVariants.{Only}
use Rattle.numa_compile.proofs.RowLemmas.{turns-gives}
use Rattle.numa_compile.proofs.AllowedLemmas.{members-low_memory}
use Rattle.numa_compile.proofs.RuleSteps.{gives-is}
use Rattle.numa_compile.proofs.rules.turns_rule.Goals as goal

pub rows_by_member-requires : goal.rows_by_member-requires
rows_by_member-requires c = members-low_memory c.args.space.now c.args.set.now c.requires.ready
    c.requires.memory

pub returns : goal.returns
returns c =
    let rows : List ℕ = rows_from (setting_in c.args.space.now) (Only c.args.space.now.allowed)
    (members c.args.set.now) in
    let other : RuleData = record {
      key = InTurns c.args.cycle.items;
      width = c.weight.result;
      rows = rows;
    } in
    let is : c.in_ok-rule.rule ≡ other = c.in_ok-rule.ensures
    ∙ (λ i. record {
      key = InTurns c.args.cycle.items;
      width = c.weight.result;
      rows =
          c.in_ok-rows.ensures i;
    }) in
    gives-is c.args.space.now.machine.nodes c.in_ok-rule.rule other
    (λ cpu index. near (setting_in c.args.space.now)
    (slice_index (members c.args.set.now)
    (slice_index c.args.cycle.items (turn_at index % length c.args.cycle.items)))) is
    (turns-gives c.args.space.now c.args.set.now c.weight.result c.args.cycle.items c.requires.ready
    c.requires.some c.requires.cycle c.requires.places
    (c.weight.ensures.weight ∙ ap weight_of c.allowed.ensures.allowed))
