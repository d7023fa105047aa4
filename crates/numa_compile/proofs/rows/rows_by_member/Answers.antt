use Rattle.std.proofs.Common.{◌≡◌, ◌++◌, ◌∷◌, ◌∙◌, arith}
use Rattle.numa_mask.specs.NodeSet.{members}
use Rattle.numa_space.specs.Standing.{setting_in}
use Rattle.numa_compile.specs.Rules.{row_from}
use Rattle.numa_compile.specs.declared.reach.Reach.TheVariants.{Only}
use Rattle.numa_compile.proofs.RowSteps.{row-moved, low-rest}
use Rattle.numa_compile.proofs.rows.rows_by_member.Goals as goal

pub push_row-requires : goal.push_row-requires
push_row-requires c =
    let step : members c.loop-node.node-iterator ≡ c.in-Some.node ∷ members c.next.new.self =
    c.in-Some.ensures.steps in
    omega (
      arith,
      (low-rest c.args.space.now.machine.nodes c.in-Some.node (members c.loop-node.node-iterator)
          (members c.next.new.self) step c.loop-node.invariant.low).0,
      c.from.ensures,
      c.number.ensures.number,
    )

pub loop-node-preserved : goal.loop-node-preserved
loop-node-preserved c =
    let step : members c.loop-node.node-iterator ≡ c.in-Some.node ∷ members c.next.new.self =
    c.in-Some.ensures.steps in
    let number : c.from.result ≡ c.in-Some.node = c.from.ensures ∙ c.number.ensures.number in
    record {
      rows = row-moved (setting_in c.args.space.now) (Only c.args.space.now.allowed) c.in-Some.node
          (members c.loop-node.node-iterator) (members c.next.new.self) c.loop-node.rows.items
          c.push_row.new.rows.items _ step
          (c.in_ok-push_row.ensures ∙ (λ i. c.loop-node.rows.items
          ++ row_from (setting_in c.args.space.now) (Only (c.allowed.ensures.allowed i))
          (number i)))
          c.loop-node.invariant.rows;
      low =
          (low-rest c.args.space.now.machine.nodes c.in-Some.node
          (members c.loop-node.node-iterator) (members c.next.new.self) step
          c.loop-node.invariant.low).1;
    }
