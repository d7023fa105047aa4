use Rattle.std.proofs.Common.{◌≡◌, ◌++◌, ◌<◌, All}
use Rattle.numa_mask.specs.NodeSet.{members}
use Rattle.numa_space.specs.Standing.{setting_in}
use Rattle.numa_compile.specs.Rules.{rows_from}
use Rattle.numa_compile.specs.declared.reach.Reach.TheVariants.{Only}
use Rattle.numa_compile.proofs.rows.rows_by_member.Given as goal

abbrev pub invariant-loop-node : goal.invariant-loop-node
invariant-loop-node l = record {
  rows : l.rows.items ++ rows_from (setting_in l.space) (Only l.space.allowed)
      (members l.node-iterator) ≡ rows_from (setting_in l.space) (Only l.space.allowed)
      (members l.set);
  low : All (λ node. node < l.space.machine.nodes) (members l.node-iterator);
}
