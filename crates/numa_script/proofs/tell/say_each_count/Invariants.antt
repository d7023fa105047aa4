use Rattle.std.proofs.Common.{slice_index}
use Rattle.numa_lines.specs.Written.{Said}
use Rattle.numa_script.proofs.Counts.{counts_below}
use Rattle.numa_script.proofs.tell.say_each_count.Given as goal

abbrev pub invariant-loop-node : goal.invariant-loop-node
invariant-loop-node g l = Said g.W.Write.contents l.fn.output l.output
    (counts_below (λ node. slice_index l.pages node) l.node)
