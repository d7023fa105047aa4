use Rattle.std.proofs.Common.{◌≡◌, ◌++◌, List, ℕ, length}
use Rattle.numa_lines.specs.Written.{Said}
use Rattle.numa_script.specs.Texts.{nodes_text}
use Rattle.numa_script.proofs.nodes.say_each_node.Given as goal

abbrev pub invariant-loop-rest : goal.invariant-loop-rest
invariant-loop-rest g l = (text : List ℕ) × Said g.W.Write.contents l.fn.output l.output text
    × (text ++ nodes_text l.rest ≡ nodes_text l.nodes)

abbrev pub decreases-loop-rest : goal.decreases-loop-rest
decreases-loop-rest g l = length l.rest
