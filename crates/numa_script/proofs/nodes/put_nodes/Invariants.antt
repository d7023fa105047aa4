use Rattle.std.proofs.Common.{◌≡◌, ◌+◌, ◌*◌, ◌≤◌, ◌++◌, length, drop}
use Rattle.numa_script.specs.Texts.{nodes_text}
use Rattle.numa_script.proofs.nodes.put_nodes.Given as goal

abbrev pub invariant-loop-left : goal.invariant-loop-left
invariant-loop-left g l = record {
  within : l.left ≤ length l.nodes;
  text : l.text ≡ nodes_text (drop l.left l.nodes) ++ l.fn.text;
  short : length l.text + 4 * l.left ≤ length l.fn.text + 4 * length l.nodes;
}

abbrev pub decreases-loop-left : goal.decreases-loop-left
decreases-loop-left g l = l.left
