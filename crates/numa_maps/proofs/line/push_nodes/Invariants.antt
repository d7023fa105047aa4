use Rattle.std.proofs.Common.{◌≡◌, ◌+◌, ◌*◌, ◌≤◌, ◌++◌, length, slice_index}
use Rattle.numa_maps.proofs.Lines.{nodes_below}
use Rattle.numa_maps.proofs.line.push_nodes.Given as goal

abbrev pub invariant-loop-node : goal.invariant-loop-node
invariant-loop-node l = record {
  bytes : l.text.bytes ≡ l.fn.text.bytes ++ nodes_below (λ node. slice_index l.pages node) l.node;
  short : length l.text.bytes ≤ length l.fn.text.bytes + 26 * l.node;
}
