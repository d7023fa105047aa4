-- None lies on the nodes so far.
use Rattle.std.proofs.Common.{◌≡◌, ◌<◌, ℕ}
use Rattle.std.specs.Prelude.{slice_index}
use Rattle.numa_words.proofs.first_touches.are_none.Given as goal

abbrev pub invariant-loop-node : goal.invariant-loop-node
invariant-loop-node l = (node : ℕ) → node < l.node → slice_index l.said.on node ≡ 0
