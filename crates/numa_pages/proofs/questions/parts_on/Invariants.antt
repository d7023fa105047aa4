-- The pages of the nodes so far are counted by their parts, the others are as they were.
use Rattle.std.proofs.Common.{◌≡◌, ℕ, ◌*◌, ◌<◌, ◌≤◌, get_or, length}
use Rattle.numa_pages.proofs.questions.parts_on.Given as goal

abbrev pub invariant-loop-node : goal.invariant-loop-node
invariant-loop-node l = record {
  long : length l.parts ≡ 256;
  done : (node : ℕ) → node < l.node → get_or l.parts node 0 ≡ 512 * get_or l.fn.pages node 0;
  ahead : (node : ℕ) → l.node ≤ node → get_or l.parts node 0 ≡ get_or l.fn.pages node 0;
}
