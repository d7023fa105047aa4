use Rattle.std.proofs.Common.{◌≡◌, ℕ, ◌<◌, length, get_or}
use Rattle.numaplan_handles.specs.Pages.{IsNodeOr, spots_in}
use Rattle.numaplan_handles.proofs.pages_questions.write_each.Given as goal

abbrev pub invariant-loop-place : goal.invariant-loop-place
invariant-loop-place l = record {
  long : length l.nodes ≡ length l.fn.nodes;
  nodes : (k : ℕ) → k < l.place
      → IsNodeOr l.nowhere (spots_in l.pages) (get_or l.numbers k 0) (get_or l.nodes k 0);
}
