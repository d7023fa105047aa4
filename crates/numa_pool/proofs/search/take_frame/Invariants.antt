use Rattle.std.proofs.Common.{◌≡◌}
use Rattle.numa_pool.specs.Search.{Reached}
use Rattle.numa_pool.proofs.search.take_frame.Given as goal

abbrev pub invariant-loop-word : goal.invariant-loop-word
invariant-loop-word l = record {
  seat : (l.token.table ≡ l.fn.token.table) × (l.token.view.unlogged ≡ l.fn.token.view.unlogged);
  held : l.token.view.held ≡ l.fn.token.view.held;
  steps : Reached l.words.frames l.node l.word l.fn.token.view.log l.token.view.log;
}
