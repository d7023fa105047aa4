use Rattle.std.proofs.Common.{◌≡◌, ◌-◌, List}
use Rattle.std.specs.Int.{trailing_ones}
use mir.Syntax.{w64}
use Rattle.numa_pool.specs.declared.view.Entry.{Entry}
use Rattle.numa_pool.specs.Search.{Reached, Within}
use Rattle.numa_pool.proofs.search.take_word.Given as goal

abbrev pub invariant-loop-taken : goal.invariant-loop-taken
invariant-loop-taken l = record {
  seat : (l.token.table ≡ l.fn.token.table) × (l.token.view.unlogged ≡ l.fn.token.view.unlogged);
  held : l.token.view.held ≡ l.fn.token.view.held;
  steps : (base : List Entry) → Reached l.words.frames l.node l.word base l.fn.token.view.log
      → Within l.words.frames l.node l.word l.taken base l.token.view.log;
}

abbrev pub decreases-loop-taken : goal.decreases-loop-taken
decreases-loop-taken l = 64 - trailing_ones w64 l.taken
