use Rattle.std.proofs.Common.{◌≡◌, ◌++◌, List, drop}
use Rattle.std.specs.Prelude.{Option}
use Rattle.numa_machine.specs.declared.frame.Frame.{Frame}
use Rattle.numa_pool.specs.declared.view.Entry.{Entry}
use Rattle.numa_pool.specs.Walk.{WalksInOrder}
use Rattle.numa_pool.proofs.along.take_along.Given as goal

abbrev pub invariant-loop-rank : goal.invariant-loop-rank
invariant-loop-rank l = record {
  table : l.seat.table ≡ l.fn.seat.table;
  no_other : l.seat.unlogged ≡ l.fn.seat.unlogged;
  held : l.seat.held ≡ l.fn.seat.held;
  walk : (es : List Entry) × (l.seat.log ≡ es ++ l.fn.seat.log)
      × ((found : Option Frame) (later : List Entry)
      → WalksInOrder l.pools.frames (drop l.rank l.nodes) found later
      → WalksInOrder l.pools.frames l.nodes found (later ++ es));
}
