use Rattle.std.proofs.Common.{◌≡◌, ◌≤◌, ◌+◌, ◌++◌, List, length, vec_len, vec_capacity}
use Rattle.numa_requests.specs.declared.placement.Placement.{Placement}
use Rattle.numa_fault.specs.Span.{PlacesEach}
use Rattle.numa_fault.proofs.span.place_each.Given as goal

abbrev pub invariant-loop-k : goal.invariant-loop-k
invariant-loop-k l = record {
  table : l.seat.table ≡ l.fn.seat.table;
  room : length l.choices + l.fn.out.len ≤ vec_capacity l.out;
  full : vec_len l.out ≡ l.fn.out.len + l.k;
  placed : (ps : List Placement) × (length ps ≡ l.k) × (l.out.items ≡ l.fn.out.items ++ ps)
      × PlacesEach l.pools.frames l.view.desk.machine l.view.history l.span 0 l.fn.seat l.seat ps;
}
