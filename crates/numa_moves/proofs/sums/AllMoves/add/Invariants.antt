-- The nodes so far are added, the others are as they were.
use Rattle.std.proofs.Common.{◌≡◌, ℕ, ◌<◌, ◌≤◌, slice_index}
use Rattle.numa_host_pages.specs.Summed.{both_pages}
use Rattle.numa_moves.specs.Sums.{IsWhole, added_at, flow_of}
use Rattle.numa_moves.proofs.sums.AllMoves.add.Given as goal

abbrev pub invariant-loop-place : goal.invariant-loop-place
invariant-loop-place l = record {
  whole : IsWhole l.self;
  placed : l.self.placed ≡ both_pages l.fn.self.placed l.sum.placed;
  moved : l.self.moved ≡ both_pages l.fn.self.moved l.sum.moved;
  flows : (from to : ℕ) → from < l.place → to < 256 → flow_of l.self from to
      ≡ added_at (slice_index l.sum.to from) (slice_index l.sum.gone from)
      (flow_of l.fn.self from) to;
  flows_ahead : (from to : ℕ) → l.place ≤ from → from < 256 → to < 256
      → flow_of l.self from to ≡ flow_of l.fn.self from to;
  stays : (node : ℕ) → node < l.place → slice_index l.self.stays node
      ≡ both_pages (slice_index l.fn.self.stays node) (slice_index l.sum.stays node);
  stays_ahead : (node : ℕ) → l.place ≤ node → node < 256
      → slice_index l.self.stays node ≡ slice_index l.fn.self.stays node;
  lacking : (node : ℕ) → node < l.place → slice_index l.self.lacking node
      ≡ both_pages (slice_index l.fn.self.lacking node) (slice_index l.sum.lacking node);
  lacking_ahead : (node : ℕ) → l.place ≤ node → node < 256
      → slice_index l.self.lacking node ≡ slice_index l.fn.self.lacking node;
}
