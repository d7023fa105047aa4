-- The row before the loop's place starts at the page or before it, and the part is one of the rows.
use Rattle.std.proofs.Common.{◌-◌, ◌<◌, ◌≤◌, get_or}
use Rattle.numa_rows.specs.Searches.{IsChunkOf}
use Rattle.numa_ranges.specs.declared.row.Row.{Row}
use Rattle.numa_ranges.proofs.even.starts_beside.Given as goal

abbrev pub invariant-loop-place : goal.invariant-loop-place
invariant-loop-place l = record {
  part : IsChunkOf l.rows l.part;
  before : (d : Row) → l.start < l.place → (get_or l.rows (l.place - 1) d).first ≤ l.page;
}
