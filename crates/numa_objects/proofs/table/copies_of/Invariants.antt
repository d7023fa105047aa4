-- The objects so far are there.
use Rattle.std.proofs.Common.{◌≡◌, ◌≤◌, take, length}
use Rattle.std.specs.Prelude.{vec_capacity, vec_len}
use Rattle.numa_objects.proofs.table.copies_of.Given as goal

abbrev pub invariant-loop-object : goal.invariant-loop-object
invariant-loop-object l = record {
  same : l.copies.items ≡ take l.object-index l.items;
  size : vec_len l.copies ≡ l.object-index;
  room : length l.items ≤ vec_capacity l.copies;
}
