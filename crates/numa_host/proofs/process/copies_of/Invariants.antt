use Rattle.std.proofs.Common.{◌≡◌, ◌≤◌, take, length}
use Rattle.std.specs.Prelude.{vec_capacity, vec_len}
use Rattle.numa_host.proofs.process.copies_of.Given as goal

abbrev pub invariant-loop-process : goal.invariant-loop-process
invariant-loop-process l = record {
  same : l.copies.items ≡ take l.process-index l.processes;
  size : vec_len l.copies ≡ l.process-index;
  room : length l.processes ≤ vec_capacity l.copies;
}
