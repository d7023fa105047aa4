use Rattle.std.proofs.Common.{◌≡◌, ◌≤◌, take, length}
use Rattle.std.specs.Prelude.{vec_capacity, vec_len}
use Rattle.numa_plan.specs.Rules.{first_nodes}
use Rattle.numa_plan.proofs.rows.first_list.Given as goal

abbrev pub invariant-loop-number : goal.invariant-loop-number
invariant-loop-number l = record {
  same : l.firsts.items ≡ first_nodes l.rows l.width (take l.number-index l.cycle);
  size : vec_len l.firsts ≡ l.number-index;
  room : length l.cycle ≤ vec_capacity l.firsts;
}
