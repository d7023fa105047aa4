use Rattle.std.proofs.Common.{ℕ, ap, ◌+◌}
use Rattle.numa_huge.proofs.last.Flows.stay.Goals as goal

pub returns-clause-told : goal.returns-clause-told
returns-clause-told c told has = record {
  moved = has.moved;
  left = ap (λ (n : ℕ). n + 1) has.left;
  flow = has.flow;
}
