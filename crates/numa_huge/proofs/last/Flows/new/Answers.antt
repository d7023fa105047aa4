use Rattle.std.proofs.Common.{List, ap, length, refl}
use Rattle.numa_huge.specs.Tallies.{flow_in}
use Rattle.numa_huge.specs.declared.last.HugeMove.{HugeMove}
use Rattle.numa_huge.proofs.last.Flows.new.Goals as goal

pub returns-clause-told : goal.returns-clause-told
returns-clause-told c = record {
  moved = ap (λ (l : List HugeMove). length l) c.new.ensures.items;
  left = refl;
  flow = λ from to small near. ap (λ (l : List HugeMove). flow_in l from to) c.new.ensures.items;
}
