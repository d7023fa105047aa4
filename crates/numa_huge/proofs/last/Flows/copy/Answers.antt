use Rattle.std.proofs.Common.{◌∙◌, List, ap, length}
use Rattle.numa_huge.specs.Tallies.{flow_in}
use Rattle.numa_huge.specs.declared.last.HugeMove.{HugeMove}
use Rattle.numa_huge.proofs.last.Flows.copy.Goals as goal

pub returns : goal.returns
returns c told has = record {
  moved = ap (λ (l : List HugeMove). length l) (c.in-Ok.ensures.items ∙ c.deref.ensures.value)
      ∙ has.moved;
  left = has.left;
  flow = λ from to small near. ap (λ (l : List HugeMove). flow_in l from to)
      (c.in-Ok.ensures.items ∙ c.deref.ensures.value) ∙ has.flow from to small near;
}
