use Rattle.std.proofs.Common.{◌∙◌, ap, refl, sym}
use Rattle.numa_machine.specs.Machine.{Hardware}
use Rattle.numa_placed.specs.Refusals.{lacks_node}
use Rattle.numaplan_handles.proofs.host_places.room_left.Goals as goal

pub returns-then-lacks_node : goal.returns-then-lacks_node
returns-then-lacks_node c = λ at runs. (
  sym (ap (λ (m : Hardware). lacks_node m c.args.node) (c.machine.ensures ∙ runs.machine))
      ∙ sym c.lacks_node.ensures.lacks ∙ c.if-lacks_node.true,
  refl,
)

pub returns : goal.returns
returns c = λ at runs. (
  sym (ap (λ (m : Hardware). lacks_node m c.args.node) (c.machine.ensures ∙ runs.machine))
      ∙ sym c.lacks_node.ensures.lacks ∙ c.if-lacks_node.false,
  c.room_on.ensures at.lying runs.lies,
)
