use Rattle.std.proofs.Common.{arith, sym, ◌∙◌}
use Rattle.numa_plan.proofs.BuildLemmas.{keeps_taken, task-uses}
use Rattle.numa_plan.proofs.plan.Plan.take_rule.Goals as goal

pub leave_named-requires : goal.leave_named-requires
leave_named-requires c = λ had is.
    omega (
      arith,
      c.self.invariant.counted had,
      task-uses c.self.inside.runs c.self.inside.tasks c.args.task had
          (sym is ∙ c.remove-had.ensures.value),
    )

pub invariant_of-self : goal.invariant_of-self
invariant_of-self c =
    rw (c.leave_named.ensures, c.remove-had.ensures.entries)
    (keeps_taken c.self.inside.nodes c.self.inside.runs c.self.inside.slots.items
    c.self.inside.lowest_free c.self.inside.tasks c.self.inside.local c.args.task
    c.remove-had.result c.self.invariant c.remove-had.ensures.value)
