use Rattle.std.proofs.Common.{◌%◌, ℕ, length, get_or, ap, ◌∙◌, arith, add-zero}
use Rattle.numa_plan.proofs.parts.node_at.Goals as goal

pub returns : goal.returns
returns c = c.turns.ensures.nodes 0 (omega (arith, c.turns.ensures.size))
    ∙ ap (λ (n : ℕ). get_or c.args.cycle.now (n % length c.args.cycle.now) 0)
    (add-zero c.turn_at.result ∙ c.turn_at.ensures)
