use Rattle.std.proofs.Common.{ℕ, ◌+◌, List, get_or, ap, sym, ◌∙◌}
use Rattle.numa_plan.specs.Rules.{turns_on}
use Rattle.numa_plan.proofs.CountLemmas.{count-span}
use Rattle.numa_plan.proofs.tally.add_turns.Goals as goal

pub returns : goal.returns
returns c node small =
    let lent : List ℕ = c.turns.result.now in
    c.tally.ensures node small
    ∙ ap (λ (n : ℕ). get_or c.args.counts.now node 0 + n)
    (sym (count-span c.args.cycle.now node lent c.args.index c.turns.ensures.nodes)
    ∙ ap (λ (n : ℕ). turns_on c.args.cycle.now c.args.index n node) c.turns.ensures.size)
