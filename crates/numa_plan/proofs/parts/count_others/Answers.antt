use Rattle.std.proofs.Common.{ℕ, ◌+◌, get_or, ap, refl, sym, ◌∙◌, arith}
use Rattle.numa_ranges.specs.Counts.{count_pages}
use Rattle.numa_plan.proofs.CountLemmas.{turn_is}
use Rattle.numa_plan.proofs.PartLemmas.{count-shared}
use Rattle.numa_plan.proofs.parts.count_others.Goals as goal

pub returns-then-is_of_one_object : goal.returns-then-is_of_one_object
returns-then-is_of_one_object c node small =
    let one = c.if-is_of_one_object.ensures refl in
    c.add_turns.ensures node small
    ∙ ap (λ (n : ℕ). get_or c.args.counts.now node 0
    + count_pages (turn_is c.args.cycle.now node) n c.args.pages) c.shared_turn.ensures.turn
    ∙ ap (λ (n : ℕ). get_or c.args.counts.now node 0 + n)
    (sym (count-shared c.args.cycle.now node c.args.index c.args.pages one.0 one.1))
