use Rattle.std.proofs.Common.{◌+◌, ◌≤◌, ◌^◌, ap, length, refl, subst, sym, arith}
use Rattle.numa_machine.specs.Sizes.{shared_turn}
use Rattle.numa_plan.proofs.PartLemmas.{cycled-shared}
use Rattle.numa_plan.proofs.parts.fill_others.Goals as goal

pub returns-then-is_of_one_object : goal.returns-then-is_of_one_object
returns-then-is_of_one_object c =
    let one = c.if-is_of_one_object.ensures refl in
    cycled-shared c.args.cycle.now c.fill_cycle.new.out c.args.index c.shared_turn.result one.0
    c.shared_turn.ensures.turn (omega (arith, one.1, c.fill_cycle.auto.out)) c.fill_cycle.ensures
