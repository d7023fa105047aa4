use Rattle.std.proofs.Common.{◌≡◌, ◌+◌, ◌∙◌, ℕ, ap, arith, inl, inr}
use Rattle.std.proofs.lemmas.Bool.{cases_lt}
use Rattle.numa_placed.specs.Binds.{first_with_room, nodes_in}
use Rattle.numa_placed.proofs.cycle.all_lack_room.Goals as goal

pub loop-passed-preserved : goal.loop-passed-preserved
loop-passed-preserved c room are p low high =
    elim (cases_lt p (c.args.page + c.loop-passed.passed)) [
      | inl l ↦ c.loop-passed.invariant room are p low l
      | inr g ↦
          let is : p ≡ c.args.page + c.loop-passed.passed = omega (arith, g, high) in
          ap (λ (q : ℕ). first_with_room room (nodes_in c.args.space.now c.args.touch.task
          c.args.touch.cpu q)) is ∙ c.lacks_room.ensures c.if-not-lacks_room.false room are
    ]
