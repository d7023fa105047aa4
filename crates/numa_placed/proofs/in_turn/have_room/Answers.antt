use Rattle.std.proofs.Common.{◌≡◌, ◌≤◌, ℕ, arith, inl, inr, slice_index, subst, sym}
use Rattle.std.proofs.lemmas.Bool.{cases_lt}
use Rattle.numa_placed.specs.Shifts.{room_of}
use Rattle.numa_placed.proofs.in_turn.have_room.Goals as goal

pub loop-node-preserved : goal.loop-node-preserved
loop-node-preserved c node lt = elim (cases_lt node c.loop-node.node) [
  | inl l ↦ c.loop-node.invariant node l
  | inr g ↦
      let is : node ≡ c.loop-node.node = omega (arith, lt, g) in
      subst (λ (n : ℕ). slice_index c.args.counts.now n ≤ room_of c.args.rooms.now n) (sym is)
      (omega arith)
]
