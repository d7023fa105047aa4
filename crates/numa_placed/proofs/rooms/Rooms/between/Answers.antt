use Rattle.std.proofs.Common.{◌≡◌, ℕ, ◌∙◌, inl, inr, get_or, length-set, slice_index, subst, arith}
use Rattle.std.proofs.lemmas.Bool.{cases_lt}
use Rattle.std.proofs.Math.ListN.{set}
use Rattle.std.proofs.lemmas.List.{get_or-set_same, get_or-set_other}
use Rattle.numa_placed.specs.Shifts.{room_between, room_of}
use Rattle.numa_placed.proofs.rooms.Rooms.between.Goals as goal

pub loop-node-preserved : goal.loop-node-preserved
loop-node-preserved c =
    let before = c.loop-node.pages in
    let at = c.loop-node.node in
    let left = c.room_between.result in
    record {
      done = λ n lt. elim (cases_lt n at) [
        | inl early ↦ get_or-set_other before at n left 0 (λ e. omega arith)
            ∙ c.loop-node.invariant.done n early
        | inr late ↦
            let same : at ≡ n = omega arith in
            let here = get_or-set_same before at left 0
            (omega (arith, c.loop-node.invariant.long)) ∙ c.room_between.ensures in
            subst (λ (k : ℕ). get_or (set before at left) k 0
            ≡ room_between (room_of c.args.self.now k) (slice_index c.args.before.now k)
            (slice_index c.args.after.now k)) same here
      ];
      long = length-set _ _ _ ∙ c.loop-node.invariant.long;
    }

pub returns : goal.returns
returns c room old new are counts counts' node small =
    c.loop-node.invariant.done node (omega arith)
    ∙ (λ i. room_between (are node small i) (counts node small i) (counts' node small i))
