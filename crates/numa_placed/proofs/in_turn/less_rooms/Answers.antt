use Rattle.std.proofs.Common.{◌≡◌, ◌≤◌, ℕ, ◌∙◌, ap, inl, inr, get_or, length-set, slice_index}
use Rattle.std.proofs.Common.{subst, arith}
use Rattle.std.proofs.lemmas.Bool.{cases_lt}
use Rattle.std.proofs.Math.ListN.{set}
use Rattle.std.proofs.lemmas.List.{get_or-set_same, get_or-set_other}
use Rattle.numa_placed.specs.Shifts.{endless, less_room, room_of}
use Rattle.numa_placed.proofs.in_turn.less_rooms.Goals as goal

pub loop-node-preserved : goal.loop-node-preserved
loop-node-preserved c =
    let before = c.loop-node.pages in
    let at = c.loop-node.node in
    let left = c.less_room.result in
    record {
      done = λ n lt. elim (cases_lt n at) [
        | inl early ↦ get_or-set_other before at n left 0 (λ e. omega arith)
            ∙ c.loop-node.invariant.done n early
        | inr late ↦
            let same : at ≡ n = omega arith in
            let here = get_or-set_same before at left 0
            (omega (arith, c.loop-node.invariant.long)) ∙ c.less_room.ensures
            ∙ ap (λ (r : ℕ). less_room r (slice_index c.args.counts.now at))
            c.room_at-room.ensures in
            subst (λ (k : ℕ). get_or (set before at left) k 0
            ≡ less_room (room_of c.args.rooms.now k) (slice_index c.args.counts.now k)) same here
      ];
      long = length-set _ _ _ ∙ c.loop-node.invariant.long;
      most = λ n lt. elim (cases_lt n at) [
        | inl early ↦ c.loop-node.invariant.most n early
        | inr late ↦
            let same : at ≡ n = omega arith in
            subst (λ (k : ℕ). room_of c.args.rooms.now k ≤ endless) same
            (omega (arith, c.room_at-room.ensures))
      ];
    }

pub less_room-requires : goal.less_room-requires
less_room-requires c =
    omega (
      arith,
      c.requires c.loop-node.node c.loop-node-test.true,
      c.room_at-room.ensures,
    )

pub returns-clause-most : goal.returns-clause-most
returns-clause-most c node small = c.loop-node.invariant.most node (omega arith)

pub returns-clause-rooms : goal.returns-clause-rooms
returns-clause-rooms c room count are counts node small =
    c.loop-node.invariant.done node (omega arith)
    ∙ (λ i. less_room (are node small i) (counts node small i))
