use Rattle.std.proofs.Common.{◌≡◌, ◌+◌, ◌*◌, ◌%◌, ℕ, arith, ap, ◌∙◌}
use Rattle.numa_lanes.proofs.CycleLemmas.{turn_next, cycle_step}
use Rattle.numa_lanes.proofs.turns.fill_vectors.Goals as goal

pub loop-round-preserved : goal.loop-round-preserved
loop-round-preserved c =
    let len : ℕ = c.args.len in
    let at : ℕ = c.loop-round.round * 64 in
    let next : c.args.start + at + 64 ≡ c.args.start + (c.loop-round.round + 1) * 64 =
    omega arith in
    record {
      turn = c.advance-turn.ensures ∙ ap (λ turn. (turn + 64 % len) % len)
          c.loop-round.invariant.turn ∙ turn_next (c.args.start + at) 64 len
          ∙ ap (λ turn. turn % len) next;
      done = λ k lt. cycle_step c.args.table.now c.loop-round.out c.args.start at len
          c.loop-round.turn k c.requires.some c.requires.long c.requires.again
          c.loop-round.invariant.turn (omega arith) c.loop-round.invariant.done (omega arith);
    }
