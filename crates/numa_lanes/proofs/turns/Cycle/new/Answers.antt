use Rattle.std.proofs.Common.{ℕ, ◌+◌, ◌<◌, ◌%◌, get_or, length, arith, sym, ap, ◌∙◌}
use Rattle.std.proofs.Common.{length-append}
use Rattle.std.proofs.Math.Nat.{mod-mod}
use Rattle.std.proofs.lemmas.Nat.{mod_below}
use Rattle.numa_lanes.proofs.CycleLemmas.{front_is, turn_added}
use Rattle.numa_lanes.proofs.turns.Cycle.new.Goals as goal

pub invariant_of-result : goal.invariant_of-result
invariant_of-result c = record {
  some = c.requires;
  long = omega arith;
  again = λ k lt.
      let n : ℕ = length c.args.entries.now in
      let low : k % n < n = mod_below k n c.requires in
      let near : k % n < c.loop-turn.turn = omega arith in
      let far : k < c.loop-turn.turn = omega arith in
      c.loop-turn.invariant.same k far
      ∙ sym (c.loop-turn.invariant.same (k % n) near ∙ ap (λ i. get_or c.args.entries.now i 0)
      (mod-mod k n));
}

pub returns : goal.returns
returns c = front_is c.args.entries.now c.loop-turn.table.items c.loop-turn.turn (omega arith)
    (omega arith) c.loop-turn.invariant.same

pub push_reserved-requires : goal.push_reserved-requires
push_reserved-requires c = omega (arith, c.loop-turn.invariant.size, c.loop-turn.invariant.room)

pub loop-turn-preserved : goal.loop-turn-preserved
loop-turn-preserved c =
    let is = c.push_reserved.ensures.items in
    record {
      long = ap length is
          ∙ (length-append c.loop-turn.table.items _ ∙ ap (λ n. n + 1) c.loop-turn.invariant.long);
      size = c.push_reserved.ensures.len ∙ ap (λ n. n + 1) c.loop-turn.invariant.size;
      room = omega (arith, c.push_reserved.ensures.capacity, c.loop-turn.invariant.room);
      same = turn_added c.args.entries.now c.loop-turn.table.items _ c.loop-turn.turn
          c.loop-turn.invariant.long is c.loop-turn.invariant.same;
    }
