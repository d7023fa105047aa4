use Rattle.std.proofs.Common.{ℕ, ◌&&◌, ◌==◌, Bool, get_or, arith}
use Rattle.numa_plan.proofs.CountLemmas.{count-most}
use Rattle.numa_reports.proofs.Moving.{count-next, count-zero}
use Rattle.numa_reports.proofs.moves.add_pairs.Goals as goal

pub loop-k-init : goal.loop-k-init
loop-k-init c = record {
  counted = λ from to f t.
      omega (
        arith,
        count-zero (λ k. (get_or c.args.before.now k 0 == from)
            && (get_or c.args.after.now k 0 == to)),
      );
  entries = c.requires.room.entries;
}

pub add_pair-requires : goal.add_pair-requires
add_pair-requires c = record {
  entries = c.loop-k.invariant.entries;
  room = λ from to f t.
      let test : ℕ → Bool = λ k. (get_or c.args.before.now k 0 == from)
      && (get_or c.args.after.now k 0 == to) in
      omega (
        arith,
        c.loop-k.invariant.counted from to f t,
        count-most test 0 c.loop-k.k,
        c.requires.room.room from to f t,
      );
}

pub loop-k-preserved : goal.loop-k-preserved
loop-k-preserved c = record {
  counted = λ from to f t.
      let test : ℕ → Bool = λ k. (get_or c.args.before.now k 0 == from)
      && (get_or c.args.after.now k 0 == to) in
      omega (
        arith,
        c.loop-k.invariant.counted from to f t,
        count-next test c.loop-k.k,
        c.add_pair.ensures.pair from to f t,
      );
  entries = c.add_pair.ensures.entries;
}
