use Rattle.std.proofs.Common.{◌≡◌, ℕ, ◌<◌, ◌≤◌, ◌∙◌, ap, arith, length, min}
use Rattle.std.proofs.lemmas.List.{take_all}
use Rattle.std.proofs.lemmas.List.Sums.{sum_by_more, sum_by_more_le_part, sum_by-le-sum_by}
use Rattle.numa_pools.specs.Rounds.{turns_within}
use Rattle.numa_pools.proofs.counts.turns_within.Goals as goal

least-le : (level pages : ℕ) → min pages level ≤ pages
least-le level pages = omega arith

pub overflow_add-turns : goal.overflow_add-turns
overflow_add-turns c =
    let within : c.loop-node.node < length c.args.room.now =
    omega (arith, c.loop-node.invariant.long, c.loop-node-test.true) in
    omega (
      arith,
      c.requires,
      c.loop-node.invariant.turns,
      c.min-turns.ensures,
      sum_by_more_le_part (λ (pages : ℕ). min pages c.args.level) (λ (x : ℕ). x) c.args.room.now
          c.loop-node.node 0 within (least-le c.args.level),
    )

pub loop-node-preserved : goal.loop-node-preserved
loop-node-preserved c =
    let within : c.loop-node.node < length c.args.room.now =
    omega (arith, c.loop-node.invariant.long, c.loop-node-test.true) in
    record {
      long = c.loop-node.invariant.long;
      turns = omega (
        arith,
        c.loop-node.invariant.turns,
        c.min-turns.ensures,
        sum_by_more (λ (pages : ℕ). min pages c.args.level) c.args.room.now c.loop-node.node 0
            within,
      );
    }

pub returns : goal.returns
returns c =
    let is : c.loop-node.turns ≡ turns_within c.args.level c.args.room.now =
    c.loop-node.invariant.turns
    ∙ ap (turns_within c.args.level) (take_all c.loop-node.node c.args.room.now
    (omega (arith, c.loop-node.invariant.long, c.loop-node-test.false))) in
    record {
      turns = is;
      within = omega (
        arith,
        is,
        sum_by-le-sum_by (λ (pages : ℕ). min pages c.args.level)
            (λ (x : ℕ). x) c.args.room.now (least-le c.args.level),
      );
    }
