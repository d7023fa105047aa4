use Rattle.std.proofs.Common.{ℕ, ◌<◌, arith, length, length-set, refl, ◌∙◌}
use Rattle.std.proofs.lemmas.List.Sums.{get_or-le-sum_by, sum_by-set}
use Rattle.numa_reports.proofs.Placed.{moved-kept, moved-none}
use Rattle.numa_reports.proofs.tally.move_counts.Goals as goal

pub loop-left-init : goal.loop-left-init
loop-left-init c = record {
  few = c.requires.few;
  kept = λ n small. refl;
  none = λ n early. absurd (omega arith);
  long = omega arith;
  long_all = omega arith;
}

pub overflow_add-all : goal.overflow_add-all
overflow_add-all c = omega (
  arith,
  c.loop-left.invariant.kept c.loop-left.node (omega arith),
  c.requires.room c.loop-left.node (omega arith),
)

pub overflow_sub-left : goal.overflow_sub-left
overflow_sub-left c =
    omega (
      arith,
      c.loop-left.invariant.few,
      get_or-le-sum_by (λ (x : ℕ). x) c.loop-left.counts
          c.loop-left.node 0 (omega (arith, c.loop-left.invariant.long)),
    )

pub loop-left-preserved : goal.loop-left-preserved
loop-left-preserved c =
    let at = c.loop-left.node in
    let within : at < length c.loop-left.counts = omega (arith, c.loop-left.invariant.long) in
    let within_all : at < length c.loop-left.all = omega (arith, c.loop-left.invariant.long_all) in
    record {
      few =
          omega (
            arith,
            c.loop-left.invariant.few,
            sum_by-set (λ (x : ℕ). x) c.loop-left.counts at 0
                0 within,
          );
      kept = λ n small.
          omega (
            arith,
            c.loop-left.invariant.kept n small,
            moved-kept c.loop-left.all c.loop-left.counts at n within_all within,
          );
      none = moved-none c.loop-left.counts at within c.loop-left.invariant.none;
      long = length-set _ _ _ ∙ c.loop-left.invariant.long;
      long_all = length-set _ _ _ ∙ c.loop-left.invariant.long_all;
    }

pub returns-else-node-lt256-clause-none : goal.returns-else-node-lt256-clause-none
returns-else-node-lt256-clause-none c n small = c.loop-left.invariant.none n (omega arith)

pub returns-else-node-lt256-clause-moved : goal.returns-else-node-lt256-clause-moved
returns-else-node-lt256-clause-moved c n small =
    omega (arith, c.loop-left.invariant.kept n small, returns-else-node-lt256-clause-none c n small)

pub returns-after-loop-left-clause-none : goal.returns-after-loop-left-clause-none
returns-after-loop-left-clause-none c n small =
    omega (
      arith,
      c.loop-left.invariant.few,
      get_or-le-sum_by (λ (x : ℕ). x) c.loop-left.counts n 0
          (omega (arith, c.loop-left.invariant.long)),
    )

pub returns-after-loop-left-clause-moved : goal.returns-after-loop-left-clause-moved
returns-after-loop-left-clause-moved c n small =
    omega (arith, c.loop-left.invariant.kept n small, returns-after-loop-left-clause-none c n small)
