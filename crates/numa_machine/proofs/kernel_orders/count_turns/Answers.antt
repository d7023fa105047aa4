use Rattle.std.proofs.Common.{ℕ, ◌+◌, ◌≤◌, List, slice_index, get_or, fold, ap, sym, ◌∙◌, arith}
use Rattle.std.proofs.Math.ListN.{drop_of_length-le}
use Rattle.std.specs.Prelude.{◌==◌}
use Rattle.numa_machine.specs.Machine.{one_more_at, turns}
use Rattle.numa_machine.proofs.Loads.{turn-taken, turn-few}
use Rattle.numa_machine.proofs.kernel_orders.count_turns.Goals as goal

pub count_turn-requires : goal.count_turn-requires
count_turn-requires c =
    omega (arith, c.loop-node.invariant.few (get_or c.args.order.now c.loop-node.node-index 0))

pub loop-node-preserved : goal.loop-node-preserved
loop-node-preserved c =
    let far = λ (to : ℕ). slice_index c.args.table.now (c.args.start + to) in
    let node : ℕ = get_or c.args.order.now c.loop-node.node-index 0 in
    record {
      few = λ other.
          let more : slice_index c.count_turn.new.loads other ≤ slice_index c.loop-node.loads other
          + 1 =
          rw c.count_turn.ensures
          (turn-few c.loop-node.loads (get_or c.args.order.now c.loop-node.node-index 0) other
          (c.entry-far.result == c.loop-node.before)) in
          omega (arith, more, c.loop-node.invariant.few other);
      left =
          turn-taken far c.args.order.now c.loop-node.node-index c.loop-node.before
          c.entry-far.result c.loop-node.loads c.count_turn.new.loads
          (fold one_more_at c.args.loads.now (turns far 10 c.args.order.now))
          c.loop-node-test.true
          (c.entry-far.ensures ∙ ap (λ to. slice_index c.args.table.now (c.args.start + to))
          c.from.ensures) c.count_turn.ensures c.loop-node.invariant.left;
    }

pub returns : goal.returns
returns c =
    let far = λ (to : ℕ). slice_index c.args.table.now (c.args.start + to) in
    ap (λ (xs : List ℕ). fold one_more_at c.loop-node.loads (turns far c.loop-node.before xs))
    (sym (drop_of_length-le c.args.order.now c.loop-node-test.false))
    ∙ c.loop-node.invariant.left
