use Rattle.std.proofs.Common.{ℕ, ap, sym, ◌+◌, ◌++◌, ◌∙◌}
use Rattle.std.proofs.lemmas.List.{append-nil}
use Rattle.numa_reports.specs.Differences.{move_by, moves_from}
use Rattle.numa_reports.specs.Moved.{moves_in}
use Rattle.numa_reports.proofs.Differing.{from-next, more-moves}
use Rattle.numa_reports.proofs.differences.push_from.Goals as goal

pub loop-node-init : goal.loop-node-init
loop-node-init c = sym (append-nil c.args.moves.now.items)

pub loop-node-preserved : goal.loop-node-preserved
loop-node-preserved c =
    let count = moves_in c.args.table.now in
    more-moves c.args.moves.now.items c.loop-node.moves.items c.push_move.new.moves.items
    (moves_from count c.args.span c.args.from c.loop-node.node)
    (move_by c.args.span c.args.from c.loop-node.node (count c.args.from c.loop-node.node))
    (moves_from count c.args.span c.args.from (c.loop-node.node + 1)) c.loop-node.invariant
    (c.in_ok-push_move.ensures
    ∙ ap (λ (moved : ℕ). c.loop-node.moves.items
    ++ move_by c.args.span c.args.from c.loop-node.node moved) c.moved_in-moved.ensures)
    (from-next count c.args.span c.args.from c.loop-node.node)
