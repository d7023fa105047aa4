use Rattle.std.proofs.Common.{sym, ◌+◌}
use Rattle.std.proofs.lemmas.List.{append-nil}
use Rattle.numa_reports.specs.Differences.{moves_from, moves_within}
use Rattle.numa_reports.specs.Moved.{moves_in}
use Rattle.numa_reports.proofs.Differing.{more-moves, within-next}
use Rattle.numa_reports.proofs.differences.push_all.Goals as goal

pub loop-from-init : goal.loop-from-init
loop-from-init c = sym (append-nil c.args.moves.now.items)

pub loop-from-preserved : goal.loop-from-preserved
loop-from-preserved c =
    let count = moves_in c.args.table.now in
    more-moves c.args.moves.now.items c.loop-from.moves.items c.push_from.new.moves.items
    (moves_within count c.args.span c.loop-from.from c.args.nodes.1)
    (moves_from count c.args.span c.loop-from.from c.args.nodes.1)
    (moves_within count c.args.span (c.loop-from.from + 1) c.args.nodes.1) c.loop-from.invariant
    c.in_ok-push_from.ensures (within-next count c.args.span c.loop-from.from c.args.nodes.1)
