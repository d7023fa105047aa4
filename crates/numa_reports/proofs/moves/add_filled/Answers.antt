use Rattle.std.proofs.Common.{length, arith}
use Rattle.numa_reports.proofs.Moving.{filled-moves}
use Rattle.numa_reports.proofs.moves.add_filled.Goals as goal

pub returns-clause-ok : goal.returns-clause-ok
returns-clause-ok c = filled-moves c.args.change.before.now c.args.change.after.now
    c.args.change.touch.task
    c.args.change.touch.cpu c.args.first c.fill.new.out c.fill-2.new.out (length c.args.old.now)
    (omega arith) (omega arith) c.in_ok-fill.ensures.ok.1 c.in_ok-fill-2.ensures.ok.1
    c.args.table.now.items c.add_pairs.new.table.items c.add_pairs.ensures.pairs
