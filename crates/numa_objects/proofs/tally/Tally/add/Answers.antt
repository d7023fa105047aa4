use Rattle.std.proofs.Common.{sym}
use Rattle.numa_objects.proofs.Counted.{count-apart, count-first, count-joined}
use Rattle.numa_objects.proofs.tally.Tally.add.Goals as goal

pub returns-in_default-clause-ranges : goal.returns-in_default-clause-ranges
returns-in_default-clause-ranges c rest =
    count-first c.args.self.now.count c.args.self.now.last c.args.run rest c.in_default.is

pub returns-then-joins-clause-ranges : goal.returns-then-joins-clause-ranges
returns-then-joins-clause-ranges c rest =
    count-joined c.args.self.now.count c.args.self.now.last c.in-Some.last c.args.run rest
    c.in-Some.is (sym c.if-joins.ensures)

pub returns-clause-ranges : goal.returns-clause-ranges
returns-clause-ranges c rest =
    count-apart c.args.self.now.count c.args.self.now.last c.in-Some.last c.args.run rest
    c.in-Some.is (sym c.if-joins.ensures)
