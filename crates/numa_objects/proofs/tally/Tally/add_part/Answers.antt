use Rattle.std.proofs.Common.{List, ◌++◌, ap, sym, ◌∙◌}
use Rattle.numa_mode.specs.Policy.{PolicyRecord}
use Rattle.numa_ranges.specs.declared.run.Run.{Run}
use Rattle.numa_objects.specs.Counting.{ranges_with}
use Rattle.numa_objects.proofs.tally.Tally.add_part.Goals as goal

pub returns-in_default-clause-ranges : goal.returns-in_default-clause-ranges
returns-in_default-clause-ranges c rest =
    ap (λ (l : List (Run PolicyRecord)). ranges_with c.args.self.now (l ++ rest))
    (sym c.in_default.ensures.part)

pub returns-clause-ranges : goal.returns-clause-ranges
returns-clause-ranges c rest =
    c.add.ensures.ranges rest
    ∙ ap (λ (l : List (Run PolicyRecord)). ranges_with c.args.self.now (l ++ rest))
    (sym c.in-Some.ensures.part)
