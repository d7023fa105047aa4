-- The next row has the next run.
use Rattle.std.proofs.Common.{List, ◌++◌, subst, sym, ap, ◌∙◌}
use Rattle.numa_ranges.specs.declared.row.Row.{Row}
use Rattle.numa_ranges.specs.Numbered.{AreNumbered, runs_of}
use Rattle.numa_ranges.proofs.range_iter.RangeIterIterator.next.Goals as goal

pub invariant_of-self : goal.invariant_of-self
invariant_of-self g c = subst (λ (l : List Row). AreNumbered c.self.inside.values.now l)
    (sym c.in_err-row.ensures.steps.1) tt

pub invariant_of-self-2 : goal.invariant_of-self-2
invariant_of-self-2 g c =
    (subst (λ (l : List Row). AreNumbered c.self.inside.values.now l) c.in_ok-row.ensures.steps
    c.self.invariant).1

pub returns-clause-steps : goal.returns-clause-steps
returns-clause-steps g c =
    sym c.self.view_is ∙ (ap (runs_of c.self.inside.values.now) c.in_ok-row.ensures.steps
    ∙ ap (λ l. l ++ runs_of c.self.inside.values.now c.next.new.self) c.with_value.ensures)
