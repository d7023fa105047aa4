-- No run so far passes.
use Rattle.std.proofs.Common.{◌≡◌}
use Rattle.std.specs.List.{list_any}
use Rattle.numa_rules.specs.Pages.{reaches}
use Rattle.numa_rules.proofs.span.has_page.Given as goal

abbrev pub invariant-loop-run : goal.invariant-loop-run
invariant-loop-run l = list_any (reaches l.test l.first l.end) l.run-iterator
    ≡ list_any (reaches l.test l.first l.end) l.space.ranges
