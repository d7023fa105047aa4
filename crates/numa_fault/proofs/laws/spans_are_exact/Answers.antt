use Rattle.numa_fault.proofs.Lawful.{span-enters-once, span-no-view, span-tells}
use Rattle.numa_fault.proofs.laws.spans_are_exact.Goals as goal

pub returns-clause-enters : goal.returns-clause-enters
returns-clause-enters c = span-enters-once

pub returns-clause-no_view : goal.returns-clause-no_view
returns-clause-no_view c = span-no-view

pub returns-clause-refusal : goal.returns-clause-refusal
returns-clause-refusal c = span-tells
