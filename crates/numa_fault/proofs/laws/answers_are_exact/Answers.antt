use Rattle.numa_fault.proofs.Lawful.{enters-once, no-view, tells-refusal, tells-version}
use Rattle.numa_fault.proofs.laws.answers_are_exact.Goals as goal

pub returns-clause-enters : goal.returns-clause-enters
returns-clause-enters c = enters-once

pub returns-clause-no_view : goal.returns-clause-no_view
returns-clause-no_view c = no-view

pub returns-clause-refusal : goal.returns-clause-refusal
returns-clause-refusal c = tells-refusal

pub returns-clause-version : goal.returns-clause-version
returns-clause-version c = tells-version
