use Rattle.numa_refinement.proofs.Answering.{each, one, spanned}
use Rattle.numa_refinement.proofs.laws.answers_are_of_published_versions.Goals as goal

pub returns-clause-one : goal.returns-clause-one
returns-clause-one c = one

pub returns-clause-each : goal.returns-clause-each
returns-clause-each c = each

pub returns-clause-span : goal.returns-clause-span
returns-clause-span c = spanned
