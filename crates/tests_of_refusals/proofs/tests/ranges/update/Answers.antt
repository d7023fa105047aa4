use Rattle.std.proofs.Common.{rules}
use Rattle.tests_of_refusals.proofs.tests.ranges.update.Goals as goal

pub update_span-requires-clause-function : goal.update_span-requires-clause-function
update_span-requires-clause-function c = (λ value. 9, λ value made h. search rules)
