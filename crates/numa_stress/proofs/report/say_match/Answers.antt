use Rattle.numa_stress.specs.Storm.{match_line}
use Rattle.numa_stress.proofs.report.say_match.Goals as goal

pub returns-in-true : goal.returns-in-true
unfolding match_line
returns-in-true g c = λ start said h. rw c.in-true.is (c.say.ensures start said h)

pub returns-in-false : goal.returns-in-false
unfolding match_line
returns-in-false g c = λ start said h. rw c.in-false.is (c.say-in-false.ensures start said h)
