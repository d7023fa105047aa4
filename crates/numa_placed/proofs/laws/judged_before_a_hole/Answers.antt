use Rattle.numa_placed.proofs.Judged.{last, mapped, starts, whole}
use Rattle.numa_placed.proofs.laws.judged_before_a_hole.Goals as goal

pub returns-clause-whole : goal.returns-clause-whole
returns-clause-whole c = whole

pub returns-clause-mapped : goal.returns-clause-mapped
returns-clause-mapped c = mapped

pub returns-clause-starts : goal.returns-clause-starts
returns-clause-starts c = starts

pub returns-clause-last : goal.returns-clause-last
returns-clause-last c = last
