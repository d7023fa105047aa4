use Rattle.std.proofs.Common.{None}
use Rattle.numa_mask.specs.NodeSet.{both}
use Rattle.numa_placed.specs.Refusals.{migrate_cause}
use Rattle.numa_page_state.proofs.Mapped.{at-mapped, follow-mapped, forgotten-are, move-mapped}
use Rattle.numa_page_state.proofs.Mapped.{populate-mapped, sent-are, shift-mapped}
use Rattle.numa_page_state.proofs.laws.pages_are_mapped.Goals as goal

pub returns-clause-stated : goal.returns-clause-stated
returns-clause-stated c = at-mapped

pub returns-clause-touched : goal.returns-clause-touched
returns-clause-touched c = populate-mapped

pub returns-clause-moved : goal.returns-clause-moved
returns-clause-moved c = move-mapped

pub returns-clause-migrated : goal.returns-clause-migrated
returns-clause-migrated c lack basis from to at =
    shift-mapped lack basis.kept basis.mapped (migrate_cause basis.allowed to) from
    (both to basis.allowed) at

pub returns-clause-along : goal.returns-clause-along
returns-clause-along c lack kept mapped old new at =
    shift-mapped lack kept mapped None old new at

pub returns-clause-followed : goal.returns-clause-followed
returns-clause-followed c lack kept mapped old new at =
    follow-mapped at.follows lack kept mapped old new at

pub returns-clause-sent : goal.returns-clause-sent
returns-clause-sent c = sent-are

pub returns-clause-unmapped : goal.returns-clause-unmapped
returns-clause-unmapped c = forgotten-are
