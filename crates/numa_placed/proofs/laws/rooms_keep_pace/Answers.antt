use Rattle.std.proofs.Common.{◌^◌}
use Rattle.numa_placed.specs.Shifts.{stated_on}
use Rattle.numa_placed.proofs.Paced.{paced-to, room-kept}
use Rattle.numa_placed.proofs.laws.rooms_keep_pace.Goals as goal

pub returns-clause-stated : goal.returns-clause-stated
returns-clause-stated c room before after node few fits =
    room-kept (room node) (stated_on before node) (stated_on after node) few fits

pub returns-clause-walked : goal.returns-clause-walked
returns-clause-walked c asked spots room node few = paced-to asked spots room node (2 ^ 35) few
