use Rattle.numa_placed.proofs.ShiftRows.{shifts-keep, shifts-stay}
use Rattle.numa_placed.proofs.laws.moves_within_rooms.Goals as goal

pub returns-clause-pages : goal.returns-clause-pages
returns-clause-pages c spots old new room = shifts-keep spots old new room

pub returns-clause-stays : goal.returns-clause-stays
returns-clause-stays c spots old new room page node other here lies =
    shifts-stay spots old new room page node other here lies
