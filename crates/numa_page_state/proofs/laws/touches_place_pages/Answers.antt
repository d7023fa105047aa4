use Rattle.numa_page_state.proofs.Mapped.{touches-exhausted, touches-framed, touches-placed}
use Rattle.numa_page_state.proofs.Mapped.{touches-there}
use Rattle.numa_page_state.proofs.laws.touches_place_pages.Goals as goal

pub returns-clause-placed : goal.returns-clause-placed
returns-clause-placed c lack basis start bytes task cpu page node at =
    touches-placed basis start bytes task cpu page at lack node

pub returns-clause-exhausted : goal.returns-clause-exhausted
returns-clause-exhausted c lack basis start bytes task cpu page at =
    touches-exhausted basis start bytes task cpu page at lack

pub returns-clause-stays : goal.returns-clause-stays
returns-clause-stays c lack basis start bytes task cpu page at =
    touches-there basis start bytes task cpu page at lack

pub returns-clause-framed : goal.returns-clause-framed
returns-clause-framed c lack basis start bytes task cpu page at =
    touches-framed basis start bytes task cpu page at lack
