use Rattle.numa_moves.proofs.PageMoves.{shares-counted, shares-moved}
use Rattle.numa_moves.proofs.laws.shares_are_pages.Goals as goal

pub returns-clause-counted : goal.returns-clause-counted
returns-clause-counted c = shares-counted

pub returns-clause-moved : goal.returns-clause-moved
returns-clause-moved c = shares-moved
