use Rattle.numa_pool.proofs.Winning.{win-listed, win-earlier, win-frame}
use Rattle.numa_pool.proofs.laws.win_means.Goals as goal

pub returns-clause-listed : goal.returns-clause-listed
returns-clause-listed c = win-listed

pub returns-clause-earlier : goal.returns-clause-earlier
returns-clause-earlier c = win-earlier

pub returns-clause-frame : goal.returns-clause-frame
returns-clause-frame c = win-frame
