use Rattle.numa_space.proofs.ModeRows.{mode-is, mode-only}
use Rattle.numa_space.proofs.laws.mode_rows.Goals as goal

pub returns-clause-is_one : goal.returns-clause-is_one
returns-clause-is_one c = mode-is

pub returns-clause-is_the_only_one : goal.returns-clause-is_the_only_one
returns-clause-is_the_only_one c = mode-only
