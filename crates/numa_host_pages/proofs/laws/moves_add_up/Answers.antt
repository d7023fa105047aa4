use Rattle.std.proofs.Common.{false, None, refl}
use Rattle.numa_host_pages.proofs.Sums.{sum-born, sum-calm, sum-one}
use Rattle.numa_host_pages.proofs.laws.moves_add_up.Goals as goal

pub returns-clause-none : goal.returns-clause-none
returns-clause-none c = λ at. sum-calm at.homes

pub returns-clause-one : goal.returns-clause-one
returns-clause-one c = λ process at once. sum-one process at.homes once

pub returns-clause-born : goal.returns-clause-born
returns-clause-born c = λ process group nodes at. sum-born at.homes (record {
  id = process;
  group = group;
  allowed = nodes;
  lying = None;
  along = false;
}) refl
