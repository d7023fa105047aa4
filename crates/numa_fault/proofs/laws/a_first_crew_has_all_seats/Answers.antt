use Rattle.numa_fault.proofs.FirstCrew.{all_seats, have_no_past}
use Rattle.numa_fault.proofs.laws.a_first_crew_has_all_seats.Goals as goal

pub returns-clause-no_past : goal.returns-clause-no_past
returns-clause-no_past c = have_no_past

pub returns-clause-all : goal.returns-clause-all
returns-clause-all c = all_seats
