use Rattle.numa_refinement.proofs.Beside.{desk, workers, tied}
use Rattle.numa_refinement.proofs.laws.others_leave_a_worker.Goals as goal

pub returns-clause-desk : goal.returns-clause-desk
returns-clause-desk c s world m w none = desk s world m.version m.event m.answer w none

pub returns-clause-workers : goal.returns-clause-workers
returns-clause-workers c s world m v w of apart = workers s world m.version m.event m.answer v w of
    apart

pub returns-clause-tied : goal.returns-clause-tied
returns-clause-tied c s world m state none tie = tied s world m.version m.event m.answer state none
    tie
