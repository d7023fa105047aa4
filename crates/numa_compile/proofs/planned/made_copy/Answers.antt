use Rattle.std.proofs.lemmas.Result.{IfOk-weaker}
use Rattle.numa_compile.proofs.planned.made_copy.Goals as goal

pub returns-clause-copy : goal.returns-clause-copy
returns-clause-copy c =
    IfOk-weaker c.copy_there.result _ _ (λ copy there. c.prepare.ensures copy there)
    c.copy_there.ensures
