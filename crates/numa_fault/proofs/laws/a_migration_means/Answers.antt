use Rattle.std.proofs.Common.{◌≡◌, sym, subst, ap, ◌∙◌, arith, List, [], ◌∷◌}
use Rattle.numa_machine.specs.declared.frame.Frame.{Frame}
use Rattle.numa_pool.specs.Frames.{Holds, times}
use Rattle.numa_pool.proofs.Winning.{all-found}
use Rattle.numa_fault.proofs.Migrating.{newest-held, old-gone}
use Rattle.numa_fault.proofs.laws.a_migration_means.Goals as goal

pub returns-clause-exhausted : goal.returns-clause-exhausted
returns-clause-exhausted c frames node placement back before after migrates =
    let steps = migrates.2.steps in
    (steps.0, steps.1, all-found frames steps.0 (node ∷ []) steps.2.1)

pub returns-clause-gained : goal.returns-clause-gained
returns-clause-gained c frames node placement moved before after migrated =
    subst (λ (fs : List Frame). Holds fs moved.frame) (sym migrated.held)
    (newest-held _ moved.frame)

pub returns-clause-given_up : goal.returns-clause-given_up
returns-clause-given_up c frames node placement moved before after migrated held now =
    let gone : times placement.frame.node placement.frame.number after.held ≡ 0 =
    ap (times placement.frame.node placement.frame.number) migrated.held
    ∙ old-gone before.held placement.frame moved.frame migrated.fresh held in
    absurd (omega arith)
