use Rattle.std.proofs.Common.{◌∷◌}
use Rattle.numa_pool.specs.declared.view.Entry.TheVariants.{Gave}
use Rattle.numa_refinement.proofs.Keeping.{give-core_step, give-ties, met-idle}
use Rattle.numa_refinement.proofs.walks.return_is_a_give.Goals as goal

pub returns-clause-core_step : goal.returns-clause-core_step
returns-clause-core_step c = give-core_step

pub returns-clause-tied : goal.returns-clause-tied
returns-clause-tied c = give-ties

pub returns-clause-met : goal.returns-clause-met
returns-clause-met c s world since id version f idle met =
    met-idle world since met id idle (Gave f ∷ since id)
