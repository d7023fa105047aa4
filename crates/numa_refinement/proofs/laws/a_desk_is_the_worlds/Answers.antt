use Rattle.std.proofs.Common.{inr, refl}
use Rattle.numa_refinement.proofs.Desking.{opens, accepts, refuses, publishes, idle, no_core_step}
use Rattle.numa_refinement.proofs.laws.a_desk_is_the_worlds.Goals as goal

pub returns-clause-opens : goal.returns-clause-opens
returns-clause-opens c = opens

pub returns-clause-accepts : goal.returns-clause-accepts
returns-clause-accepts c = accepts

pub returns-clause-refuses : goal.returns-clause-refuses
returns-clause-refuses c = refuses

pub returns-clause-publishes : goal.returns-clause-publishes
returns-clause-publishes c = publishes

pub returns-clause-unpublished : goal.returns-clause-unpublished
returns-clause-unpublished c s world desk is = ((tt, inr (refl, refl)), is)

pub returns-clause-idle : goal.returns-clause-idle
returns-clause-idle c = idle

pub returns-clause-no_core_step : goal.returns-clause-no_core_step
returns-clause-no_core_step c = no_core_step
