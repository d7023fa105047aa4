use Rattle.std.proofs.Common.{◌∷◌, List, Ok, subst}
use Rattle.numa_requests.specs.declared.event.Event.TheVariants.{Accept}
use Rattle.numa_requests.specs.declared.event.CoreReply.TheVariants.{Accepted}
use Rattle.numa_core.specs.Executions.{CoreStep}
use Rattle.numa_core.specs.Standing.{CoreState, LeadsTo, core_step_after, setup_of}
use Rattle.numa_pages.proofs.trial.tried.Goals as goal

pub returns-in-Ok-accept-clause-core : goal.returns-in-Ok-accept-clause-core
returns-in-Ok-accept-clause-core c =
    let P : CoreState → Type 0 = λ core. (past : List CoreStep) → LeadsTo past core
    → LeadsTo (core_step_after (setup_of core) past (Accept c.args.command.now)
    (Ok (Accepted c.in-Ok-accept.field-0.version)) ∷ past) c.accept.new.self in (
      c.in-Ok-accept.field-0.version,
      subst P c.in-Ok.ensures.same c.in-Ok-accept.ensures.executions,
    )
