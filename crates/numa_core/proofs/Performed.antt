-- What a caller of a core learns of an event that its state performed.
use Rattle.std.proofs.Common.{◌≡◌, ◌∷◌, List, Result, OnErr, sym, subst}
use Rattle.numa_requests.specs.declared.event.Event.{Event}
use Rattle.numa_requests.specs.declared.event.CoreReply.{CoreReply}
use Rattle.numa_requests.specs.declared.event.CoreRefusal.{CoreRefusal}
use Rattle.numa_core.specs.declared.state.State.{State}
use Rattle.numa_core.specs.Executions.{CoreStep}
use Rattle.numa_core.specs.Standing.{CoreState, LeadsTo, setup_of, core_step_after}
use Rattle.numa_core.specs.Kept.{Follows, Performs, core_state}
use Rattle.numa_core.proofs.CoreExecutions.{leads_on}

pub record Told (old : CoreState) (event : Event) (answer : Result CoreReply CoreRefusal)
    (new : CoreState) : Type 0 where
  pub answers : Follows old event answer new
  pub executions : (past : List CoreStep) → LeadsTo past old
      → LeadsTo (core_step_after (setup_of old) past event answer ∷ past) new
  pub unchanged : OnErr answer (new ≡ old)
  pub setup : setup_of new ≡ setup_of old

-- the event by another name
pub told-same : (old new : CoreState) (event done : Event) (answer : Result CoreReply CoreRefusal)
    → event ≡ done → Told old done answer new → Told old event answer new
told-same old new event done answer same told = subst (λ e. Told old e answer new) (sym same) told

pub told-by : (shown : CoreState) (old new : State) (event done : Event)
    (answer : Result CoreReply CoreRefusal) → core_state old ≡ shown → event ≡ done
    → Performs old done answer new → Told shown event answer (core_state new)
told-by shown old new event done answer is same did =
    subst (λ s. Told s event answer (core_state new)) is
    (told-same (core_state old) (core_state new) event done answer same (record {
      answers = did.follows;
      executions = leads_on (core_state old) (core_state new) done answer did.setup did.follows;
      unchanged = did.unchanged;
      setup = did.setup;
    }))
