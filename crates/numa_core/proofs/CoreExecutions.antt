-- The executions that lead to a core after a step.
use Rattle.std.proofs.Common.{◌≡◌, List, ◌∷◌, Result, sym, subst}
use Rattle.numa_requests.specs.declared.event.Event.{Event}
use Rattle.numa_requests.specs.declared.event.Event.TheVariants.{Accept, Publish, Begin, Seek, Look}
use Rattle.numa_requests.specs.declared.event.Event.TheVariants.{Try, Give}
use Rattle.numa_requests.specs.declared.event.CoreReply.{CoreReply}
use Rattle.numa_requests.specs.declared.event.CoreRefusal.{CoreRefusal}
use Rattle.numa_core.specs.World.{Setup, World, newest_published}
use Rattle.numa_core.specs.Steps.{MayTake}
use Rattle.numa_core.specs.Executions.{CoreStep, IsExecution, world_of}
use Rattle.numa_core.specs.Standing.{CoreState, CoreStandsFor, LeadsTo, setup_of, core_step_after}
use Rattle.numa_core.specs.Standing.{HasPast}
use Rattle.numa_core.specs.Kept.{Follows}

-- the version that the core takes may be taken
pub may_take : (core : CoreState) (world : World) (event : Event) → CoreStandsFor core world
    → MayTake world (newest_published world) event
may_take core world (Accept command) stands = tt
may_take core world Publish stands = tt
may_take core world (Begin w request) stands = (stands.published, stands.not_newer w)
may_take core world (Seek w node) stands = (stands.published, stands.not_newer w)
may_take core world (Look w word) stands = tt
may_take core world (Try w frame) stands = tt
may_take core world (Give w frame) stands = tt

-- a step leads on
pub leads_on : (old new : CoreState) (event : Event) (answer : Result CoreReply CoreRefusal)
    → setup_of new ≡ setup_of old → Follows old event answer new → (past : List CoreStep)
    → LeadsTo past old → LeadsTo (core_step_after (setup_of old) past event answer ∷ past) new
leads_on old new event answer same follows past leads =
    let s : Setup = setup_of old in
    let now : List CoreStep = core_step_after s past event answer ∷ past in
    let step = follows (world_of s past) leads.stands in
    let legal : IsExecution s now =
    (leads.legal, may_take old (world_of s past) event leads.stands, step.0) in
    record {
      legal = subst (λ s. IsExecution s now) (sym same) legal;
      stands = subst (λ s. CoreStandsFor new (world_of s now)) (sym same) step.1;
    }

-- so the new core has a past too
pub past_more : (old new : CoreState) (event : Event) (answer : Result CoreReply CoreRefusal)
    → setup_of new ≡ setup_of old → Follows old event answer new → HasPast old → HasPast new
past_more old new event answer same follows had = record {
  past = core_step_after (setup_of old) had.past event answer ∷ had.past;
  leads = leads_on old new event answer same follows had.past had.leads;
}
