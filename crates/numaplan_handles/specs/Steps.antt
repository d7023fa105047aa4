-- What a handle of a core keeps, and what an event does to it.
use Rattle.std.specs.Prelude.{◌≡◌, ℕ, Option, Some, Result, List, ◌∷◌, ◌++◌, OnErr}
use Rattle.numa_core.specs.Executions.{CoreStep}
use Rattle.numa_core.specs.Standing.{CoreState, CoreStandsFor, LeadsTo, core_step_after, setup_of}
use Rattle.numa_core.specs.Touching.{IsTouch}
use Rattle.numa_core.specs.World.{World, first_commands, newest_published}
use Rattle.numa_compile.specs.Standing.{IsPlanOf, PlanStandsFor}
use Rattle.numa_plan.specs.Meaning.{PlanData}
use Rattle.numa_space.specs.Standing.{StandsFor}
use Rattle.numa_requests.specs.declared.command.Command.{Command}
use Rattle.numa_requests.specs.declared.request.Request.{Request}
use Rattle.numa_requests.specs.declared.event.Event.{Event}
use Rattle.numa_requests.specs.declared.event.CoreReply.{CoreReply}
use Rattle.numa_requests.specs.declared.event.CoreRefusal.{CoreRefusal}

-- the event took the core from the one state to the other with this answer: each execution that led
-- to the first leads with this step to the second, and a refusal changes nothing
pub record IsStep (before : CoreState) (event : Event) (answer : Result CoreReply CoreRefusal)
    (after : CoreState) : Type 0 where
  pub runs : (run : List CoreStep) → LeadsTo run before
      → LeadsTo (core_step_after (setup_of before) run event answer ∷ run) after
  pub unchanged : OnErr answer (after ≡ before)
  pub setup : setup_of after ≡ setup_of before

-- the same of what is kept: a core before and a core after
abbrev pub Steps : Event → Option CoreState → Option CoreState → Result CoreReply CoreRefusal
    → Type 0
Steps event old new answer =
    (before : CoreState) → old ≡ Some before →
    (after : CoreState) × (new ≡ Some after) × IsStep before event answer after

-- the touch took the core from one state to another: each execution that leads to the first leads,
-- with the steps of a touch that is answered so, to the second
pub record IsTouched (before : CoreState) (worker : ℕ) (request : Request)
    (answer : Result CoreReply CoreRefusal) (after : CoreState) : Type 0 where
  pub runs : (run : List CoreStep) → LeadsTo run before → (core_steps : List CoreStep)
      × IsTouch worker request answer core_steps × LeadsTo (core_steps ++ run) after
  pub unchanged : OnErr answer (after ≡ before)
  pub setup : setup_of after ≡ setup_of before

abbrev pub Touches : ℕ → Request → Option CoreState → Option CoreState
    → Result CoreReply CoreRefusal → Type 0
Touches worker request old new answer =
    (before : CoreState) → old ≡ Some before →
    (after : CoreState) × (new ≡ Some after) × IsTouched before worker request answer after

-- the plan is that of the core's accepted commands
abbrev pub Compiles : Option CoreState → PlanData → Type 0
Compiles kept plan = (core : CoreState) → kept ≡ Some core → IsPlanOf core.space plan
    × ((history : List Command) → StandsFor core.space history
    → PlanStandsFor core.space.machine plan history)

-- the plan is that of the core's published commands
abbrev pub Publishes : Option CoreState → PlanData → Type 0
Publishes kept plan = (core : CoreState) → kept ≡ Some core → (plan ≡ core.plan)
    × ((world : World) → CoreStandsFor core world → PlanStandsFor core.space.machine plan
    (first_commands (newest_published world) world.history))

-- this many commands are accepted, and this many of them are published
abbrev pub HasVersions : Option CoreState → ℕ → ℕ → Type 0
HasVersions kept accepted published = (core : CoreState) → kept ≡ Some core →
    (accepted ≡ core.space.version) × (published ≡ core.plan.version)
