-- Legal steps of the core's world, one at a time, and the histories that are published in it.
use Rattle.std.specs.Prelude.{◌≡◌, ℕ, true, Result, List, length}
use Rattle.numa_requests.specs.declared.command.Command.{Command}
use Rattle.numa_publish.specs.Batches.{Extends}
use Rattle.numa_core.specs.World.{Setup, World, first_commands, is_published}
use Rattle.numa_core.specs.Steps.{IsAnswer, MayTake, world_after}
use Rattle.numa_core.specs.Executions.{CoreStep}
use Rattle.numa_requests.specs.declared.event.CoreRefusal.{CoreRefusal}
use Rattle.numa_requests.specs.declared.event.Event.{Event}
use Rattle.numa_requests.specs.declared.event.CoreReply.{CoreReply}

-- the step may come next: its version may be taken, and the event may have this answer
abbrev pub IsLegal : Setup → World → CoreStep → Type 0
IsLegal s world m =
    MayTake world m.version m.event × IsAnswer s world m.version m.event m.answer

-- the world after the step
abbrev pub after_core_step : Setup → World → CoreStep → World
after_core_step s world m = world_after s world m.version m.event m.answer

-- the step of an event that takes no version
abbrev pub core_step_of : Event → Result CoreReply CoreRefusal → CoreStep
core_step_of event answer = record { event = event; version = 0; answer = answer }

-- the history is that of a published version of the world
pub record IsPublishedIn (world : World) (history : List Command) : Type 0 where
  pub published : is_published world (length history) ≡ true
  pub commands : first_commands (length history) world.history ≡ history

-- what the world accepted begins with this history, and what it published with these versions
pub record HasPublished (world : World) (history : List Command) (versions : List ℕ) : Type 0 where
  pub commands : Extends history world.history
  pub numbers : Extends versions world.published
