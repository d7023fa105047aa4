-- A desk beside the core's world. First what its calls do, as their contracts say it.
use Rattle.std.specs.Prelude.{◌≡◌, ℕ, ◌+◌, ◌≤◌, List, [], ◌∷◌, Some, None, length, slice_get}
use Rattle.numa_machine.specs.Machine.{Hardware}
use Rattle.numa_space.specs.Limited.{Bounds}
use Rattle.numa_space.specs.Refusals.{refusal_of}
use Rattle.numa_requests.specs.declared.command.Command.{Command}
use Rattle.numa_publish.specs.Shown.{DeskState, accepted_commands, versions_after}
use Rattle.numa_core.specs.World.{Setup, World}
use Rattle.numa_core.specs.Executions.{CoreStep}
use Rattle.numa_refinement.specs.LegalSteps.{IsLegal, HasPublished, after_core_step}

-- a desk of this machine with these limits, as `Desk::new` makes it
pub record IsNew (machine : Hardware) (bounds : Bounds) (desk : DeskState) : Type 0 where
  pub machine_is : desk.desk.machine ≡ machine
  pub bounds_are : desk.bounds ≡ bounds
  pub published : desk.published ≡ []
  pub pending : desk.pending ≡ []
  pub versions : desk.versions ≡ 0 ∷ []

-- `accept` took the command, and answered this version
pub record Accepts (before : DeskState) (command : Command) (version : ℕ) (after : DeskState)
    : Type 0 where
  pub allowed :
      refusal_of before.desk.machine before.bounds (accepted_commands before) command ≡ None
  pub version_is : version ≡ length (accepted_commands before) + 1
  pub added : after ≡ record before { pending = command ∷ before.pending }

-- `publish` was Ok
pub record Publishes (before after : DeskState) : Type 0 where
  pub desk : after.desk ≡ before.desk
  pub bounds : after.bounds ≡ before.bounds
  pub published : after.published ≡ accepted_commands before
  pub pending : after.pending ≡ []
  pub versions : after.versions ≡ versions_after before

-- the desk is the world's: it has the machine and the limits; what it accepted is the world's
-- history; the versions that it published are the world's, and the newest of them counts the
-- published history
pub record IsDeskOf (s : Setup) (world : World) (desk : DeskState) : Type 0 where
  pub machine : desk.desk.machine ≡ s.machine
  pub bounds : desk.bounds ≡ s.bounds
  pub history : world.history ≡ accepted_commands desk
  pub versions : world.published ≡ desk.versions
  pub newest : slice_get desk.versions 0 ≡ Some (length desk.published)

-- the step is legal in the world, and leads to a world whose desk this is
abbrev pub LeadsTo : Setup → World → CoreStep → DeskState → Type 0
LeadsTo s world m desk = IsLegal s world m × IsDeskOf s (after_core_step s world m) desk

-- where the desk has published a version as new as the history, its world has published the history
-- and the versions
abbrev pub HasPublishedBy : DeskState → List Command → List ℕ → Type 0
HasPublishedBy desk history versions = (s : Setup) (world : World) → IsDeskOf s world desk
    → length history ≤ length desk.published → HasPublished world history versions
