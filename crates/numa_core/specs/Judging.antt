-- Judging a Begin in a core that stands for a world.
use Rattle.std.specs.Prelude.{◌≡◌, ℕ, Option, Some, List}
use Rattle.numa_requests.specs.declared.request.Request.{Request}
use Rattle.numa_requests.specs.declared.event.Event.TheVariants.{Begin}
use Rattle.numa_requests.specs.declared.event.CoreRefusal.{CoreRefusal}
use Rattle.numa_requests.specs.declared.event.CoreRefusal.TheVariants as core
use Rattle.numa_machine.specs.declared.refusal.PlaceRefusal.{PlaceRefusal}
use Rattle.numa_machine.specs.declared.refusal.PlaceRefusal.TheVariants as place
use Rattle.numa_core.specs.World.{World, newest_published, list_at}
use Rattle.numa_core.specs.Steps.{refusal_of}
use Rattle.numa_core.specs.Standing.{CoreState, CoreStandsFor, setup_of}
use Rattle.numa_core.specs.Seats.{core_of}
use Rattle.numa_core.specs.declared.seat.WorkerSeat.{WorkerSeat}
use Rattle.numa_space.specs.Standing.{SpaceState}
use Rattle.numa_plan.specs.Meaning.{PlanData}

-- why a Begin is refused that takes the version, by what refuses its request there
abbrev pub cause_at : ℕ → PlaceRefusal → CoreRefusal
cause_at version place.BadCpu = core.BadCpu
cause_at version place.Unmapped = core.Unmapped version

-- in each world that the core stands for, the worker's Begin of the request is refused so, or not
-- at all
abbrev pub IsJudged : CoreState → ℕ → Request → Option CoreRefusal → Type 0
IsJudged core w request refusal = (world : World) → CoreStandsFor core world →
    refusal_of (setup_of core) world (newest_published world) (Begin w request) ≡ refusal

-- in each such world these nodes are the list of the newest published version for the request
abbrev pub IsListed : CoreState → Request → List ℕ → Type 0
IsListed core request nodes = (world : World) → CoreStandsFor core world →
    list_at core.space.machine world.history (newest_published world) request ≡ Some nodes

-- so it is in each core with this plan and these seats
abbrev pub Judges : PlanData → List WorkerSeat → ℕ → Request → Option CoreRefusal → Type 0
Judges plan seats w request refusal = (space : SpaceState) (owners : List (Option ℕ)) →
    IsJudged (core_of space plan seats owners) w request refusal

abbrev pub Lists : PlanData → List WorkerSeat → Request → List ℕ → Type 0
Lists plan seats request nodes = (space : SpaceState) (owners : List (Option ℕ)) →
    IsListed (core_of space plan seats owners) request nodes
