-- What the lines of a script so far have brought about.
use Rattle.std.specs.Prelude.{◌≡◌, ℕ, Option, None, []}
use Rattle.numa_machine.specs.Machine.{Hardware}
use Rattle.numa_machine.specs.declared.rules.Rules.{Rules}
use Rattle.numa_machine.specs.declared.rules.Rules.TheVariants.{Document}
use Rattle.numa_space.specs.Limited.{Bounds}
use Rattle.numa_core.specs.World.{Setup, World, opening}
use Rattle.numa_maps.specs.Residents.{Kept}
use Rattle.numa_placed.specs.declared.spot.Spot.TheVariants.{Nowhere}
use Rattle.numa_huge.specs.Moves.{HugeMemory}
use Rattle.numa_page_state.specs.Lying.{Lying, Process, nothing}

-- the limits; whose rules count on the machine to come, and the set of its nodes with CPUs, where a
-- line named them; the machine, once it is ready; the core's world, with the accepted commands; the
-- pages that `touch` has placed; where other pages lie; and, once a line is about them, pages of
-- 2 MiB
pub record State : Type 0 where
  pub bounds : Bounds
  pub rules : Rules
  pub cpus : Option ℕ
  pub machine : Option Hardware
  pub world : World
  pub resident : Kept
  pub lying : Lying
  pub huge : Option HugeMemory

-- the limits where no line gives others
abbrev pub usual_bounds : Bounds
usual_bounds = record { max_ranges = 65536; max_tasks = 1024; max_commands = 4294967295 }

-- before the first line, where these rules count unless a line gives others
abbrev pub start_by : Rules → State
start_by rules = record {
  bounds = usual_bounds;
  rules = rules;
  cpus = None;
  machine = None;
  world = opening;
  resident = [];
  lying = nothing;
  huge = None;
}

-- the same by the rules of the documents
abbrev pub start : State
start = start_by Document

-- no page was stated to lie anywhere
abbrev pub LieNowhere : State → Type 0
LieNowhere state = (page : ℕ) → state.lying.spots page ≡ Nowhere

-- a core has 4 workers
abbrev pub setup_with : Hardware → Bounds → Setup
setup_with machine bounds = record { machine = machine; bounds = bounds; workers = 4 }

-- the process, on a machine that is ready
abbrev pub process_on : Hardware → State → Process
process_on machine state = record {
  machine = machine;
  bounds = state.bounds;
  history = state.world.history;
  kept = state.resident;
}
