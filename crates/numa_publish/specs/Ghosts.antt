-- A machine and limits that clauses alone read.
use Rattle.std.specs.Prelude.{List, [], ◌∷◌}
use Rattle.numa_machine.specs.declared.fallback.Fallback.TheVariants.{Nearest}
use Rattle.numa_machine.specs.declared.rules.Rules.TheVariants.{Document}
use Rattle.numa_machine.specs.Machine.{Hardware}
use Rattle.numa_space.specs.Limited.{Bounds}

-- stands for the machine where none is known yet
abbrev pub no_machine : Hardware
no_machine = record {
  nodes = 0;
  memory = 0;
  distances = [];
  frames = [];
  rules = Document;
  fallback = Nearest;
}

-- stands for the limits of no desk
abbrev pub no_bounds : Bounds
no_bounds = record { max_ranges = 0; max_tasks = 0; max_commands = 0 }

-- the machine that a list holds first
abbrev pub first_machine : List Hardware → Hardware
first_machine [] = no_machine
first_machine (machine ∷ machines) = machine
