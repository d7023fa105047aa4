-- Whose rules count on a machine, and whose orders it has, by the numbers of the header.
use Rattle.std.specs.Prelude.{ℕ, ◌==◌, Option, Some, None, Result, Ok, Err, if◌then◌else◌}
use Rattle.numa_machine.specs.declared.fallback.Fallback.{Fallback}
use Rattle.numa_machine.specs.declared.fallback.Fallback.TheVariants.{Nearest, Kernel}
use Rattle.numa_machine.specs.declared.rules.Rules.{Rules}
use Rattle.numa_machine.specs.declared.rules.Rules.TheVariants.{Document, Linux}
use Rattle.numa_mask.specs.Words.{number_of}
use Rattle.numaplan_c.specs.declared.options.NpOptions.{NpOptions}
use Rattle.numaplan_c.specs.declared.options.Options.{Options}

-- the rules that have this number: those of the documents, or those of the running kernel
abbrev pub rules_of : ℕ → Option Rules
rules_of number = if number == 0 then Some Document else if number == 1 then Some Linux else None

-- the orders that have this number: the nearest first, or a kernel's where these nodes have CPUs
abbrev pub fallback_of : ℕ → ℕ → Option Fallback
fallback_of number cpus =
    if number == 0 then Some Nearest else if number == 1 then Some (Kernel cpus) else None

abbrev pub options_with : Option Rules → Option Fallback → Result Options ℕ
options_with None orders = Err 56
options_with (Some rules) None = Err 57
options_with (Some rules) (Some fallback) = Ok (record { rules = rules; fallback = fallback })

-- what options ask for, or the number of what is wrong with them
abbrev pub options_of : NpOptions → Result Options ℕ
options_of options =
    options_with (rules_of options.rules)
    (fallback_of options.orders (number_of options.cpus.words))

-- what np_core_open goes by
abbrev pub documents : Options
documents = record { rules = Document; fallback = Nearest }
