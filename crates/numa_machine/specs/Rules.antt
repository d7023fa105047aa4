-- Whose rules count.
use Rattle.std.specs.Prelude.{Bool, true, false}
use Rattle.numa_machine.specs.declared.rules.Rules.{Rules}
use Rattle.numa_machine.specs.declared.rules.Rules.TheVariants.{Document, Linux}

-- those of the running kernel count
abbrev pub is_linux : Rules → Bool
is_linux Document = false
is_linux Linux = true
