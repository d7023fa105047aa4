-- What a kernel does otherwise with a line.
use Rattle.std.specs.Prelude.{Option, None, Ok}
use Rattle.numa_rules.specs.Otherwise.{otherwise_of, otherwise_of_empty_bind}
use Rattle.numa_rules.specs.declared.otherwise.Otherwise.{Otherwise}
use Rattle.numa_script.specs.declared.line.Line.{Line}
use Rattle.numa_script.specs.declared.line.Line.TheVariants as line
use Rattle.numa_space.specs.Standing.{SpaceState}

-- something only where the line says a command, or is one by the kernel's rules
abbrev pub hint_for : SpaceState → Line → Option Otherwise
hint_for space (line.Command (Ok command)) = otherwise_of space command
hint_for space (line.EmptyBind start fault) = otherwise_of_empty_bind space start
hint_for space _ = None
