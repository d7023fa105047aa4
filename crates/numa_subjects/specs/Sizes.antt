-- Pages of 2 MiB.
use Rattle.std.specs.Prelude.{Bool}
use Rattle.std.specs.List.{list_any}
use Rattle.numa_host.specs.declared.process.Process.{Process}
use Rattle.numa_machine.specs.Sizes.{is_part}

-- a process has mapped some
abbrev pub has_parts : Process → Bool
has_parts process = list_any (λ range. is_part range.index) process.space.ranges
