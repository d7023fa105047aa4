use Rattle.std.proofs.Common.{◌≡◌, ◌++◌, length}
use Rattle.numa_lines.specs.Echo.{with_marks, marked_from}
use Rattle.numa_lines.proofs.echo.say_with_marks.Given as goal

-- What was said, and the rest with its marks, are the text.
abbrev pub invariant-loop-byte : goal.invariant-loop-byte
invariant-loop-byte l =
    l.text.items ++ marked_from l.begins l.rest ≡ l.fn.text.items ++ with_marks l.fn.answer

abbrev pub decreases-loop-byte : goal.decreases-loop-byte
decreases-loop-byte l = length l.rest
