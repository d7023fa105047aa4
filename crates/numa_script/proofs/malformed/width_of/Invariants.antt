use Rattle.std.specs.Prelude.{◌≡◌, ◌+◌, ◌<◌, ◌^◌, take}
use Rattle.numa_script.specs.Causes.{width_of}
use Rattle.numa_script.proofs.malformed.width_of.Given as goal

abbrev pub invariant-loop-left : goal.invariant-loop-left
invariant-loop-left l =
    (l.width + width_of (take l.left l.words) ≡ width_of (take l.count l.fn.words))
    × (l.width + width_of l.words < 2 ^ 32)
