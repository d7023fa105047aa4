use Rattle.std.specs.Prelude.{◌≡◌, ◌+◌, ◌<◌, ◌^◌, drop}
use Rattle.numa_script.specs.Causes.{first_misfit, width_of}
use Rattle.numa_script.proofs.malformed.first_misfit.Given as goal

abbrev pub invariant-loop-parameter : goal.invariant-loop-parameter
invariant-loop-parameter l =
    (first_misfit l.keyword (drop l.parameter-index l.parameters) l.column l.words
    ≡ first_misfit l.keyword l.parameters l.fn.column l.fn.words)
    × (l.column + width_of l.words < 2 ^ 32)
