use Rattle.std.proofs.Common.{◌≡◌, drop}
use Rattle.std.specs.Str.{bytes_eq}
use Rattle.numa_script.proofs.keyword.is.Given as goal

abbrev pub invariant-loop-place : goal.invariant-loop-place
invariant-loop-place l =
    bytes_eq (drop l.place l.word) (drop l.place l.name) ≡ bytes_eq l.word l.name
