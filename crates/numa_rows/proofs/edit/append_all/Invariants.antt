use Rattle.std.proofs.Common.{◌≡◌, ◌++◌, take}
use Rattle.numa_rows.specs.Parts.{flat}
use Rattle.numa_rows.proofs.edit.append_all.Given as goal

abbrev pub invariant-loop-chunk : goal.invariant-loop-chunk
invariant-loop-chunk g l = l.others.items ≡ l.initial.others.items
    ++ flat (take l.chunk-index l.chunks)
