use Rattle.std.proofs.Common.{◌≡◌, []}
use Rattle.numa_mask.specs.Parts.{parts_of}
use Rattle.numa_command_line.specs.Values.{frees_from}
use Rattle.numa_command_line.proofs.words.free.read.Given as goal

-- what is left, behind what is named so far, gives the whole
abbrev pub invariant-loop-part : goal.invariant-loop-part
invariant-loop-part l = frees_from [] (parts_of 44 l.fn.text) ≡ frees_from l.named.items
    l.part-iterator
