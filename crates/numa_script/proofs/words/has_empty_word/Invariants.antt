use Rattle.std.proofs.Common.{◌≡◌}
use Rattle.numa_script.specs.Lines.{has_empty_word}
use Rattle.numa_script.proofs.EmptyWords.{any_empty}
use Rattle.numa_script.proofs.words.has_empty_word.Given as goal

abbrev pub invariant-loop-word : goal.invariant-loop-word
invariant-loop-word l = any_empty l.word-iterator ≡ has_empty_word l.line
