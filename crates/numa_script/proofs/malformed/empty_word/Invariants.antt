use Rattle.std.specs.Prelude.{◌≡◌, ◌+◌, ◌≤◌}
use Rattle.numa_script.specs.Causes.{empty_word, width_of}
use Rattle.numa_script.specs.Parts.{words_of}
use Rattle.numa_script.proofs.malformed.empty_word.Given as goal

abbrev pub invariant-loop-word : goal.invariant-loop-word
invariant-loop-word l =
    (empty_word l.column l.word-iterator ≡ empty_word 1 (words_of l.line))
    × (l.column + width_of l.word-iterator ≤ 4098)
