use Rattle.std.proofs.Common.{◌≡◌, map, drop}
use Rattle.numa_script.specs.Tables.{meaning_of}
use Rattle.numa_script.proofs.table.meaning.Given as goal

abbrev pub invariant-loop-name : goal.invariant-loop-name
invariant-loop-name g l =
    meaning_of (map (λ entry. (entry.0.now, entry.1)) (drop l.name-index l.table)) l.word
    ≡ meaning_of (map (λ entry. (entry.0.now, entry.1)) l.table) l.word
