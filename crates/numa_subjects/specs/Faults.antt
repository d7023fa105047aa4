-- Answers that tell a fault or a refusal, and what was told.
use Rattle.std.specs.Prelude.{ℕ, Bool, ◌||◌, List, codes, nat_lt, if◌then◌else◌}
use Rattle.numa_lines.specs.Worked.{begins_with}
use Rattle.numa_subjects.specs.declared.ended.Ended.{Ended}
use Rattle.numa_subjects.specs.declared.ended.Ended.TheVariants.{Clean, Faulty}

-- how the texts of faults and refusals begin, and no other answer's
abbrev pub tells_fault : List ℕ → Bool
tells_fault answer =
    begins_with (codes "bad ") answer || begins_with (codes "refused ") answer

-- whether something was wrong: lines were told of, or weren't judged
abbrev pub has_faults : ℕ → ℕ → Bool
has_faults told unjudged = nat_lt 0 told || nat_lt 0 unjudged

-- an answer goes by all lines, or by the accepted ones alone
abbrev pub ended_by : Bool → Ended
ended_by faulty = if faulty then Faulty else Clean
