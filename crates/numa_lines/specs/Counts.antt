-- How many answers of worked scripts were compared.
use Rattle.std.specs.Prelude.{ℕ, ◌+◌, ◌-◌, ◌^◌, Bool, ◌||◌, min, if◌then◌else◌}
use Rattle.std.specs.Prelude.{length, nat_le}
use Rattle.numa_lines.specs.declared.answer.LatestAnswer.{LatestAnswer}
use Rattle.numa_lines.specs.declared.counts.Counts.{Counts}

-- a count that is one more, below 2^64
abbrev pub one_more : ℕ → ℕ
one_more n = min (n + 1) (2 ^ 64 - 1)

-- with one more that isn't as wanted
abbrev pub with_different : Counts → Counts
with_different counts = record counts { different = one_more counts.different }

-- with one more worked script in which no answer is wanted
abbrev pub with_idle : Counts → Counts
with_idle counts = record counts { idle = one_more counts.idle }

-- whether an answer has no further line
abbrev pub is_over : LatestAnswer → Bool
is_over answer = nat_le (length answer.text.items) answer.line

-- with what was given beyond what was wanted: it isn't as wanted where something was, or where it
-- is a fault
abbrev pub with_rest : Bool → Bool → Counts → Counts
with_rest is_wanted is_fault counts =
    if is_wanted || is_fault then with_different counts
    else record counts { uncompared = one_more counts.uncompared }

-- with what was given beyond what was wanted, where there is such
abbrev pub with_end : LatestAnswer → Bool → Bool → Counts → Counts
with_end answer is_wanted is_fault counts =
    if is_over answer then counts else with_rest is_wanted is_fault counts
