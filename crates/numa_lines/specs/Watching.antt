-- What is known of a reader or a writer.
use Rattle.std.specs.Prelude.{ℕ, Bool, List, [], unwrap_or, if◌then◌else◌}
use Rattle.numa_lines.specs.declared.watched.Watched.{Watched}

-- a call on it has failed
abbrev pub has_failed : {S : Type 0} → Watched S → Bool
has_failed w = w.failed

-- how often it was read
abbrev pub read_count : {S : Type 0} → Watched S → ℕ
read_count w = w.reads

-- the texts that it holds back
abbrev pub held_in : {S : Type 0} → Watched S → List ℕ
held_in w = unwrap_or w.held []

-- the texts that are still to be written: once a write has failed, there are none
abbrev pub unsent : {S : Type 0} → Watched S → List ℕ
unsent w = if has_failed w then [] else held_in w
