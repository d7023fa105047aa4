-- The log of accepted commands in batches, and lists of which the newest stands first.
use Rattle.std.specs.Prelude.{◌≡◌, ◌<◌, ◌+◌, ℕ, List, [], ◌∷◌, ◌++◌, length, reverse}
use mathlib.Core.List.{IsPrefix}
use Rattle.numa_requests.specs.declared.command.Command.{Command}
use Rattle.numa_publish.specs.declared.batch.Batch.{Batch}

-- the history that batches make; they stand in the order in which they came, each with its newest
-- command first
abbrev pub history_of : List Batch → List Command
history_of [] = []
history_of (batch ∷ batches) = history_of batches ++ batch.commands

-- the versions before the last of these batches, which follow so many commands and these versions
abbrev pub before_last : List Batch → ℕ → List ℕ → List ℕ
before_last [] count earlier = earlier
before_last (batch ∷ batches) count earlier =
    before_last batches (length batch.commands + count) (count ∷ earlier)

-- the versions published up to this beginning of the log: 0, and one after each batch
abbrev pub versions_of : List Batch → List ℕ
versions_of log = length (history_of log) ∷ before_last log 0 []

-- the later list is some more in front of the earlier one
abbrev pub Extends : {A : Type 0} → List A → List A → Type 0
Extends {A} earlier later = (more : List A) × (later ≡ more ++ earlier)

-- pending commands, the oldest first, as a batch
abbrev pub batch_of : List Command → Batch
batch_of pending = record { commands = reverse pending }

-- each batch has a command; so two beginnings of such a log with equally many commands are one
abbrev pub IsLog : List Batch → Type 0
IsLog log = (earlier : List Batch) (batch : Batch) → IsPrefix (earlier ++ batch ∷ []) log
    → 0 < length batch.commands
