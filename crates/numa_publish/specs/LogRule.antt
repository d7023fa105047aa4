-- The rule of the log of batches, and what its one step tells.
use Rattle.std.specs.Prelude.{ℕ, ◌≡◌, ◌==◌, true, List, [], ◌∷◌, ◌++◌, length, MatchBool}
use Rattle.logbook.specs.Pages.{Cell, Step, View, Book, Named}
use Rattle.numa_publish.specs.declared.batch.Batch.{Batch}
use Rattle.numa_publish.specs.Batches.{IsLog, history_of}

-- the first word is the number of commands in the log, the second stays 0; and each batch has a
-- command
pub record CountsCommands (cells : List Cell) (log : List Batch) : Type 0 where
  pub cells_are : cells ≡ (length (history_of log), true) ∷ (0, true) ∷ []
  pub is_log : IsLog log

-- the word that counts the commands
abbrev pub count_word : Book → Named
count_word book = record { tracked = true; key = 0; book = book }

-- the batch was added to all that had been seen, where the word was as expected: to nothing else
abbrev pub AddsBatch : Step Batch → View Batch ℕ → ℕ → View Batch ℕ → Type 0
AddsBatch step before found after =
    MatchBool (found == step.old) (after.0 ≡ before.0 ++ step.ask ∷ []) (Unit {0})
