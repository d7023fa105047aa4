-- What clauses see of a desk, a receipt, a reader and a view. Every list has its newest in front.
use Rattle.std.specs.Prelude.{ℕ, ◌≡◌, ◌⊎◌, Some, List, [], ◌∷◌, ◌++◌, length}
use Rattle.logbook.specs.Pages.{Book}
use Rattle.numa_machine.specs.Machine.{Hardware}
use Rattle.numa_space.specs.Limited.{Bounds}
use Rattle.numa_space.specs.Refusals.{refusal_of}
use Rattle.numa_requests.specs.declared.command.Command.{Command}
use Rattle.numa_requests.specs.declared.refusal.Refusal.{Refusal}

-- which desk it is: the log of its commands, which no other desk has, and its machine
pub record DeskIdentity : Type 0 where
  pub book : Book
  pub machine : Hardware

-- a desk: which it is, its limits, the published history, the versions published so far, and the
-- commands that are accepted and not published
pub record DeskState : Type 0 where
  pub desk : DeskIdentity
  pub bounds : Bounds
  pub published : List Command
  pub versions : List ℕ
  pub pending : List Command

-- a receipt: of which desk, and the history that was published when it was made, with the versions
-- published up to then
pub record ReceiptState : Type 0 where
  pub desk : DeskIdentity
  pub history : List Command
  pub versions : List ℕ

-- a reader: of which desk, the history that it has seen or learnt, the versions published up to it,
-- how many enters it made, and how many of them were refused
pub record ReaderState : Type 0 where
  pub desk : DeskIdentity
  pub history : List Command
  pub versions : List ℕ
  pub enters : ℕ
  pub refused : ℕ

-- a view: the same, of the history that it shows, and the versions published up to it
pub record ViewState : Type 0 where
  pub desk : DeskIdentity
  pub history : List Command
  pub versions : List ℕ
  pub enters : ℕ
  pub refused : ℕ

-- the history of all accepted commands
abbrev pub accepted_commands : DeskState → List Command
accepted_commands desk = desk.pending ++ desk.published

-- a desk refuses a command: for lack of memory, or as the accepted history does
abbrev pub Refuses : DeskState → Command → Refusal → Type 0
Refuses desk command refusal =
    (refusal ≡ Refusal.NoMemory)
    ⊎ (refusal_of desk.desk.machine desk.bounds (accepted_commands desk) command ≡ Some refusal)

-- the versions with one more, where commands are pending
abbrev pub and_newest : List Command → ℕ → List ℕ → List ℕ
and_newest [] version versions = versions
and_newest (command ∷ commands) version versions = version ∷ versions

-- the versions once all that was accepted is published
abbrev pub versions_after : DeskState → List ℕ
versions_after desk = and_newest desk.pending (length (accepted_commands desk)) desk.versions

-- a reader of this desk that has seen nothing but version 0 and never entered
abbrev pub new_reader : DeskIdentity → ReaderState
new_reader desk = record {
  desk = desk;
  history = [];
  versions = 0 ∷ [];
  enters = 0;
  refused = 0;
}

-- the third history is the first or the second
abbrev pub IsOneOf : List Command → List Command → List Command → Type 0
IsOneOf own told history = (history ≡ own) ⊎ (history ≡ told)
