-- What holds of every desk, reader and view.
use Rattle.std.specs.Prelude.{◌≡◌, List, [], ◌∷◌, ◌++◌, length, reverse}
use Rattle.std.specs.Arc.{arc_value}
use Rattle.logbook.specs.Pages.{Book}
use Rattle.numa_requests.specs.declared.command.Command.{Command}
use Rattle.numa_space.specs.Standing.{SpaceState, StandsFor}
use Rattle.numa_publish.specs.declared.batch.Batch.{Batch}
use Rattle.numa_publish.specs.declared.issue.Issue.{Issue}
use Rattle.numa_publish.specs.declared.issue.Notice.{Notice}
use Rattle.numa_publish.specs.declared.issue.Shown.{Shown}
use Rattle.numa_publish.specs.declared.past.Past.{Past}
use Rattle.numa_publish.specs.Batches.{batch_of, history_of, versions_of}
use Rattle.numa_publish.specs.Shown.{ReaderState, ViewState}

-- the notice of a desk with this space, which this beginning of the log of this book stands for
pub record IsNoticeOf (space : SpaceState) (log : List Batch) (book : Book) (notice : Notice)
    : Type 0 where
  pub machine_is : notice.machine ≡ space.machine
  pub book_is : notice.front.book ≡ book
  pub log_is : notice.front.log ≡ log

-- a desk with this space, which shows what this notice tells: all of its log; `commands` are
-- pending, the oldest first
pub record IsDeskKept (space : SpaceState) (notice : Notice) (log : List Batch) (book : Book)
    (commands : List Command) : Type 0 where
  pub stands : StandsFor space (reverse commands ++ history_of log)
  pub shown : IsNoticeOf space log book notice

-- an issue of a space with this history
pub record IsIssueOf (space : SpaceState) (history : List Command) (issue : Issue) : Type 0 where
  pub machine_is : issue.machine ≡ space.machine
  pub history_is : issue.history ≡ history

-- the notice of all that is accepted where these commands are pending, the oldest first, and the
-- log of the same book with them, `later`
pub record IsNextNotice (space : SpaceState) (log : List Batch) (book : Book)
    (commands : List Command) (notice : Notice) (later : List Batch) (same : Book) : Type 0 where
  pub notice_is : IsNoticeOf space (log ++ batch_of commands ∷ []) book notice
  pub log_is : later ≡ log ++ batch_of commands ∷ []
  pub book_is : same ≡ book

-- a reader with this past, which took this version last
pub record IsReaderKept (past : Past) (shown : Shown) : Type 0 where
  pub version_is : past.version ≡ length (history_of past.front.log)
  pub book_is : shown.front.book ≡ past.front.book

-- a view, by such a reader, of that version
pub record IsViewKept (past : Past) (shown : Shown) : Type 0 where
  pub reader : IsReaderKept past shown
  pub history_is : history_of past.front.log ≡ (arc_value shown.issue).history

-- what clauses see of a reader with this past, at a board of the desk whose version this is
abbrev pub reader_shown : Past → Shown → ReaderState
reader_shown past shown = record {
  desk = record { book = past.front.book; machine = (arc_value shown.issue).machine };
  history = history_of past.front.log;
  versions = versions_of past.front.log;
  enters = past.enters;
  refused = past.refused;
}

-- and of a view by such a reader
abbrev pub view_shown : Past → Shown → ViewState
view_shown past shown = record {
  desk = record { book = past.front.book; machine = (arc_value shown.issue).machine };
  history = history_of past.front.log;
  versions = versions_of past.front.log;
  enters = past.enters;
  refused = past.refused;
}
