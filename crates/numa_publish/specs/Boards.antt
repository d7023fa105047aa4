-- What a board shows, and of which desk it is.
use Rattle.std.specs.Arc.{arc_value}
use Rattle.logbook.specs.Pages.{Book}
use Rattle.numa_publish.specs.declared.issue.Notice.{Notice}
use Rattle.numa_publish.specs.declared.issue.Shown.{Shown}
use Rattle.numa_publish.specs.Shown.{DeskIdentity}

-- stands for the log of no desk
abbrev pub no_book : Book
no_book = record { number = 0; log_name = 0; cells_name = 0 }

-- what is shown tells of the desk
abbrev pub notice_of : Shown → Notice
notice_of shown = record { machine = (arc_value shown.issue).machine; front = shown.front }

-- the desk of which a notice is
abbrev pub desk_in : Notice → DeskIdentity
desk_in notice = record { book = notice.front.book; machine = notice.machine }

-- the desk whose version is shown
abbrev pub desk_told : Shown → DeskIdentity
desk_told shown = desk_in (notice_of shown)
