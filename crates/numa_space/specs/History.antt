-- A history is the list of the accepted commands, the newest first: `command ∷ history` is the
-- history with the command added.
use Rattle.std.specs.Prelude.{ℕ, ◌+◌, ◌/◌, Bool, Option, Some, None, List, [], ◌∷◌, if◌then◌else◌}
use Rattle.std.specs.Option.{option_map}
use Rattle.numa_ranges.specs.Runs.{in_pages}
use Rattle.numa_requests.specs.declared.command.Command.{Command}

-- ---- spans

-- the page of an address
abbrev pub page_of : ℕ → ℕ
page_of address = address / 4096

-- how many pages a length in bytes takes
abbrev pub page_count : ℕ → ℕ
page_count bytes = (bytes + 4095) / 4096

-- whether the span of a start and a length has the page
abbrev pub in_span : ℕ → ℕ → ℕ → Bool
in_span start bytes page = in_pages (page_of start) (page_count bytes) page

-- ---- the last command of a kind

-- a command of a history, with the commands before it and those after it, the newest first in both
pub record Place : Type 0 where
  pub before : List Command
  pub command : Command
  pub after : List Command

-- the place, once one more command came
abbrev pub one_later : Command → Place → Place
one_later command place = record place { after = command ∷ place.after }

-- the last command that passes the test
abbrev pub last_where : (Command → Bool) → List Command → Option Place
last_where test [] = None
last_where test (command ∷ history) =
    if test command then Some (record { before = history; command = command; after = [] })
    else option_map (one_later command) (last_where test history)
