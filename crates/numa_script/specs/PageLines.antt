-- What the lines about pages that are there say.
use Rattle.std.specs.Prelude.{ℕ, Bool, true, false, List, [], ◌∷◌, codes, if◌then◌else◌}
use Rattle.std.specs.Prelude.{Option, Some, None, Result, Ok, Err}
use Rattle.std.specs.Option.{option_map}
use Rattle.std.specs.Str.{bytes_eq}
use Rattle.numa_mask.specs.Lists.{list_of}
use Rattle.numa_mask.specs.declared.list.ListFault.{ListFault}
use Rattle.numa_script.specs.Numbers.{number_of, small_of}
use Rattle.numa_script.specs.Present.{four_of, three_of, two_of}
use Rattle.numa_script.specs.declared.line.Line.{Line}
use Rattle.numa_script.specs.declared.line.Line.TheVariants as line
use Rattle.numa_script.specs.declared.page_line.PageLine.TheVariants as page

-- at START LENGTH NODE
abbrev pub at_line : List (List ℕ) → Option Line
at_line words = option_map (λ v. line.Pages (Ok (page.At v.0 v.1 v.2)))
    (three_of number_of number_of small_of words)

-- room NODE PAGES, room
abbrev pub room_line : List (List ℕ) → Option Line
room_line [] = Some (line.Pages (Ok page.Rooms))
room_line (word ∷ words) = option_map (λ v. line.Pages (Ok (page.Room v.0 v.1)))
    (two_of small_of number_of (word ∷ words))

-- on, off
abbrev pub switch_of : List ℕ → Option Bool
switch_of word = if bytes_eq word (codes "on") then Some true
    else if bytes_eq word (codes "off") then Some false else None

-- memory-migrate on|off
abbrev pub memory_migrate_line : List (List ℕ) → Option Line
memory_migrate_line (word ∷ []) =
    option_map (λ follows. line.Pages (Ok (page.MemoryMigrate follows))) (switch_of word)
memory_migrate_line _ = None

-- two lists of nodes, or what is wrong with the first that is faulty
abbrev pub between : Result ℕ ListFault → Result ℕ ListFault → Line
between (Err fault) to = line.Pages (Err fault)
between (Ok from) (Err fault) = line.Pages (Err fault)
between (Ok from) (Ok to) = line.Pages (Ok (page.Migrate from to))

-- migrate FROM TO
abbrev pub migrate_line : List (List ℕ) → Option Line
migrate_line (from ∷ to ∷ []) = Some (between (list_of from) (list_of to))
migrate_line _ = None

-- move ADDR NODE
abbrev pub move_line : List (List ℕ) → Option Line
move_line words = option_map (λ v. line.Pages (Ok (page.Move v.0 v.1)))
    (two_of number_of small_of words)

-- populate START LENGTH TASK CPU
abbrev pub populate_line : List (List ℕ) → Option Line
populate_line words = option_map (λ v. line.Pages (Ok (page.Populate v.0 v.1 v.2 v.3)))
    (four_of number_of number_of small_of small_of words)

-- moved
abbrev pub moved_line : List (List ℕ) → Option Line
moved_line [] = Some (line.Pages (Ok page.Moved))
moved_line _ = None
