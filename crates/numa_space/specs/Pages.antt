-- Which pages are mapped, with which index, and which policy their range has (mbind(2),
-- set_mempolicy_home_node(2)).
use Rattle.std.specs.Prelude.{ℕ, ◌+◌, ◌-◌, Bool, true, false, not, Option, Some, None, List, []}
use Rattle.std.specs.Prelude.{◌∷◌, option_and_then, if◌then◌else◌}
use Rattle.std.specs.Option.{option_map, option_map_or}
use Rattle.numa_machine.specs.Machine.{Hardware}
use Rattle.numa_machine.specs.Sizes.{index_in, whole}
use Rattle.numa_mode.specs.Policy.{PolicyRecord, takes_home}
use Rattle.numa_requests.specs.declared.command.Command.{Command}
use Rattle.numa_requests.specs.declared.command.Command.TheVariants.{Map, Unmap, Mbind, SetHome}
use Rattle.numa_space.specs.History.{Place, last_where, page_of, in_span}
use Rattle.numa_space.specs.Policies.{record_set, policy_that_counts, task_record}

-- ---- the cover of a page

abbrev pub covers : ℕ → Command → Bool
covers page (Map start bytes offset size) = in_span start (whole size bytes) page
covers page (Unmap start bytes) = in_span start bytes page
covers page (Mbind start bytes spec) = in_span start bytes page
covers page _ = false

-- the last command that maps, unmaps or binds the page
abbrev pub cover_of : List Command → ℕ → Option Place
cover_of history page = last_where (covers page) history

abbrev pub is_unmap : Command → Bool
is_unmap (Unmap start bytes) = true
is_unmap _ = false

abbrev pub maps_or_unmaps : ℕ → Command → Bool
maps_or_unmaps page (Map start bytes offset size) = in_span start (whole size bytes) page
maps_or_unmaps page (Unmap start bytes) = in_span start bytes page
maps_or_unmaps page _ = false

-- a page is mapped where the last command that maps or unmaps it doesn't unmap it
abbrev pub is_mapped : List Command → ℕ → Bool
is_mapped history page = option_map_or (λ place. not (is_unmap place.command))
    (last_where (maps_or_unmaps page) history) false

-- ---- its index

abbrev pub maps : ℕ → Command → Bool
maps page (Map start bytes offset size) = in_span start (whole size bytes) page
maps page _ = false

abbrev pub index_by : ℕ → Command → ℕ
index_by page (Map start bytes offset size) = index_in size offset + (page - page_of start)
index_by page _ = 0

-- by the last command that maps the page: its offset, as an index of its size, and the page's place
-- in its span
abbrev pub index_of : List Command → ℕ → ℕ
index_of history page = option_map_or (λ place. index_by page place.command)
    (last_where (maps page) history) 0

-- ---- the record of its range

-- the home that the newest of these commands gives the page, if any does
abbrev pub last_home : ℕ → List Command → Option ℕ
last_home page [] = None
last_home page (SetHome start bytes node ∷ later) =
    if in_span start bytes page then Some node else last_home page later
last_home page (_ ∷ later) = last_home page later

-- the record with the home of the last command of these, for the modes that have one
abbrev pub at_home : ℕ → List Command → PolicyRecord → PolicyRecord
at_home page later r = if takes_home r then record r { home = last_home page later } else r

abbrev pub bound_by : Hardware → ℕ → Command → Place → Option PolicyRecord
bound_by machine page (Mbind start bytes spec) place =
    option_map (at_home page place.after) (record_set machine spec place)
bound_by machine page _ place = None

-- the record that the cover of the page set, where that is an Mbind other than DEFAULT
abbrev pub range_record : Hardware → List Command → ℕ → Option PolicyRecord
range_record machine history page = option_and_then
    (λ place. bound_by machine page place.command place) (cover_of history page)

-- the index and the range's record of each mapped page
abbrev pub page_in : Hardware → List Command → ℕ → Option (ℕ × Option PolicyRecord)
page_in machine history page = if is_mapped history page
    then Some (index_of history page, range_record machine history page) else None

-- ---- the policy that counts

-- the record of a page's range, where the page is mapped
abbrev pub policy_of_range : Option (ℕ × Option PolicyRecord) → Option PolicyRecord
policy_of_range = option_and_then (λ at. at.1)

-- the live policy of a page for a task; none is local allocation
abbrev pub resolved_policy : Hardware → List Command → ℕ → ℕ → Option PolicyRecord
resolved_policy machine history task page = policy_that_counts
    (policy_of_range (page_in machine history page)) (task_record machine history task)
