-- In which order the processes of a host are told of their nodes.
use Rattle.std.specs.Prelude.{ℕ, ◌==◌, not, List, [], ◌∷◌, ◌++◌, filter, reverse}
use Rattle.std.specs.Prelude.{if◌then◌else◌, unwrap_or}
use Rattle.numa_host.specs.Processes.{Member, group_in, members_of}
use Rattle.numa_host.specs.declared.group.ControlGroup.{ControlGroup}
use Rattle.numa_requests.specs.declared.host_command.HostCommand.{HostCommand}
use Rattle.numa_requests.specs.declared.host_command.HostCommand.TheVariants.{NewProcess, Exit}
use Rattle.numa_requests.specs.declared.host_command.HostCommand.TheVariants.{Attach, Fork}
use Rattle.numa_host_pages.specs.Homes.{Home}

-- the groups below one, of a list with the oldest first: each before those below it, and siblings
-- as they were made
abbrev pub below_in : List ControlGroup → ℕ → List ℕ
below_in [] name = []
below_in (group ∷ newer) name =
    if group.parent == name then
    group.name ∷ (below_in newer group.name ++ below_in newer name)
    else below_in newer name

-- the groups below the root, of a list with the newest first, from the top down
abbrev pub top_down : List ControlGroup → List ℕ
top_down groups = below_in (reverse groups) 0

-- the processes of a group, and of groups one after the other, as they came to these
abbrev pub those_of : ℕ → List Home → List ℕ
those_of group [] = []
those_of group (home ∷ homes) =
    if home.group == group then home.id ∷ those_of group homes else those_of group homes

abbrev pub told_in : List ℕ → List Home → List ℕ
told_in [] homes = []
told_in (group ∷ groups) homes = those_of group homes ++ told_in groups homes

-- the processes and their groups, in the order in which they came to these: one that moves to a
-- group comes last, and a child comes to the group of its parent
abbrev pub arrivals_of : List HostCommand → List Member
arrivals_of [] = []
arrivals_of (NewProcess process group ∷ history) = arrivals_of history ++ (process, group) ∷ []
arrivals_of (Exit process ∷ history) =
    filter (λ member. not (member.0 == process)) (arrivals_of history)
arrivals_of (Attach process group ∷ history) =
    filter (λ member. not (member.0 == process)) (arrivals_of history) ++ (process, group) ∷ []
arrivals_of (Fork parent child from task ∷ history) =
    arrivals_of history ++ (child, unwrap_or (group_in (members_of history) parent) 0) ∷ []
arrivals_of (_ ∷ history) = arrivals_of history
