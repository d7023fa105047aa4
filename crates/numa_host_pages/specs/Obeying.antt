-- What a command that a host accepted does to the pages of its processes.
use Rattle.std.specs.Prelude.{ℕ, Bool, List, [], ◌∷◌, unwrap_or}
use Rattle.numa_machine.specs.Machine.{Hardware}
use Rattle.numa_host.specs.Groups.{effective_mems, groups_of}
use Rattle.numa_host.specs.Processes.{group_in, members_of, nodes_of}
use Rattle.numa_requests.specs.declared.host_command.HostCommand.{HostCommand}
use Rattle.numa_requests.specs.declared.host_command.HostCommand.TheVariants.{NewProcess, Exit}
use Rattle.numa_requests.specs.declared.host_command.HostCommand.TheVariants.{Attach, Fork}
use Rattle.numa_requests.specs.declared.host_command.HostCommand.TheVariants.{SetGroupMems}
use Rattle.numa_page_state.specs.Outcomes.{Lack}
use Rattle.numa_host_pages.specs.Homes.{HostLying, all_still, followed_each, with_attached}
use Rattle.numa_host_pages.specs.Homes.{with_born, with_child, with_ended}
use Rattle.numa_host_pages.specs.TopDown.{top_down}

-- groups allow what their lists say now, and the pages of each process follow whose group allows
-- others than before: this is the host's last move
abbrev pub mems_followed : (ℕ → ℕ → Lack) → Hardware → List HostCommand → HostLying → HostLying
mems_followed lacks machine history at = followed_each lacks
    (effective_mems machine.memory (groups_of history)) (top_down (groups_of history))
    (all_still at)

-- a new process has no page, nor has a child until it writes, which has what its parent has mapped
-- as pages of 2 MiB; one that ends gives its room back, and pages of 2 MiB to the pools; and pages
-- of both sizes follow the nodes that their process is allowed. `lacks` says of each place among the
-- groups, and in the list of processes, what the move of the pages there lacked
abbrev pub pages_after : (ℕ → ℕ → Lack) → Hardware → List HostCommand → HostCommand → HostLying
    → HostLying
pages_after lacks machine history (NewProcess process group) at =
    with_born process group (effective_mems machine.memory (groups_of history) group) at
pages_after lacks machine history (Fork parent child from task) at =
    with_child parent child (unwrap_or (group_in (members_of history) parent) 0)
    (nodes_of machine history parent) at
pages_after lacks machine history (Exit process) at = with_ended process at
pages_after lacks machine history (Attach process group) at =
    with_attached (lacks 0 0) process group (nodes_of machine history process)
    (effective_mems machine.memory (groups_of history) group) at
pages_after lacks machine history (SetGroupMems name mems) at =
    mems_followed lacks machine (SetGroupMems name mems ∷ history) at
pages_after lacks machine history _ at = at
