-- Causes that are answered before anything has changed.
use Rattle.std.proofs.Common.{◌≡◌, ◌<◌, ◌≤◌, ℕ, true, false, List, length}
use Rattle.std.proofs.Common.{None, Err, leb, refl, sym, ap, ◌∙◌, arith}
use Rattle.std.proofs.lemmas.Bool.{le-leb}
use Rattle.std.specs.List.{list_any, position}
use Rattle.numa_requests.specs.declared.host_command.HostCommand.{HostCommand}
use Rattle.numa_requests.specs.declared.host_command.HostCommand.TheVariants.{NewGroup, NewProcess}
use Rattle.numa_requests.specs.declared.host_command.HostCommand.TheVariants.{Exit}
use Rattle.numa_requests.specs.declared.host_command.HostCommand.TheVariants.{Attach, Fork}
use Rattle.numa_requests.specs.declared.host_refusal.HostRefusal.TheVariants as cause
use Rattle.numa_host.specs.Groups.{groups_of, is_group}
use Rattle.numa_host.specs.Processes.{Member, is_there, members_of}
use Rattle.numa_host.specs.Standing.{HostState, HostStandsFor, IsHostApplied, IsHostSound}
use Rattle.numa_host.proofs.Found.{has_id}
use Rattle.numa_host.proofs.Members.{there-known}
use Rattle.numa_host.proofs.Steps.{group-known, groups-count, members-count, not-spent, refused}
use Rattle.numa_host.proofs.Told.{IsPlaceOf, position-none, there}

module _ (host : HostState) (room : host.version < host.blank.bounds.max_commands) where
  spent : (history : List HostCommand) → HostStandsFor host history
      → leb host.blank.bounds.max_commands (length history) ≡ false
  spent history stands = not-spent host history stands room

  pub new_group-exists : (name parent : ℕ) → is_group host.groups name ≡ true
      → IsHostApplied host (NewGroup name parent) (Err cause.GroupExists) host
  new_group-exists name parent known = refused host (NewGroup name parent) cause.GroupExists
      (λ same. cc) (λ history stands.
      let here : is_group (groups_of history) name ≡ true = group-known host history stands name
      ∙ known in
      rw (spent history stands, here) refl)

  pub new_group-orphan : (name parent : ℕ) → is_group host.groups name ≡ false
      → is_group host.groups parent ≡ false
      → IsHostApplied host (NewGroup name parent) (Err cause.NoSuchGroup) host
  new_group-orphan name parent new absent = refused host (NewGroup name parent) cause.NoSuchGroup
      (λ same. cc) (λ history stands.
      let here : is_group (groups_of history) name ≡ false = group-known host history stands name
      ∙ new in
      let above : is_group (groups_of history) parent ≡ false =
      group-known host history stands parent ∙ absent in
      rw (spent history stands, here, above) refl)

  pub new_group-many : (name parent : ℕ) → is_group host.groups name ≡ false
      → is_group host.groups parent ≡ true → 1024 ≤ length host.groups
      → IsHostApplied host (NewGroup name parent) (Err cause.TooManyGroups) host
  new_group-many name parent new known many =
      refused host (NewGroup name parent) cause.TooManyGroups (λ same. cc) (λ history stands.
      let here : is_group (groups_of history) name ≡ false = group-known host history stands name
      ∙ new in
      let above : is_group (groups_of history) parent ≡ true =
      group-known host history stands parent ∙ known in
      let full : leb 1024 (length (groups_of history)) ≡ true =
      le-leb 1024 (length (groups_of history))
      (omega (arith, groups-count host history stands, many)) in
      rw (spent history stands, here, above, full) refl)

  pub new_process-exists : (process group : ℕ) → list_any (has_id process) host.processes ≡ true
      → IsHostApplied host (NewProcess process group) (Err cause.ProcessExists) host
  new_process-exists process group known =
      refused host (NewProcess process group) cause.ProcessExists (λ same. cc) (λ history stands.
      let here : is_there (members_of history) process ≡ true =
      there-known host history process stands ∙ known in
      rw (spent history stands, here) refl)

  pub new_process-nowhere : (process group : ℕ)
      → list_any (has_id process) host.processes ≡ false → is_group host.groups group ≡ false
      → IsHostApplied host (NewProcess process group) (Err cause.NoSuchGroup) host
  new_process-nowhere process group new absent =
      refused host (NewProcess process group) cause.NoSuchGroup (λ same. cc) (λ history stands.
      let here : is_there (members_of history) process ≡ false =
      there-known host history process stands ∙ new in
      let nowhere : is_group (groups_of history) group ≡ false =
      group-known host history stands group ∙ absent in
      rw (spent history stands, here, nowhere) refl)

  pub new_process-many : (process group : ℕ) → list_any (has_id process) host.processes ≡ false
      → is_group host.groups group ≡ true → 4096 ≤ length host.processes
      → IsHostApplied host (NewProcess process group) (Err cause.TooManyProcesses) host
  new_process-many process group new known many =
      refused host (NewProcess process group) cause.TooManyProcesses (λ same. cc)
      (λ history stands.
      let here : is_there (members_of history) process ≡ false =
      there-known host history process stands ∙ new in
      let group_there : is_group (groups_of history) group ≡ true =
      group-known host history stands group ∙ known in
      let full : leb 4096 (length (members_of history)) ≡ true =
      le-leb 4096 (length (members_of history))
      (omega (arith, members-count host history stands, many)) in
      rw (spent history stands, here, group_there, full) refl)

  pub exit-absent : (process : ℕ) → list_any (has_id process) host.processes ≡ false
      → IsHostApplied host (Exit process) (Err cause.NoSuchProcess) host
  exit-absent process absent = refused host (Exit process) cause.NoSuchProcess (λ same. cc)
      (λ history stands.
      let nowhere : is_there (members_of history) process ≡ false =
      there-known host history process stands ∙ absent in
      rw (spent history stands, nowhere) refl)

  -- a process that has no place isn't among the members
  placeless : (process : ℕ) → position (has_id process) host.processes ≡ None
      → (history : List HostCommand) → HostStandsFor host history
      → is_there (members_of history) process ≡ false
  placeless process none history stands = ap (λ (ms : List Member). is_there ms process)
      (sym stands.members) ∙ position-none host.processes process none

  pub attach-absent : (process group : ℕ) → position (has_id process) host.processes ≡ None
      → IsHostApplied host (Attach process group) (Err cause.NoSuchProcess) host
  attach-absent process group none = refused host (Attach process group) cause.NoSuchProcess
      (λ same. cc) (λ history stands.
      rw (spent history stands, placeless process none history stands) refl)

  pub attach-nowhere : (process group place : ℕ) → IsHostSound host
      → IsPlaceOf host.processes process place → is_group host.groups group ≡ false
      → IsHostApplied host (Attach process group) (Err cause.NoSuchGroup) host
  attach-nowhere process group place sound at absent =
      refused host (Attach process group) cause.NoSuchGroup (λ same. cc) (λ history stands.
      let here : is_there (members_of history) process ≡ true =
      there host history process place stands sound at in
      let nowhere : is_group (groups_of history) group ≡ false =
      group-known host history stands group ∙ absent in
      rw (spent history stands, here, nowhere) refl)

  pub fork-exists : (parent child from task : ℕ) → list_any (has_id child) host.processes ≡ true
      → IsHostApplied host (Fork parent child from task) (Err cause.ProcessExists) host
  fork-exists parent child from task known =
      refused host (Fork parent child from task) cause.ProcessExists (λ same. cc)
      (λ history stands.
      let here : is_there (members_of history) child ≡ true =
      there-known host history child stands ∙ known in
      rw (spent history stands, here) refl)

  pub fork-absent : (parent child from task : ℕ) → list_any (has_id child) host.processes ≡ false
      → position (has_id parent) host.processes ≡ None
      → IsHostApplied host (Fork parent child from task) (Err cause.NoSuchProcess) host
  fork-absent parent child from task new none =
      refused host (Fork parent child from task) cause.NoSuchProcess (λ same. cc)
      (λ history stands.
      let here : is_there (members_of history) child ≡ false =
      there-known host history child stands ∙ new in
      rw (spent history stands, here, placeless parent none history stands) refl)

  pub fork-many : (parent child from task place : ℕ) → IsHostSound host
      → list_any (has_id child) host.processes ≡ false → IsPlaceOf host.processes parent place
      → 4096 ≤ length host.processes
      → IsHostApplied host (Fork parent child from task) (Err cause.TooManyProcesses) host
  fork-many parent child from task place sound new at many =
      refused host (Fork parent child from task) cause.TooManyProcesses (λ same. cc)
      (λ history stands.
      let here : is_there (members_of history) child ≡ false =
      there-known host history child stands ∙ new in
      let known : is_there (members_of history) parent ≡ true =
      there host history parent place stands sound at in
      let full : leb 4096 (length (members_of history)) ≡ true =
      le-leb 4096 (length (members_of history))
      (omega (arith, members-count host history stands, many)) in
      rw (spent history stands, here, known, full) refl)
