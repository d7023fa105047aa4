-- A host, and what its commands are answered.
use Rattle.std.specs.Prelude.{ℕ, ◌&&◌, Bool, true, false, Option, Some, None, List, ◌∷◌, length}
use Rattle.std.specs.Prelude.{Result, Ok, Err}
use Rattle.numa_machine.specs.Machine.{Hardware}
use Rattle.numa_space.specs.Limited.{Bounds}
use Rattle.numa_host.specs.Causes.{first_of, host_refusal_of, when}
use Rattle.numa_host_pages.specs.Homes.{HostLying}
use Rattle.numa_host_pages.specs.Obeying.{pages_after}
use Rattle.numa_requests.specs.declared.command.Command.{Command}
use Rattle.numa_requests.specs.declared.host_command.HostCommand.{HostCommand}
use Rattle.numa_requests.specs.declared.host_command.HostCommand.TheVariants as command
use Rattle.numa_requests.specs.declared.host_refusal.HostRefusal.{HostRefusal}
use Rattle.numa_requests.specs.declared.host_refusal.HostRefusal.TheVariants.{NoMemory}
use Rattle.numa_page_state.specs.Outcomes.{Enough, Lack, is_starved}
use Rattle.numa_script.specs.declared.policy.WordError.{WordError}
use Rattle.numa_script.specs.declared.reply.Reply.{Reply}
use Rattle.numa_script.specs.declared.reply.Reply.TheVariants as reply
use Rattle.numa_run.specs.Replies.{Answer, Replied, Shown}
use Rattle.numa_run.specs.Work.{needs_room}

-- a host: its machine, the limits of its commands and of each process's ranges and tasks, the
-- accepted commands, and where the pages of its processes lie
pub record Hosting : Type 0 where
  pub machine : Hardware
  pub bounds : Bounds
  pub history : List HostCommand
  pub lying : HostLying

-- what lacked while a line was served: what the line itself lacked; and, where groups are told
-- their nodes, by the place of a group and of a process, what the move of its pages lacked
pub record HostLack : Type 0 where
  pub lacked : Lack
  pub moves : ℕ → ℕ → Lack

-- it lacked for nothing
abbrev pub plenty : HostLack
plenty = record { lacked = Enough; moves = λ group process. Enough }

-- what a line comes to: its answer, and the accepted commands and the pages after it
pub record Outcome : Type 0 where
  pub answer : Answer
  pub history : List HostCommand
  pub lying : HostLying

-- an answer that changes nothing
abbrev pub with_answer : Answer → Hosting → Outcome
with_answer answer at = record { answer = answer; history = at.history; lying = at.lying }

abbrev pub with_reply : Reply → Hosting → Outcome
with_reply answer at = with_answer (Replied answer) at

abbrev pub with_text : List ℕ → Hosting → Outcome
with_text text at = with_answer (Shown text) at

-- pages lie so now
abbrev pub with_lying : Answer → HostLying → Hosting → Outcome
with_lying answer lying at = record { answer = answer; history = at.history; lying = lying }

-- ---- commands

-- a command that may need room for a group, a process, a range or a task's policy
abbrev pub host_needs_room : HostCommand → Bool
host_needs_room (command.NewGroup group parent) = true
host_needs_room (command.SetGroupMems group mems) = false
host_needs_room (command.NewProcess process group) = true
host_needs_room (command.Exit process) = false
host_needs_room (command.Attach process group) = false
host_needs_room (command.Fork parent child from task) = true
host_needs_room (command.In process said) = needs_room said
host_needs_room (command.SetWeight node weight) = false

-- the first cause of all; lack of memory is the last
abbrev pub cause_by : Lack → Hosting → HostCommand → Option HostRefusal
cause_by lacked at said = first_of (host_refusal_of at.machine at.bounds at.history said)
    (when (is_starved lacked && host_needs_room said) NoMemory)

-- it is accepted unless a cause stands against it, and pages lie so then
abbrev pub command_unless : Option HostRefusal → HostLying → Hosting → HostCommand → Outcome
command_unless None lying at said = record {
  answer = Replied (reply.Accepted (length (said ∷ at.history)));
  history = said ∷ at.history;
  lying = lying;
}
command_unless (Some cause) lying at said = with_reply (reply.HostRefused cause) at

abbrev pub command_outcome : HostLack → Hosting → HostCommand → Outcome
command_outcome lack at said = command_unless (cause_by lack.lacked at said)
    (pages_after lack.moves at.machine at.history said at.lying) at said

-- a command that a process is told, and that leaves its pages where they lie
abbrev pub process_outcome : Lack → Hosting → ℕ → Command → Outcome
process_outcome lacked at process said = command_unless
    (cause_by lacked at (command.In process said)) at.lying at (command.In process said)

-- a fault of a list or a policy comes before every refusal
abbrev pub said_outcome : HostLack → Hosting → Result HostCommand WordError → Outcome
said_outcome lack at (Err fault) = with_reply (reply.BadWord fault) at
said_outcome lack at (Ok said) = command_outcome lack at said
