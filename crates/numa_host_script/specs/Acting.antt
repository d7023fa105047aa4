-- What a host with pages is told by calls, without a line of text: each as the line that says it.
use Rattle.std.specs.Prelude.{◌≡◌, ◌≢◌, ℕ, Bool, true, false, Option, Some, None, Ok, Err, List}
use Rattle.std.specs.Prelude.{length}
use Rattle.numa_host.specs.Processes.{is_there, members_of}
use Rattle.numa_host.specs.Standing.{HostMayNeedRoom, HostState, HostStandsFor, IsHostApplied}
use Rattle.numa_host_pages.specs.Homes.{HostLying, lent}
use Rattle.numa_host_pages.specs.Standing.{HostLies}
use Rattle.numa_huge.specs.Huge.{huge_at}
use Rattle.numa_huge.specs.Moves.{HugeMemory}
use Rattle.numa_huge.specs.Tallies.{HasTold, HaveArrived}
use Rattle.numa_huge.specs.declared.pages.HugePages.{HugePages}
use Rattle.numa_page_state.specs.Lying.{Lying, nothing}
use Rattle.numa_page_state.specs.Outcomes.{Lack}
use Rattle.numa_mode.specs.Policy.{Specification}
use Rattle.numa_requests.specs.declared.command.Command.{Command}
use Rattle.numa_requests.specs.declared.command.Command.TheVariants.{Mbind, Unmap}
use Rattle.numa_requests.specs.declared.host_command.HostCommand.{HostCommand}
use Rattle.numa_requests.specs.declared.host_command.HostCommand.TheVariants.{In}
use Rattle.numa_requests.specs.declared.host_refusal.HostRefusal.{HostRefusal}
use Rattle.numa_requests.specs.declared.host_refusal.HostRefusal.TheVariants.{NoMemory}
use Rattle.numa_requests.specs.declared.page_refusal.PlacedRefusal.{PlacedRefusal}
use Rattle.numa_requests.specs.declared.page_refusal.PlacedRefusal.TheVariants as cause
use Rattle.numa_requests.specs.declared.page_refusal.PlacedRefusal.TheVariants.{TooManyRuns}
use Rattle.numa_script.specs.declared.page_line.BoundPages.{BoundPages}
use Rattle.numa_script.specs.declared.page_line.PageLine.{PageLine}
use Rattle.numa_script.specs.declared.page_line.PageLine.TheVariants as page
use Rattle.numa_script.specs.declared.reply.Reply.{Reply}
use Rattle.numa_script.specs.declared.reply.Reply.TheVariants as reply
use Rattle.numa_host_script.specs.Hosts.{Hosting, HostLack, Outcome, command_outcome}
use Rattle.numa_host_script.specs.Paging.{bound_outcome, obeyed, page_where}
use Rattle.numa_host_script.specs.declared.running.RunningHost.{RunningHost}
use Rattle.numa_host_script.specs.declared.taking.HostTaken.{HostTaken}
use Rattle.numa_host_script.specs.declared.taking.HostTaken.TheVariants as taken

-- ---- copies

-- the same host, and pages that lie as the others do
pub record IsCopyOf (running copy : RunningHost) : Type 0 where
  pub host : copy.host ≡ running.host
  pub pages : (at : HostLying) → HostLies running.pages at → HostLies copy.pages at

-- ---- commands

-- what comes of a command, also to pages: those that a process unmaps lie nowhere any more
abbrev pub told_outcome : HostLack → Hosting → HostCommand → Outcome
told_outcome lack at (In process said) = obeyed lack.lacked at process said
told_outcome lack at said = command_outcome lack at said

-- a command that takes pages of a process away
abbrev pub takes_away : Command → Bool
takes_away (Unmap start bytes) = true
takes_away _ = false

abbrev pub is_unmap : HostCommand → Bool
is_unmap (In process said) = takes_away said
is_unmap _ = false

-- it is refused, and the host is as it was: for the cause that stands first without pages, or since
-- memory lacks where nothing else stands against it; but for an unmap of pages that were stated to
-- lie somewhere, memory may lack first. It lacks only for what may need room
pub record Denies (old : HostState) (said : HostCommand) (why : HostRefusal) (new : HostState)
    : Type 0 where
  pub applied : (why ≡ NoMemory → is_unmap said ≡ false) → IsHostApplied old said (Err why) new
  pub room : why ≡ NoMemory → HostMayNeedRoom said
  pub unchanged : new ≡ old

-- what comes of it to the host alone, whatever pages are there: as without them, but that pages
-- may stand against an unmap, after which they would lie in too many runs
abbrev pub AppliesTo : HostState → HostCommand → Reply → HostState → Type 0
AppliesTo old said (reply.Accepted version) new =
    ((history : List HostCommand) → HostStandsFor new history → version ≡ length history)
    × IsHostApplied old said (Ok tt) new
AppliesTo old said (reply.HostRefused why) new = Denies old said why new
AppliesTo old said (reply.PlacedRefused why) new =
    (why ≡ TooManyRuns) × (is_unmap said ≡ true) × (new ≡ old)
AppliesTo old said _ new = ⊥

-- what pages that an unmap takes away may lack, and of no bytes nothing lacks
abbrev pub is_lack : PlacedRefusal → Bool
is_lack cause.TooManyRuns = true
is_lack cause.NoMemory = true
is_lack _ = false

pub record IsLackOf (bytes : ℕ) (why : PlacedRefusal) : Type 0 where
  pub some : bytes ≢ 0
  pub lack : is_lack why ≡ true

-- ---- pages of a process

-- it changes where pages of a process lie; the others are questions, or of the whole host
abbrev pub is_change : PageLine → Bool
is_change (page.At start bytes node) = true
is_change (page.Populate start bytes task cpu) = true
is_change (page.Migrate from to) = true
is_change (page.Move address node) = true
is_change _ = false

abbrev pub changed_outcome : Lack → Hosting → ℕ → PageLine → Outcome
changed_outcome lacked at process said =
    page_where (is_there (members_of at.history) process) lacked at process said

-- a policy for a span of a process, by which pages are judged, or to which they go
abbrev pub bound_to : HostLack → Hosting → ℕ → ℕ → ℕ → Specification → BoundPages → Outcome
bound_to lack at process start bytes spec pages =
    bound_outcome lack.lacked at process pages (Ok (Mbind start bytes spec))

-- no page of a process lies anywhere yet
abbrev pub IsUntouched : HostLying → Lying → Type 0
IsUntouched at lying = lying ≡ lent at.room at.follows nothing

-- ---- pools and pages of 2 MiB

-- the reply of a line that was taken, if it has one
abbrev pub reply_taken : HostTaken → Option Reply
reply_taken (taken.Reply answer) = Some answer
reply_taken _ = None

-- what a line about pools came to: its reply, or what the pools have then
abbrev pub taken_by : Option Reply → HostTaken
taken_by (Some answer) = taken.Reply answer
taken_by None = taken.Pools

-- what is kept of pages of 2 MiB: where they lie, and what the last move and the last first touches
-- did to them
pub record TellsHuge (kept : HugePages) (memory : HugeMemory) : Type 0 where
  pub spots : huge_at kept.places.runs ≡ memory.pages.spots
  pub told : HasTold kept.last memory.told
  pub arrived : HaveArrived kept.arrived memory.arrived
