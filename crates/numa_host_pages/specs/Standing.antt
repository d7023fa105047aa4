-- Which pages of a host the kept ones stand for.
use Rattle.std.specs.Prelude.{◌≡◌, ◌≤◌, ◌==◌, ℕ, Bool, Box, Option, Some, None, List, [], ◌∷◌}
use Rattle.std.specs.Prelude.{filter, length, map, vec_capacity, Result, Ok, Err}
use Rattle.std.specs.Global.{Global}
use Rattle.numa_host.specs.Processes.{Member as Process, members_of}
use Rattle.numa_requests.specs.declared.host_command.HostCommand.{HostCommand}
use Rattle.numa_host.specs.Standing.{HostState, HostStandsFor, IsHostApplied}
use Rattle.numa_requests.specs.declared.host_refusal.HostRefusal.{HostRefusal}
use Rattle.numa_page_state.specs.Lying.{Lying}
use Rattle.numa_page_state.specs.Outcomes.{Lack}
use Rattle.numa_page_state.specs.Standing.{HaveRoom, LiesAs}
use Rattle.numa_page_state.specs.declared.state.PageState.{PageState}
use Rattle.numa_host_huge.specs.Standing.{HugeLies}
use Rattle.numa_host_pages.specs.Homes.{Home, HostLying, Room, lent}
use Rattle.numa_host_pages.specs.Obeying.{pages_after}
use Rattle.numa_host_pages.specs.TopDown.{arrivals_of}
use Rattle.numa_host_pages.specs.declared.member.Member.{Member}
use Rattle.numa_host_pages.specs.declared.pages.HostPages.{HostPages}

-- the pages of a process, whatever rooms were lent to them last
abbrev pub LiesApart : PageState → Lying → Type 0
LiesApart state lying = (room : Room) × (follows : Bool) × LiesAs state (lent room follows lying)

abbrev pub Sits : Option (Box PageState Global) → Option Lying → Type 0
Sits None None = Unit {0}
Sits (Some state) (Some lying) = LiesApart state.value lying
Sits _ _ = ⊥

pub record IsHome (member : Member) (home : Home) : Type 0 where
  pub id : member.id ≡ home.id
  pub group : member.group ≡ home.group
  pub allowed : member.allowed ≡ home.allowed
  pub pages : Sits member.pages home.lying
  pub along : member.along ≡ home.along

-- the processes, in the same order
abbrev pub AreHomes : List Member → List Home → Type 0
AreHomes [] [] = Unit {0}
AreHomes (member ∷ members) (home ∷ homes) = IsHome member home × AreHomes members homes
AreHomes _ _ = ⊥

-- pages that were taken out, with the host's rooms lent to them
abbrev pub IsLent : Option (Box PageState Global) → Option Lying → HostLying → Type 0
IsLent (Some state) (Some lying) at = LiesAs state.value (lent at.room at.follows lying)
IsLent None None at = Unit {0}
IsLent _ _ at = ⊥

-- the pages of a host; there is room for as many processes as a host may have
pub record HostLies (pages : HostPages) (at : HostLying) : Type 0 where
  pub room : HaveRoom pages.rooms at.room
  pub follows : pages.follows ≡ at.follows
  pub homes : AreHomes pages.members.items at.homes
  pub huge : HugeLies pages.huge at.huge
  pub places : 4096 ≤ vec_capacity pages.members

-- ---- whose pages they are

-- a process and the group to which it came
abbrev pub arrival_of : Home → Process
arrival_of home = (home.id, home.group)

-- how many of the processes have a number
abbrev pub count_of : ℕ → List Process → ℕ
count_of process members =
    length (filter (λ (member : Process). member.0 == process) members)

-- two lists have the same processes
pub record AreSame (one other : List Process) : Type 0 where
  pub count : length one ≡ length other
  pub each : (process : ℕ) → count_of process one ≡ count_of process other

-- the processes of these commands, in the order in which they came to their groups
pub record AreOf (at : HostLying) (history : List HostCommand) : Type 0 where
  pub order : map arrival_of at.homes ≡ arrivals_of history
  pub same : AreSame (arrivals_of history) (members_of history)

-- ---- commands

-- where a command was accepted, pages lie so after it; else they lie as they did
abbrev pub LiesAfter : Result (Unit {0}) HostRefusal → HostPages → HostLying → HostLying → Type 0
LiesAfter (Ok done) pages at after = HostLies pages after
LiesAfter (Err why) pages at after = HostLies pages at

-- the processes stay those of the commands
abbrev pub StaysOf : Result (Unit {0}) HostRefusal → HostLying → List HostCommand → Type 0
StaysOf (Ok done) after history = AreOf after history
StaysOf (Err why) after history = Unit {0}

-- a command was carried out, and what it does to pages
pub record Obeys (old : HostState) (pages : HostPages) (said : HostCommand)
    (result : Result (Unit {0}) HostRefusal) (new : HostState) (later : HostPages) : Type 0 where
  pub applied : IsHostApplied old said result new
  pub lies : (history : List HostCommand) (at : HostLying) → HostStandsFor old history
      → HostLies pages at → AreOf at history → (lacks : ℕ → ℕ → Lack)
      × LiesAfter result later at (pages_after lacks old.blank.machine history said at)
      × StaysOf result (pages_after lacks old.blank.machine history said at) (said ∷ history)
