-- What a trace comes to from its first line `do` on: from there it is played on the session of the
-- scripts, to which lines `do` and first touches are lines like others. A trace is the list of its
-- lines, the newest first.
use Rattle.std.specs.Prelude.{◌≡◌, ◌⊎◌, ◌+◌, ◌*◌, ◌++◌, ℕ, Bool, true, false, not, is_some, min}
use Rattle.std.specs.Prelude.{nat_le, nat_lt, take, length}
use Rattle.std.specs.Prelude.{Option, Some, None, List, [], ◌∷◌, Result, Ok, Err}
use Rattle.std.specs.Option.{option_map}
use Rattle.numa_machine.specs.Machine.{Hardware}
use Rattle.numa_machine.specs.declared.refusal.PlaceRefusal.TheVariants as place
use Rattle.numa_placed.specs.Spots.{node_of}
use Rattle.numa_requests.specs.declared.host_refusal.HostRefusal.TheVariants.{NoSuchProcess}
use Rattle.numa_requests.specs.declared.page_refusal.PlacedRefusal.{PlacedRefusal}
use Rattle.numa_requests.specs.declared.page_refusal.PlacedRefusal.TheVariants as cause
use Rattle.numa_run.specs.States.{State}
use Rattle.numa_host_script.specs.Judged.{session_fault}
use Rattle.numa_host_script.specs.Paging.{pages_at}
use Rattle.numa_host_script.specs.Sessions.{Hosted, HostLack, Session, Single, session_after}
use Rattle.numa_host_script.specs.Taking.{SessionStandsFor}
use Rattle.numa_host_script.specs.declared.script.HostScript.{HostScript}
use Rattle.numa_script.specs.Lines.{line_of}
use Rattle.numa_script.specs.declared.line.Line.TheVariants as line
use Rattle.numa_script.specs.declared.line.ScriptLine.{ScriptLine}
use Rattle.numa_script.specs.declared.page_line.PageLine.{PageLine}
use Rattle.numa_script.specs.declared.page_line.PageLine.TheVariants as page
use Rattle.numa_script.specs.declared.reply.Reply.{Reply}
use Rattle.numa_script.specs.declared.reply.Reply.TheVariants as reply
use Rattle.numa_subjects.specs.declared.page_place.PagePlace.{PagePlace}
use Rattle.numa_traces.specs.Accesses.{do_of}
use Rattle.numa_traces.specs.Phases.{Closes, Marked, Step, Touches}
use Rattle.numa_traces.specs.PlanReading.{ClosesPhase, CountsAccess, step_of}
use Rattle.numa_traces.specs.Tallies.{Counts, IsRoomFault, Route, Tallied}
use Rattle.numa_traces.specs.declared.access.Access.{Access}
use Rattle.numa_traces.specs.declared.fault.ReplayError.{ReplayError}
use Rattle.numa_traces.specs.declared.fault.ReplayError.TheVariants as fault
use Rattle.numa_traces.specs.declared.trace_state.TraceState.{TraceState}
use Rattle.numa_play.specs.Places.{place_of, place_on}

-- ---- what a line is

-- it carries out a line of the language, or is a step as in every trace
pub data Deed : Type 0 where
  Does : List ℕ → Deed
  Takes : Step Access → Deed

abbrev pub taken_by : Result (Option (Step Access)) ReplayError
    → Result (Option Deed) ReplayError
taken_by (Err why) = Err why
taken_by (Ok None) = Ok None
taken_by (Ok (Some step)) = Ok (Some (Takes step))

-- what stands behind `do `; a line that may be cut off is taken whole, since it is too long
abbrev pub whole_by : Bool → List ℕ → List ℕ → List ℕ
whole_by true bytes said = bytes
whole_by false bytes said = said

abbrev pub whole_or : List ℕ → List ℕ → List ℕ
whole_or bytes said = whole_by (nat_lt 4096 (length bytes)) bytes said

abbrev pub deed_by : Option (List ℕ) → Option ℕ → List ℕ → Result (Option Deed) ReplayError
deed_by (Some said) own bytes = Ok (Some (Does (whole_or bytes said)))
deed_by None own bytes = taken_by (step_of own bytes)

-- for the one process, or the process of a host that has this number; nothing where the line is
-- silent, or another's
abbrev pub deed_of : Option ℕ → List ℕ → Result (Option Deed) ReplayError
deed_of own bytes = deed_by (do_of bytes) own bytes

-- ---- where pages lie

abbrev pub place_alone : Option Hardware → State → ℕ → Option PagePlace
place_alone None state at = None
place_alone (Some machine) state at = place_of state.resident state.lying.spots at

-- where a page of the one process lies, or one of the process of a host that has this number
abbrev pub place_now : Session → Option ℕ → ℕ → Option PagePlace
place_now (Single state) None at = place_alone state.machine state at
place_now (Single state) (Some process) at = None
place_now (Hosted host) None at = None
place_now (Hosted host) (Some process) at = place_on (node_of ((pages_at host process).spots at))

-- on which node
abbrev pub lies_now : Session → Option ℕ → ℕ → Option ℕ
lies_now session process at = option_map (λ found. found.node) (place_now session process at)

-- ---- an access

abbrev pub lacks_node_on : Option Hardware → ℕ → Bool
lacks_node_on None cpu = true
lacks_node_on (Some machine) cpu = nat_le machine.nodes cpu

-- no CPU is of this node
abbrev pub lacks_cpu : Session → ℕ → Bool
lacks_cpu (Single state) cpu = lacks_node_on state.machine cpu
lacks_cpu (Hosted host) cpu = nat_le host.machine.nodes cpu

-- the address of a page, in bytes
abbrev pub address_of : ℕ → ℕ
address_of at = min (at * 4096) 18446744073709551615

abbrev pub told_to : Option ℕ → PageLine → ScriptLine
told_to process said = record { process = process; line = line.Pages (Ok said) }

-- `populate ADDRESS 0x1000 TASK CPU`, of the process
abbrev pub populate_of : Option ℕ → Access → ScriptLine
populate_of process access =
    told_to process (page.Populate (address_of access.page) 4096 access.task access.cpu)

-- a line leads from one session to another, and isn't refused
abbrev pub LeadsWell : ScriptLine → Session → Session → Type 0
LeadsWell said old new = (lack : HostLack) × (session_fault lack old said ≡ None)
    × (new ≡ session_after lack old said)

-- a page that lies somewhere stays there; another goes where `populate` puts it, if anywhere
abbrev pub TouchesFrom : Option ℕ → Option ℕ → Access → Session → Session → Type 0
TouchesFrom (Some node) process access old new = new ≡ old
TouchesFrom None process access old new = LeadsWell (populate_of process access) old new

abbrev pub TouchesPage : Option ℕ → Access → Session → Session → Type 0
TouchesPage process access old new =
    TouchesFrom (lies_now old process access.page) process access old new

-- whether an access is a fault: its page lies nowhere
abbrev pub is_fault_in : Session → Option ℕ → Access → Bool
is_fault_in session process access = not (is_some (lies_now session process access.page))

-- its route, by where its page lies once it was touched
abbrev pub route_in : Session → Option ℕ → Access → Route
route_in session process access =
    (access.task, access.cpu, lies_now session process access.page)

abbrev pub placed_end : PlacedRefusal → ReplayError
placed_end cause.BadCpu = fault.Refused place.BadCpu
placed_end cause.Unmapped = fault.Refused place.Unmapped
placed_end cause.TooManyRuns = fault.TooManyRuns
placed_end cause.NoMemory = fault.NoMemory
placed_end _ = fault.Refused place.Unmapped

-- why a trace ends at a first touch that a script answers so
abbrev pub end_of : Reply → ReplayError
end_of (reply.PlacedRefused why) = placed_end why
end_of (reply.HostRefused NoSuchProcess) = fault.NoProcess
end_of (reply.HostRefused why) = fault.NoMemory
end_of reply.BadState = fault.Unnamed
end_of _ = fault.Named

-- why a first touch is refused
abbrev pub EndsFirst : Option ℕ → Access → Session → ReplayError → Type 0
EndsFirst process access session why = (lack : HostLack) × (answer : Reply)
    × (session_fault lack session (populate_of process access) ≡ Some answer)
    × (why ≡ end_of answer)

-- why an access can't be replayed: no CPU is of its node, or its first touch is refused
abbrev pub EndsTouchBy : Bool → Option ℕ → Access → Session → ReplayError → Type 0
EndsTouchBy true process access session why = why ≡ fault.Refused place.BadCpu
EndsTouchBy false process access session why = (lies_now session process access.page ≡ None)
    × EndsFirst process access session why

abbrev pub EndsTouch : Option ℕ → Access → Session → ReplayError → Type 0
EndsTouch process access session why =
    EndsTouchBy (lacks_cpu session access.cpu) process access session why

-- ---- at the first `do`: what accesses have placed so far is stated

-- `room NODE PAGES`: what is refused says nothing
abbrev pub SaysRoom : ℕ → ℕ → Session → Session → Type 0
SaysRoom node pages old new = (lack : HostLack)
    × (new ≡ session_after lack old (told_to None (page.Room node pages)))

-- for each node, the first of them first
abbrev pub IsRoom : ℕ → List ℕ → Session → Session → Type 0
IsRoom node [] old new = new ≡ old
IsRoom node (pages ∷ room) old new = (mid : Session) × SaysRoom node pages old mid
    × IsRoom (node + 1) room mid new

-- `at ADDRESS 0x1000 NODE` for a page of an access that lies nowhere yet
abbrev pub StatesFrom : Option ℕ → Option ℕ → ℕ × ℕ → Session → Session → Type 0
StatesFrom (Some node) process laid old new = new ≡ old
StatesFrom None process laid old new =
    LeadsWell (told_to process (page.At (address_of laid.0) 4096 laid.1)) old new

abbrev pub StatesPage : Option ℕ → ℕ × ℕ → Session → Session → Type 0
StatesPage process laid old new =
    StatesFrom (lies_now old process laid.0) process laid old new

-- the same of pages with their nodes, the first of them first
abbrev pub StatesPages : Option ℕ → List (ℕ × ℕ) → Session → Session → Type 0
StatesPages process [] old new = new ≡ old
StatesPages process (laid ∷ pages) old new = (mid : Session) × StatesPage process laid old mid
    × StatesPages process pages mid new

-- ---- a trace from there on

-- the session, what was counted, and the marks
pub record Scene : Type 0 where
  pub session : Session
  pub tallies : Tallied
  pub marks : List Marked

-- an access was carried out, and counted
pub record IsAccess (process : Option ℕ) (access : Access) (old new : Scene) : Type 0 where
  pub has_cpu : lacks_cpu old.session access.cpu ≡ false
  pub session : TouchesPage process access old.session new.session
  pub tallies : Counts old.tallies (route_in new.session process access) access.count
      (is_fault_in old.session process access) new.tallies
  pub marks : new.marks ≡ old.marks

-- a line of the language was carried out, or refused
pub record IsDone (said : List ℕ) (old new : Scene) : Type 0 where
  pub lack : HostLack
  pub session : new.session ≡ session_after lack old.session (line_of said)
  pub tallies : new.tallies ≡ old.tallies
  pub marks : new.marks ≡ old.marks

-- a phase was closed
pub record IsClosed (text : List ℕ) (old new : Scene) : Type 0 where
  pub session : new.session ≡ old.session
  pub tallies : new.tallies ≡ old.tallies
  pub marks : new.marks ≡ old.marks ++ (record { text = text; tallies = old.tallies } ∷ [])

abbrev pub IsDeed : Option ℕ → Deed → Scene → Scene → Type 0
IsDeed process (Does said) old new = IsDone said old new
IsDeed process (Takes (Touches access)) old new = IsAccess process access old new
IsDeed process (Takes (Closes text)) old new = IsClosed text old new

abbrev pub IsLineBy : Option ℕ → Result (Option Deed) ReplayError → Scene → Scene → Type 0
IsLineBy process (Err why) old new = ⊥
IsLineBy process (Ok None) old new = new ≡ old
IsLineBy process (Ok (Some deed)) old new = IsDeed process deed old new

-- the lines led from one scene to another
abbrev pub LeadTo : Option ℕ → Scene → List (List ℕ) → Scene → Type 0
LeadTo process start [] end = end ≡ start
LeadTo process start (bytes ∷ lines) end = (before : Scene) × LeadTo process start lines before
    × IsLineBy process (deed_of process bytes) before end

-- ---- running scripts

-- an access was carried out, and counted; the script stands for what it led to
abbrev pub CarriesOut : Option ℕ → Access → Session → HostScript → TraceState → TraceState → Type 0
CarriesOut process access session script old new = (lacks_cpu session access.cpu ≡ false)
    × (then : Session) × SessionStandsFor script then × TouchesPage process access session then
    × CountsAccess access (lies_now then process access.page)
    (is_fault_in session process access) old new

-- why it can't be: its first touch is refused, or it can't be counted
abbrev pub EndsAccess : Option ℕ → Access → Session → ReplayError → Type 0
EndsAccess process access session why = EndsTouch process access session why ⊎ IsRoomFault why

-- a line of the language was carried out, or refused; the script stands for what it led to
abbrev pub CarriesLine : ScriptLine → Session → HostScript → Type 0
CarriesLine said session script = (lack : HostLack)
    × SessionStandsFor script (session_after lack session said)

-- a step was carried out: an access, or a phase was closed, which the script doesn't hear of
abbrev pub TakesStep : Option ℕ → Step Access → Session → HostScript → TraceState → TraceState
    → Type 0
TakesStep process (Touches access) session script old new =
    CarriesOut process access session script old new
TakesStep process (Closes text) session script old new = SessionStandsFor script session
    × ClosesPhase text old new

-- why it can't be
abbrev pub EndsStep : Option ℕ → Step Access → Session → ReplayError → Type 0
EndsStep process (Touches access) session why = EndsAccess process access session why
EndsStep process (Closes text) session why = why ≡ fault.NoMemory

-- the room of at most 256 nodes was said, and then where pages lie
abbrev pub BeginsDoing : Option ℕ → List ℕ → List (ℕ × ℕ) → Session → HostScript → Type 0
BeginsDoing process room pages session script = (mid : Session)
    × IsRoom 0 (take 256 room) session mid
    × (then : Session) × StatesPages process pages mid then × SessionStandsFor script then
