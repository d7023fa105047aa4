-- What a command that was answered did to the host alone, and what is kept of a process's pages.
use Rattle.std.proofs.Common.{◌≡◌, ◌≢◌, ℕ, ◌∙◌, Bool, true, false, Option, Some, None, Result, Ok}
use Rattle.std.proofs.Common.{Err, Bor, ap, arith, is_some, refl, subst, sym}
use Rattle.std.proofs.lemmas.Bool.{both_ways}
use Rattle.std.specs.Prelude.{IfErr, MatchOption}
use Rattle.numa_host.specs.Standing.{HostState, IsHostApplied}
use Rattle.numa_ranges.proofs.Pages.{any_page-false}
use Rattle.numa_requests.specs.declared.command.Command.{Command}
use Rattle.numa_requests.specs.declared.command.Command.TheVariants as own
use Rattle.numa_requests.specs.declared.host_command.HostCommand.{HostCommand}
use Rattle.numa_requests.specs.declared.host_command.HostCommand.TheVariants as host
use Rattle.numa_requests.specs.declared.host_command.HostCommand.TheVariants.{In}
use Rattle.numa_requests.specs.declared.host_refusal.HostRefusal.{HostRefusal}
use Rattle.numa_requests.specs.declared.page_refusal.PlacedRefusal.{PlacedRefusal}
use Rattle.numa_requests.specs.declared.page_refusal.PlacedRefusal.TheVariants as cause
use Rattle.numa_space.specs.History.{page_count, page_of}
use Rattle.numa_host_pages.specs.Homes.{HostLying, pages_in, pages_lent}
use Rattle.numa_host_pages.specs.Standing.{LiesApart}
use Rattle.numa_page_state.specs.Lying.{LastMove, Lying, OfNodes, OfPages}
use Rattle.numa_page_state.specs.Outcomes.{forgotten, has_stated, is_astray_cause, lack_of}
use Rattle.numa_page_state.specs.Outcomes.{lack_told}
use Rattle.numa_page_state.specs.Standing.{Forgets, HaveRoom, LastAs, LiesAs, arrived_in, sent_by}
use Rattle.numa_page_state.specs.Standing.{told_in}
use Rattle.numa_page_state.specs.declared.last.Last.{Last}
use Rattle.numa_page_state.specs.declared.last.Last.TheVariants as went
use Rattle.numa_page_state.specs.declared.state.PageState.{PageState}
use Rattle.numa_page_state.proofs.Unmapping.{nothing-stated}
use Rattle.numa_placed.specs.Astray.{astray_cause, is_astray}
use Rattle.numa_placed.specs.Laid.{Laid}
use Rattle.numa_placed.specs.Refusals.{first_of, span_cause}
use Rattle.numa_placed.specs.Shifts.{room_of}
use Rattle.numa_placed.specs.Spots.{spot_at}
use Rattle.numa_placed.specs.declared.rooms.Rooms.{Rooms}
use Rattle.numa_placed.specs.declared.spot.Spot.{Spot}
use Rattle.numa_placed.specs.declared.spot.Spot.TheVariants.{Nowhere}
use Rattle.numa_script.specs.declared.reply.Reply.{Reply}
use Rattle.numa_host_script.proofs.Told.{pages_by}
use Rattle.numa_host_script.specs.Acting.{AppliesTo, IsLackOf, IsUntouched, is_lack}
use Rattle.numa_host_script.specs.Acting.{told_outcome}
use Rattle.numa_host_script.specs.Hosts.{command_outcome}
use Rattle.numa_host_script.specs.Paging.{pages_reply}
use Rattle.numa_host_script.specs.Standing.{Answers, IsReplyTo, Replies}
use Rattle.numa_host_script.specs.declared.running.RunningHost.{RunningHost}

module _ (old new : HostState) (said : HostCommand) (answer : Reply) where
  pub applied : (done : Result (Unit {0}) HostRefusal) → IsHostApplied old said done new
      → IsReplyTo done new answer → AppliesTo old said answer new
  applied (Ok done) is told =
      subst (λ (a : Reply). AppliesTo old said a new) (sym told)
      ((λ history stands. stands.version), is)
  applied (Err why) is told =
      subst (λ (a : Reply). AppliesTo old said a new) (sym told) (record {
        applied = λ other. is;
        room = is.room;
        unchanged = is.unchanged;
      })

  pub answered-so : Answers old said answer new → AppliesTo old said answer new
  answered-so answers = applied answers.0 answers.1 answers.2

-- pages that stand against an unmap leave the host as it was
pub pages-stand : (kept : HostState) (process start bytes : ℕ) (why : PlacedRefusal)
    → IsLackOf bytes why
    → AppliesTo kept (In process (own.Unmap start bytes)) (pages_reply why) kept
pages-stand kept process start bytes cause.NoMemory lack = record {
  applied = λ other. absurd (both_ways true (other refl) refl);
  room = λ is. lack.some;
  unchanged = refl;
}
pages-stand kept process start bytes cause.TooManyRuns lack = (refl, refl, refl)
pages-stand kept process start bytes cause.Unaligned lack = absurd (both_ways false refl lack.lack)
pages-stand kept process start bytes cause.OutOfSpace lack = absurd (both_ways false refl lack.lack)
pages-stand kept process start bytes cause.NoSuchNode lack = absurd (both_ways false refl lack.lack)
pages-stand kept process start bytes cause.Occupied lack = absurd (both_ways false refl lack.lack)
pages-stand kept process start bytes cause.NodesNotAllowed lack =
    absurd (both_ways false refl lack.lack)
pages-stand kept process start bytes cause.Astray lack = absurd (both_ways false refl lack.lack)
pages-stand kept process start bytes cause.BadCpu lack = absurd (both_ways false refl lack.lack)
pages-stand kept process start bytes cause.Unmapped lack = absurd (both_ways false refl lack.lack)
pages-stand kept process start bytes cause.NoRoom lack = absurd (both_ways false refl lack.lack)

-- ---- what an unmap of pages lacks

have-room : (rooms : Option Rooms) → (room : Option (ℕ → ℕ)) × HaveRoom rooms room
have-room None = (None, tt)
have-room (Some rooms) = (Some (room_of rooms), λ node small. refl)

last-as : (last : Last) → (done : LastMove) × LastAs last done
last-as (went.Nodes moved) = (
  OfNodes (told_in moved),
  record {
    moved = refl;
    left = refl;
    from = λ node small. refl;
    to = λ node small. refl;
  },
)
last-as (went.Pages gone) =
    (OfPages (sent_by gone), record { moved = refl; left = refl; flow = λ from to. refl })

-- all that is kept of pages lies somehow
lies-so : (state : PageState) → (lying : Lying) × LiesAs state lying
lies-so state = (
  record {
    begun = true;
    spots = spot_at state.placed;
    room = (have-room state.rooms).0;
    follows = state.follows;
    last = (last-as state.last).0;
    arrived = arrived_in state.arrived;
  },
  record {
    spots = λ page. refl;
    room = (have-room state.rooms).1;
    follows = refl;
    last = (last-as state.last).1;
    arrived = record { placed = refl; exhausted = refl; on = λ node small. refl };
  },
)

-- of no pages none lies astray
none-of : (spots : ℕ → Spot) (first pages list : ℕ) → pages ≡ 0
    → astray_cause spots first pages list ≡ astray_cause (λ page. Nowhere) first pages list
none-of spots first pages list none =
    rw (
      any_page-false (λ page. is_astray list (spots page)) first pages
          (λ page low high. absurd (omega (arith, low, high, none))),
      any_page-false (λ page. false) first pages (λ page low high. refl),
    ) refl

-- nothing is stated of 0 bytes
stated-some : (spots : ℕ → Spot) (start bytes : ℕ) → has_stated spots start bytes ≡ true
    → bytes ≢ 0
stated-some spots start bytes is none =
    let clear : has_stated spots start bytes ≡ false =
    ap (λ (c : Option PlacedRefusal). is_astray_cause (first_of (span_cause start bytes) c))
    (none-of spots (page_of start) (page_count bytes) 0 (ap page_count none))
    ∙ nothing-stated start bytes in
    both_ways (has_stated spots start bytes) clear is

lacks : (why : PlacedRefusal) (after : ℕ → Spot) → lack_of (lack_told why) after ≡ Some why
    → is_lack why ≡ true
lacks cause.NoMemory after is = refl
lacks cause.TooManyRuns after is = refl
lacks cause.Unaligned after is = absurd (both_ways false refl (ap is_some is))
lacks cause.OutOfSpace after is = absurd (both_ways false refl (ap is_some is))
lacks cause.NoSuchNode after is = absurd (both_ways false refl (ap is_some is))
lacks cause.Occupied after is = absurd (both_ways false refl (ap is_some is))
lacks cause.NodesNotAllowed after is = absurd (both_ways false refl (ap is_some is))
lacks cause.Astray after is = absurd (both_ways false refl (ap is_some is))
lacks cause.BadCpu after is = absurd (both_ways false refl (ap is_some is))
lacks cause.Unmapped after is = absurd (both_ways false refl (ap is_some is))
lacks cause.NoRoom after is = absurd (both_ways false refl (ap is_some is))

pub forgets-lack : (state : PageState) (start bytes : ℕ)
    (found : Result (Option Laid) PlacedRefusal) → Forgets (Some state) start bytes found
    → IfErr found (IsLackOf bytes)
forgets-lack state start bytes (Ok left) forgets = tt
forgets-lack state start bytes (Err why) forgets =
    let so = lies-so state in
    let f = forgets so.0 so.1 in record {
      some = stated-some so.0.spots start bytes f.0;
      lack = lacks why (forgotten start bytes so.0.spots) f.1;
    }

-- ---- commands that no process is told

pub told-plain : (old new : RunningHost) (answer : Reply) (said : HostCommand)
    → ((process : ℕ) (command : Command) → said ≢ In process command)
    → Replies old answer new (λ lack at. command_outcome lack at said)
    → Replies old answer new (λ lack at. told_outcome lack at said)
told-plain old new answer (In process command) other serves = absurd (other process command refl)
told-plain old new answer (host.NewGroup name parent) other serves = serves
told-plain old new answer (host.SetGroupMems name mems) other serves = serves
told-plain old new answer (host.NewProcess process group) other serves = serves
told-plain old new answer (host.Exit process) other serves = serves
told-plain old new answer (host.Attach process group) other serves = serves
told-plain old new answer (host.Fork parent child from task) other serves = serves
told-plain old new answer (host.SetWeight node weight) other serves = serves

-- ---- pages of a process

-- what is kept of the pages of a process is theirs
pub their-pages : (held : Option (Bor PageState)) (process : ℕ) (at : HostLying)
    → MatchOption held (pages_in process at.homes ≡ None) (λ state. (lying : Lying)
    × (pages_in process at.homes ≡ Some lying) × LiesApart state.now lying)
    → MatchOption held (IsUntouched at (pages_lent process at))
    (λ kept. LiesApart kept.now (pages_lent process at))
their-pages None process at none = ap (pages_by at) none
their-pages (Some kept) process at found =
    subst (λ (o : Option Lying). LiesApart kept.now (pages_by at o)) (sym found.1) found.2
