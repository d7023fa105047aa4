-- What lines about pages make of a host that answers them.
use Rattle.std.proofs.Common.{◌≡◌, ◌≢◌, ℕ, Bool, true, false, Option, Some, None, List, [], Result}
use Rattle.std.proofs.Common.{Ok, Err}
use Rattle.std.proofs.Common.{refl, sym, ap, subst, ◌∙◌, inl, inr, length, is_some}
use Rattle.std.proofs.lemmas.Bool.{cases_Bool}
use Rattle.std.specs.Prelude.{◌&&◌, if◌then◌else◌, not}
use Rattle.numa_machine.specs.Machine.{Hardware}
use Rattle.numa_host.specs.Processes.{commands_of, is_there, members_of}
use Rattle.numa_host.specs.Standing.{HostState, HostStandsFor, IsSpaceOf}
use Rattle.numa_host_pages.specs.Homes.{HostLying, given_back, lent, lent_or_new, pages_in}
use Rattle.numa_host_pages.specs.Homes.{pages_lent, with_room}
use Rattle.numa_host_pages.specs.Standing.{AreOf, HostLies}
use Rattle.numa_host_pages.specs.declared.pages.HostPages.{HostPages}
use Rattle.numa_page_state.specs.Lying.{Ground, Lying, ground_in, ground_of, nothing}
use Rattle.numa_page_state.specs.Outcomes.{Enough, Lack, Starved, is_starved}
use Rattle.numa_page_state.specs.Standing.{DoesAs, LiesAs}
use Rattle.numa_page_state.specs.declared.state.PageState.{PageState}
use Rattle.numa_requests.specs.declared.host_command.HostCommand.{HostCommand}
use Rattle.numa_requests.specs.declared.host_refusal.HostRefusal.TheVariants.{NoSuchProcess}
use Rattle.numa_requests.specs.declared.page_refusal.PlacedRefusal.{PlacedRefusal}
use Rattle.numa_space.specs.Standing.{SpaceState}
use Rattle.numa_script.specs.Lines.{alone}
use Rattle.numa_script.specs.declared.line.Line.TheVariants as line
use Rattle.numa_script.specs.declared.line.ScriptLine.{ScriptLine}
use Rattle.numa_script.specs.declared.page_line.PageLine.{PageLine}
use Rattle.numa_script.specs.declared.page_line.PageLine.TheVariants as page
use Rattle.numa_script.specs.declared.reply.Reply.{Reply}
use Rattle.numa_script.specs.declared.reply.Reply.TheVariants as reply
use Rattle.numa_run.specs.PageLines.{change_of, lack_reply, page_reply}
use Rattle.numa_run.specs.Replies.{Shown, reply_in}
use Rattle.numa_host_script.specs.Hosts.{Hosting, HostLack, Outcome, plenty, with_reply}
use Rattle.numa_host_script.specs.Paging.{arrived_text, changed, own_page_outcome, page_outcome}
use Rattle.numa_host_script.specs.Paging.{page_there, page_where, pages_changed, process_in}
use Rattle.numa_host_script.specs.Paging.{along_if, memory_at, small_where, tells_move, told_by}
use Rattle.numa_host_script.specs.Paging.{with_change}
use Rattle.numa_host_script.specs.Sessions.{host_outcome}
use Rattle.numa_host_script.specs.Standing.{Changes, ChangesPages, Replies, RunsAs, Takes}
use Rattle.numa_host_script.specs.Standing.{hosting_with, told}
use Rattle.numa_host_script.specs.declared.running.RunningHost.{RunningHost}
use Rattle.numa_host_script.specs.declared.taking.HostTaken.TheVariants as taken
use Rattle.numa_host_script.proofs.Lent.{along_if-are, given-are}
use Rattle.numa_host_script.proofs.Obeyed.{still}
use Rattle.numa_host_script.proofs.Spaces.{same-ground}
use Rattle.numa_host_script.proofs.Unmapped.{flag}

-- ---- pages

-- that a line was accepted says nothing of where pages lie
pub begins : (state : PageState) (lying : Lying) → LiesAs state lying
    → LiesAs state (record lying { begun = true })
begins state lying lies = record {
  spots = lies.spots;
  room = lies.room;
  follows = lies.follows;
  last = lies.last;
  arrived = lies.arrived;
}

module _ (state new : PageState) (answer : Option Reply) (pages : HostPages) (process : ℕ)
    (said : PageLine) (basis : Ground) (at : HostLying)
    (does : DoesAs state answer new (Some (lack_reply said))
    (λ lacked l. change_of lacked basis said l))
    (gives : (done : Lying) → LiesAs new done → HostLies pages (given_back process done at)) where
  -- what it comes to, by the pages that the process has
  abbrev by_had : Lack → Option Lying → Option Reply × HostLying
  by_had lacked had =
      if not (is_some had) && is_starved lacked then (Some (lack_reply said), at)
      else (
        (change_of lacked basis said
            (record (lent_or_new at.room at.follows had) { begun = true })).0,
        given_back process (change_of lacked basis said
            (record (lent_or_new at.room at.follows had) { begun = true })).1 at,
      )

  abbrev pub ChangesAt : Type 0
  ChangesAt = (lacked : Lack) × ((pages_changed lacked basis process said at).0 ≡ answer)
      × HostLies pages (pages_changed lacked basis process said at).1

  changed-by : (lacked : Lack) (had : Option Lying) → pages_in process at.homes ≡ had
      → (by_had lacked had).0 ≡ answer → HostLies pages (by_had lacked had).1 → ChangesAt
  changed-by lacked had is same lies = (
    lacked,
    subst (λ (o : Option Lying). (by_had lacked o).0 ≡ answer) (sym is) same,
    subst (λ (o : Option Lying). HostLies pages (by_had lacked o).1) (sym is) lies,
  )

  -- pages that the process had
  pub changed-lent : (lying : Lying) → pages_in process at.homes ≡ Some lying
      → LiesAs state (lent at.room at.follows lying) → ChangesAt
  changed-lent lying is has =
      let from : Lying = lent at.room at.follows lying in
      let d = does (record from { begun = true }) (begins state from has) in
      changed-by d.0 (Some lying) is d.2
      (gives (change_of d.0 basis said (record from { begun = true })).1 d.1)

  -- its first ones, where memory doesn't lack
  pub changed-first : pages_in process at.homes ≡ None
      → LiesAs state (lent at.room at.follows nothing) → answer ≢ Some (lack_reply said)
      → ChangesAt
  changed-first none has serves =
      let from : Lying = lent at.room at.follows nothing in
      let d = does (record from { begun = true }) (begins state from has) in
      let done = change_of d.0 basis said (record from { begun = true }) in
      let by : Bool → Option Reply × HostLying = λ b.
      if b then (Some (lack_reply said), at) else (done.0, given_back process done.1 at) in
      elim (cases_Bool (is_starved d.0)) [
        | inl t ↦ absurd (serves (d.3 t).1)
        | inr e ↦ changed-by d.0 None none (ap (λ (b : Bool). (by b).0) e ∙ d.2)
            (subst (λ (b : Bool). HostLies pages (by b).1) (sym e) (gives done.1 d.1))
      ]

-- memory lacks for its first ones
pub changed-starved : (pages : HostPages) (process : ℕ) (said : PageLine) (basis : Ground)
    (at : HostLying) (answer : Option Reply) → pages_in process at.homes ≡ None
    → answer ≡ Some (lack_reply said) → HostLies pages at
    → (lacked : Lack) × ((pages_changed lacked basis process said at).0 ≡ answer)
    × HostLies pages (pages_changed lacked basis process said at).1
changed-starved pages process said basis at answer none is lies =
    let same : pages_changed Starved basis process said at ≡ (Some (lack_reply said), at) =
    ap (λ (had : Option Lying).
    if not (is_some had) && true then (Some (lack_reply said), at)
    else (
      (change_of Starved basis said
          (record (lent_or_new at.room at.follows had) { begun = true })).0,
      given_back process (change_of Starved basis said
          (record (lent_or_new at.room at.follows had) { begun = true })).1 at,
    )) none in (
      Starved,
      ap (λ (d : Option Reply × HostLying). d.0) same ∙ sym is,
      subst (λ (d : Option Reply × HostLying). HostLies pages d.1) (sym same) lies,
    )

-- the processes stay
changed-are : (lacked : Lack) (basis : Ground) (process : ℕ) (said : PageLine) (at : HostLying)
    (history : List HostCommand) → AreOf at history
    → AreOf (pages_changed lacked basis process said at).1 history
changed-are lacked basis process said at history are =
    let from : Lying = record (pages_lent process at) { begun = true } in
    let test : Bool = not (is_some (pages_in process at.homes)) && is_starved lacked in
    elim (cases_Bool test) [
      | inl t ↦ rw t are
      | inr e ↦ rw e (given-are process (change_of lacked basis said from).1 at history are)
    ]

-- ---- the line

-- what it came to, and the host after it
abbrev ChangesTo : Option Reply → RunningHost → ℕ → Hosting → Outcome → Type 0
ChangesTo answer new process at done =
    (done.answer ≡ told_by answer (length done.history) process done.lying)
    × RunsAs new (hosting_with at done)

-- where a process has no page of 2 MiB, it is of those of 4 KiB alone
pub there-changes : (said : PageLine) → said ≢ page.Moved → (lacked : Lack) (at : Hosting)
    (process : ℕ) → memory_at at process ≡ None
    → page_there lacked at process said ≡ changed lacked at process said
there-changes (page.At start bytes node) moved lacked at process none = rw none refl
there-changes (page.Room node pages) moved lacked at process none = refl
there-changes (page.MemoryMigrate follows) moved lacked at process none = refl
there-changes (page.Migrate from to) moved lacked at process none = rw none refl
there-changes (page.Move address node) moved lacked at process none = rw none refl
there-changes (page.Populate start bytes task cpu) moved lacked at process none = rw none refl
there-changes page.Rooms moved lacked at process none = refl
there-changes page.Moved moved lacked at process none = absurd (moved refl)

abbrev pub page_by : ℕ → PageLine → Lack → Hosting → Outcome
page_by process said lacked at =
    page_where (is_there (members_of at.history) process) lacked at process said

-- of pages of 4 KiB alone
abbrev pub small_by : ℕ → PageLine → Lack → Hosting → Outcome
small_by process said lacked at =
    small_where (is_there (members_of at.history) process) lacked at process said

-- nobody is there
pub changed-nobody : (running : RunningHost) (process : ℕ) (said : PageLine)
    → ((history : List HostCommand) → HostStandsFor running.host history
    → is_there (members_of history) process ≡ false)
    → Changes running (Some (reply.HostRefused NoSuchProcess)) running process
    (λ lacked at. small_by process said lacked at)
changed-nobody running process said nobody = λ at stands.
    let done = subst (λ (b : Bool). ChangesTo (Some (reply.HostRefused NoSuchProcess)) running
    process at (small_where b Enough at process said)) (sym (nobody at.history stands.stands))
    (refl, stands) in
    (Enough, done.0, done.1)

-- whether it was a move changes no text
told-along : (answer : Option Reply) (version process : ℕ) (at : HostLying)
    → told_by answer version process at
    ≡ told_by answer version process (along_if (tells_move answer) process at)
told-along (Some answer) version process at = refl
told-along None version process at = refl

pub changed-there : (running : RunningHost) (space : SpaceState) (pages pages_then : HostPages)
    (answer : Option Reply) (process : ℕ) (said : PageLine)
    → ((history : List HostCommand) → HostStandsFor running.host history
    → (is_there (members_of history) process ≡ true)
    × IsSpaceOf running.host.blank.machine running.host.blank.bounds
    (commands_of running.host.blank.machine history process) space)
    → ChangesPages running.pages answer pages
    (λ lacked at. pages_changed lacked (ground_in space []) process said at)
    → ((at : HostLying) → HostLies pages at
    → HostLies pages_then (along_if (tells_move answer) process at))
    → Changes running answer (record { host = running.host; pages = pages_then }) process
    (λ lacked at. small_by process said lacked at)
changed-there running space pages pages_then answer process said owns changes goes =
    λ at stands.
    let own = owns at.history stands.stands in
    let d = changes at.lying stands.lies in
    let basis = same-ground running.host at process space stands.machine stands.bounds own.1 in
    let done = pages_changed d.0 (ground_in space []) process said at.lying in
    let is : small_by process said d.0 at ≡ with_change at process done =
    ap (λ (b : Bool). small_where b d.0 at process said) own.0
    ∙ ap (λ (g : Ground). with_change at process (pages_changed d.0 g process said at.lying))
    (sym basis) in
    let moves : Option Reply → HostLying = λ t. along_if (tells_move t) process done.1 in
    let to = subst
    (ChangesTo answer (record { host = running.host; pages = pages_then }) process at)
    (sym is) (
      told-along done.0 (length at.history) process done.1
          ∙ ap (λ (t : Option Reply). told_by t (length at.history) process (moves done.0)) d.1,
      record {
        machine = stands.machine;
        bounds = stands.bounds;
        stands = stands.stands;
        lies = subst (λ (t : Option Reply). HostLies pages_then (moves t)) (sym d.1)
            (goes done.1 d.2);
        are = along_if-are (tells_move done.0) process done.1 at.history
            (changed-are d.0 (ground_in space []) process said at.lying at.history stands.are);
      },
    ) in
    (d.0, to.0, to.1)

-- a process without pages of 2 MiB
pub small-acts : (old new : RunningHost) (answer : Option Reply) (process : ℕ) (said : PageLine)
    → said ≢ page.Moved
    → ((at : Hosting) → RunsAs old at → memory_at at process ≡ None)
    → Changes old answer new process (λ lacked at. small_by process said lacked at)
    → Changes old answer new process (λ lacked at. page_by process said lacked at)
small-acts old new answer process said moved none changes = λ at stands.
    let d = changes at stands in
    let is : page_by process said d.0 at ≡ small_by process said d.0 at =
    by_there (is_there (members_of at.history) process) d.0 at (none at stands) in
    let to = subst (ChangesTo answer new process at) (sym is) (d.1, d.2) in
    (d.0, to.0, to.1)
  where
    by_there : (there : Bool) (lacked : Lack) (at : Hosting) → memory_at at process ≡ None
        → page_where there lacked at process said ≡ small_where there lacked at process said
    by_there true lacked at gone = there-changes said moved lacked at process gone
    by_there false lacked at gone = refl

-- ---- every line about pages that a process is told

pub page-acts : (said : PageLine) → ((node pages : ℕ) → said ≢ page.Room node pages)
    → said ≢ page.Rooms → ((follows : Bool) → said ≢ page.MemoryMigrate follows)
    → (lacked : Lack) (at : Hosting) (process : ℕ)
    → page_outcome lacked at process said ≡ page_by process said lacked at
page-acts (page.At start bytes node) room rooms follow lacked at process = refl
page-acts (page.Room node pages) room rooms follow lacked at process =
    absurd (room node pages refl)
page-acts (page.MemoryMigrate follows) room rooms follow lacked at process =
    absurd (follow follows refl)
page-acts (page.Migrate from to) room rooms follow lacked at process = refl
page-acts (page.Move address node) room rooms follow lacked at process = refl
page-acts (page.Populate start bytes task cpu) room rooms follow lacked at process = refl
page-acts page.Rooms room rooms follow lacked at process = absurd (rooms refl)
page-acts page.Moved room rooms follow lacked at process = refl

module _ (old new : RunningHost) (process : ℕ) (said : PageLine)
    (acts : (lacked : Lack) (at : Hosting)
    → page_outcome lacked at process said ≡ page_by process said lacked at) where
  pub acted-told : (answer : Reply)
      → Changes old (Some answer) new process (λ lacked at. page_by process said lacked at)
      → Takes old (told process (line.Pages (Ok said))) (taken.Reply answer) new
  acted-told answer changes = λ at stands.
      let d = changes at stands in
      let is : host_outcome (flag d.0) at (told process (line.Pages (Ok said)))
      ≡ page_by process said d.0 at = acts d.0 at in (
        flag d.0,
        sym (ap (λ (o : Outcome). reply_in o.answer) is
            ∙ ap reply_in d.1),
        subst (λ (o : Outcome). RunsAs new (hosting_with at o)) (sym is) d.2,
      )

  pub acted-touched :
      Changes old None new process (λ lacked at. page_by process said lacked at)
      → Takes old (told process (line.Pages (Ok said))) (taken.Arrived process) new
  acted-touched changes = λ at stands.
      let d = changes at stands in
      let is : host_outcome (flag d.0) at (told process (line.Pages (Ok said)))
      ≡ page_by process said d.0 at = acts d.0 at in (
        flag d.0,
        (
          subst (λ (o : Outcome). Shown (arrived_text (hosting_with at o) process) ≡ o.answer)
              (sym is) (sym d.1),
          refl,
        ),
        subst (λ (o : Outcome). RunsAs new (hosting_with at o)) (sym is) d.2,
      )

-- a reply that changes nothing
pub replied-still : (running : RunningHost) (said : ScriptLine) (answer : Reply)
    → ((lack : HostLack) (at : Hosting) → host_outcome lack at said ≡ with_reply answer at)
    → Takes running said (taken.Reply answer) running
replied-still running said answer is =
    still running answer (λ lack at. host_outcome lack at said) plenty
    (λ at stands. is plenty at)

-- ---- lines about pages that no process is told

pub limited-taken : (running : RunningHost) (pages : HostPages) (machine : Hardware)
    (node count : ℕ) (found : Result (Unit {0}) PlacedRefusal)
    → machine ≡ running.host.blank.machine
    → ((at : HostLying) → HostLies running.pages at
    → (found ≡ (with_room machine node count at).0)
    × HostLies pages (with_room machine node count at).1)
    → Takes running (alone (line.Pages (Ok (page.Room node count))))
    (taken.Reply (page_reply reply.RoomOk found))
    (record { host = running.host; pages = pages })
limited-taken running pages machine node count found its limits = λ at stands.
    let done = subst (λ (m : Hardware). (found ≡ (with_room m node count at.lying).0)
    × HostLies pages (with_room m node count at.lying).1) (its ∙ stands.machine)
    (limits at.lying stands.lies) in (
      plenty,
      ap (λ (f : Result (Unit {0}) PlacedRefusal). Some (page_reply reply.RoomOk f)) done.0,
      record {
        machine = stands.machine;
        bounds = stands.bounds;
        stands = stands.stands;
        lies = done.1;
        are = record { order = stands.are.order; same = stands.are.same };
      },
    )

pub followed-taken : (running : RunningHost) (pages : HostPages) (follows : Bool)
    → ((at : HostLying) → HostLies running.pages at
    → HostLies pages (record at { follows = follows }))
    → Takes running (alone (line.Pages (Ok (page.MemoryMigrate follows))))
    (taken.Reply reply.MemoryMigrateOk) (record { host = running.host; pages = pages })
followed-taken running pages follows sets = λ at stands. (
  plenty,
  refl,
  record {
    machine = stands.machine;
    bounds = stands.bounds;
    stands = stands.stands;
    lies = sets at.lying stands.lies;
    are = record { order = stands.are.order; same = stands.are.same };
  },
)

nothing-own : (said : PageLine) → ((node pages : ℕ) → said ≢ page.Room node pages)
    → said ≢ page.Rooms → said ≢ page.Moved
    → ((follows : Bool) → said ≢ page.MemoryMigrate follows)
    → (at : Hosting) → own_page_outcome at said ≡ with_reply reply.BadState at
nothing-own (page.At start bytes node) room rooms moved follow at = refl
nothing-own (page.Room node pages) room rooms moved follow at = absurd (room node pages refl)
nothing-own (page.MemoryMigrate follows) room rooms moved follow at =
    absurd (follow follows refl)
nothing-own (page.Migrate from to) room rooms moved follow at = refl
nothing-own (page.Move address node) room rooms moved follow at = refl
nothing-own (page.Populate start bytes task cpu) room rooms moved follow at = refl
nothing-own page.Rooms room rooms moved follow at = absurd (rooms refl)
nothing-own page.Moved room rooms moved follow at = absurd (moved refl)

-- every other line is a process's
pub own-nothing : (running : RunningHost) (said : PageLine)
    → ((node pages : ℕ) → said ≢ page.Room node pages) → said ≢ page.Rooms
    → said ≢ page.Moved → ((follows : Bool) → said ≢ page.MemoryMigrate follows)
    → Takes running (alone (line.Pages (Ok said))) (taken.Reply reply.BadState) running
own-nothing running said room rooms moved follow =
    still running reply.BadState (λ lack at. own_page_outcome at said) plenty
    (λ at stands. nothing-own said room rooms moved follow at)
