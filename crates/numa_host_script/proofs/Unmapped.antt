-- What commands of a process make of a host that answers them.
use Rattle.std.proofs.Common.{◌≡◌, ◌≢◌, ◌⊎◌, ℕ, Bool, true, false, Option, Some, None, Result, Ok}
use Rattle.std.proofs.Common.{Err}
use Rattle.std.proofs.Common.{List, ◌∷◌, refl, sym, ap, subst, ◌∙◌, inl, inr, is_some, IsSome}
use Rattle.std.proofs.Common.{MatchOption, length}
use Rattle.std.proofs.lemmas.Bool.{both_ways}
use Rattle.std.specs.Prelude.{◌&&◌, if◌then◌else◌, nat_le, not}
use Rattle.std.specs.Option.{option_map}
use Rattle.numa_machine.specs.Machine.{Hardware}
use Rattle.numa_space.specs.Limited.{Bounds}
use Rattle.numa_space.specs.Refusals.{refusal_of}
use Rattle.numa_requests.specs.declared.command.Command.{Command}
use Rattle.numa_requests.specs.declared.command.Command.TheVariants as own
use Rattle.numa_requests.specs.declared.host_command.HostCommand.{HostCommand}
use Rattle.numa_requests.specs.declared.host_command.HostCommand.TheVariants.{In}
use Rattle.numa_requests.specs.declared.host_refusal.HostRefusal.{HostRefusal}
use Rattle.numa_requests.specs.declared.host_refusal.HostRefusal.TheVariants.{CommandsSpent}
use Rattle.numa_requests.specs.declared.host_refusal.HostRefusal.TheVariants.{GroupMems}
use Rattle.numa_requests.specs.declared.host_refusal.HostRefusal.TheVariants.{NoMemory}
use Rattle.numa_requests.specs.declared.host_refusal.HostRefusal.TheVariants.{NoSuchProcess}
use Rattle.numa_requests.specs.declared.host_refusal.HostRefusal.TheVariants.{OfSpace}
use Rattle.numa_requests.specs.declared.page_refusal.PlacedRefusal.{PlacedRefusal}
use Rattle.numa_requests.specs.declared.page_refusal.PlacedRefusal.TheVariants as cause
use Rattle.numa_requests.specs.declared.refusal.Refusal.{Refusal}
use Rattle.numa_host.specs.Causes.{first_of, host_refusal_of, is_the_host_s, when}
use Rattle.numa_host.specs.Processes.{commands_of, is_there, members_of}
use Rattle.numa_host.specs.Standing.{HostState, HostStandsFor, IsHostApplied}
use Rattle.numa_host_pages.specs.Homes.{HostLying, given_back, lent, lent_or_new, pages_in}
use Rattle.numa_host_pages.specs.Homes.{pages_lent}
use Rattle.numa_host_pages.specs.Standing.{AreOf, HostLies, LiesApart, Obeys}
use Rattle.numa_host_pages.specs.declared.pages.HostPages.{HostPages}
use Rattle.numa_host_pages.proofs.Obeyed.{stays}
use Rattle.numa_page_state.specs.Lying.{Lying, with_spots}
use Rattle.numa_page_state.specs.Outcomes.{Enough, Lack, Starved, forgotten, has_stated, is_starved}
use Rattle.numa_page_state.specs.Outcomes.{lack_told}
use Rattle.numa_page_state.specs.Standing.{Forgets, LiesAs}
use Rattle.numa_page_state.specs.declared.state.PageState.{PageState}
use Rattle.numa_page_state.proofs.Unmapping.{nothing-stated}
use Rattle.numa_placed.specs.Laid.{Laid}
use Rattle.numa_placed.specs.Spots.{spot_at}
use Rattle.numa_placed.specs.declared.spot.Spot.{Spot}
use Rattle.numa_placed.specs.declared.spot.Spot.TheVariants.{Nowhere}
use Rattle.numa_script.specs.declared.reply.Reply.{Reply}
use Rattle.numa_script.specs.declared.reply.Reply.TheVariants as reply
use Rattle.numa_run.specs.Replies.{reply_in}
use Rattle.numa_host_script.specs.Hosts.{Hosting, HostLack, Outcome, command_unless, host_needs_room}
use Rattle.numa_host_script.specs.Hosts.{plenty, process_outcome, with_reply}
use Rattle.numa_host_script.specs.Paging.{lying_with, obeyed, pages_at, pages_reply, small_unmap}
use Rattle.numa_host_script.specs.Standing.{Answers, ForgetsIn, HostRuns, IsReplyTo, Replies}
use Rattle.numa_host_script.specs.Standing.{RunsAs, hosting_with}
use Rattle.numa_host_script.specs.declared.running.RunningHost.{RunningHost}
use Rattle.numa_host_script.proofs.Lent.{given-are, lent-some}
use Rattle.numa_host_script.proofs.Obeyed.{carried, cause-here, denied}

-- what the line itself lacked
abbrev pub flag : Lack → HostLack
flag lacked = record { lacked = lacked; moves = plenty.moves }

-- ---- a command that leaves pages where they lie

process-obeys : (old : RunningHost) (process : ℕ) (said : Command)
    (done : Result (Unit {0}) HostRefusal) (host : HostState)
    → IsHostApplied old.host (In process said) done host
    → Obeys old.host old.pages (In process said) done host old.pages
process-obeys old process said done host applied =
    stays old.host old.pages (In process said) done host (λ lacks history at. refl)
    (λ history. refl) (λ history. refl) applied

module _ (old : RunningHost) (host : HostState) (process : ℕ) (said : Command) (answer : Reply)
  where
    abbrev pub then_host : RunningHost
    then_host = record { host = host; pages = old.pages }

    by-done : (done : Result (Unit {0}) HostRefusal)
        → IsHostApplied old.host (In process said) done host → IsReplyTo done host answer
        → Replies old answer then_host (λ lack at. process_outcome lack.lacked at process said)
    by-done (Ok done) applied is =
        subst (λ (r : Reply). Replies old r then_host
        (λ lack at. process_outcome lack.lacked at process said)) (sym is)
        (carried old then_host (In process said) host.version
        (process-obeys old process said (Ok done) host applied) (λ history stands. stands.version))
    by-done (Err why) applied is =
        subst (λ (r : Reply). Replies old r then_host
        (λ lack at. process_outcome lack.lacked at process said)) (sym is)
        (denied old then_host (In process said) why
        (process-obeys old process said (Err why) host applied))

    pub answered : Answers old.host (In process said) answer host
        → Replies old answer then_host (λ lack at. process_outcome lack.lacked at process said)
    answered answers = by-done answers.0 answers.1 answers.2

-- ---- a command that something stands against

first-only : (first one other : Option HostRefusal) → is_some first ≡ true
    → first_of first one ≡ first_of first other
first-only None one other some = absurd (both_ways false refl some)
first-only (Some why) one other some = refl

-- lack of memory shows only where nothing else refuses it
pub cause-alike : (lacked : Lack) (at : Hosting) (process : ℕ) (said : Command)
    → is_some (host_refusal_of at.machine at.bounds at.history (In process said)) ≡ true
    → process_outcome lacked at process said ≡ process_outcome Enough at process said
cause-alike lacked at process said some =
    ap (λ (c : Option HostRefusal). command_unless c at.lying at (In process said))
    (first-only (host_refusal_of at.machine at.bounds at.history (In process said))
    (when (is_starved lacked && host_needs_room (In process said)) NoMemory)
    (when (false && host_needs_room (In process said)) NoMemory) some)

either-some : (first other : Option HostRefusal) → is_some other ≡ true
    → is_some (first_of first other) ≡ true
either-some None other some = some
either-some (Some why) other some = refl

mapped-some : (why : Option Refusal) → is_some why ≡ true
    → is_some (option_map OfSpace why) ≡ true
mapped-some None some = some
mapped-some (Some why) some = refl

-- what stands against it in the space of the process does in the host
pub cause-some : (machine : Hardware) (bounds : Bounds) (history : List HostCommand) (process : ℕ)
    (said : Command)
    → is_some (refusal_of machine bounds (commands_of machine history process) said) ≡ true
    → is_some (host_refusal_of machine bounds history (In process said)) ≡ true
cause-some machine bounds history process said some =
    let own_one = option_map OfSpace
    (refusal_of machine bounds (commands_of machine history process) said) in
    let host_one = when (is_the_host_s said) GroupMems in
    let nobody = when (not (is_there (members_of history) process)) NoSuchProcess in
    either-some (when (nat_le bounds.max_commands (length history)) CommandsSpent)
    (first_of nobody (first_of host_one own_one))
    (either-some nobody (first_of host_one own_one) (either-some host_one own_one
    (mapped-some (refusal_of machine bounds (commands_of machine history process) said) some)))

pub told-some : (first : Option HostRefusal) (why : HostRefusal) → is_some first ≡ true
    → MatchOption first (why ≡ NoMemory) (λ f. why ≡ f) → first ≡ Some why
told-some None why some is = absurd (both_ways false refl some)
told-some (Some f) why some is = ap Some (sym is)

pub told-or : (first : Option HostRefusal) (why : HostRefusal)
    → MatchOption first (why ≡ NoMemory) (λ f. why ≡ f) → (first ≡ Some why) ⊎ (why ≡ NoMemory)
told-or None why is = inr is
told-or (Some f) why is = inl (ap Some (sym is))

pub runs-cause : (host : HostState) (at : Hosting) (said : HostCommand) → HostRuns host at
    → host_refusal_of host.blank.machine host.blank.bounds at.history said
    ≡ host_refusal_of at.machine at.bounds at.history said
runs-cause host at said runs = λ i. host_refusal_of (runs.machine i) (runs.bounds i) at.history said

module _ (host new : HostState) (at : Hosting) (process : ℕ) (said : Command) (answer : Reply)
    (runs : HostRuns host at)
    (some : is_some (host_refusal_of at.machine at.bounds at.history (In process said)) ≡ true)
  where
    refused-by : (done : Result (Unit {0}) HostRefusal)
        → IsHostApplied host (In process said) done new → IsReplyTo done new answer
        → (process_outcome Enough at process said ≡ with_reply answer at) × HostRuns new at
    refused-by (Ok done) applied is =
        let none = sym (runs-cause host at (In process said) runs)
        ∙ (applied.ok at.history runs.stands).0 in
        absurd (both_ways (is_some (host_refusal_of at.machine at.bounds at.history
        (In process said))) (ap (λ (o : Option HostRefusal). is_some o) none) some)
    refused-by (Err why) applied is =
        let first = told-some (host_refusal_of at.machine at.bounds at.history (In process said)) why
        some (subst (λ (c : Option HostRefusal). MatchOption c (why ≡ NoMemory) (λ f. why ≡ f))
        (runs-cause host at (In process said) runs) (applied.err at.history runs.stands)) in (
          ap (λ (c : Option HostRefusal). command_unless (first_of c None) at.lying at
              (In process said)) first
              ∙ ap (λ (r : Reply). with_reply r at) (sym is),
          subst (λ (h : HostState). HostRuns h at) (sym applied.unchanged) runs,
        )

    pub refused-plain : Answers host (In process said) answer new
        → (process_outcome Enough at process said ≡ with_reply answer at) × HostRuns new at
    refused-plain answers = refused-by answers.0 answers.1 answers.2

-- ---- unmap

-- what is forgotten of the pages of a process
module _ (process start bytes : ℕ) (at : HostLying) where
  abbrev ForgetsOf : Result (Option Laid) PlacedRefusal → Type 0
  ForgetsOf found = ForgetsIn (pages_in process at.homes) (pages_lent process at).spots start
      bytes found

  abbrev ForgetsBy : Result (Option Laid) PlacedRefusal → Option Lying → Type 0
  ForgetsBy found None = ForgetsIn None (λ page. Nowhere) start bytes found
  ForgetsBy found (Some lying) = ForgetsIn (Some lying) lying.spots start bytes found

  forgets-by : (found : Result (Option Laid) PlacedRefusal) (had : Option Lying)
      → pages_in process at.homes ≡ had → ForgetsBy found had → ForgetsOf found
  forgets-by found None is forgets =
      subst (λ (o : Option Lying). ForgetsIn o (lent_or_new at.room at.follows o).spots start
      bytes found) (sym is) forgets
  forgets-by found (Some lying) is forgets =
      subst (λ (o : Option Lying). ForgetsIn o (lent_or_new at.room at.follows o).spots start
      bytes found) (sym is) forgets

  pub forgets-nothing : pages_in process at.homes ≡ None → ForgetsOf (Ok None)
  forgets-nothing none = forgets-by (Ok None) None none (nothing-stated start bytes)

  forgets-as : (state : PageState) (lying shown : Lying) → LiesAs state shown
      → shown.spots ≡ lying.spots → (found : Result (Option Laid) PlacedRefusal)
      → Forgets (Some state) start bytes found → ForgetsBy found (Some lying)
  forgets-as state lying shown lies same (Ok None) forgets =
      subst (λ (s : ℕ → Spot). has_stated s start bytes ≡ false) same (forgets shown lies)
  forgets-as state lying shown lies same (Ok (Some after)) forgets =
      let f = forgets shown lies in
      subst (λ (s : ℕ → Spot). ForgetsIn (Some lying) s start bytes (Ok (Some after))) same
      (f.0, refl, f.2)
  forgets-as state lying shown lies same (Err why) forgets =
      subst (λ (s : ℕ → Spot). ForgetsIn (Some lying) s start bytes (Err why)) same
      (forgets shown lies)

  pub forgets-there : (state : PageState) (lying : Lying)
      → pages_in process at.homes ≡ Some lying → LiesApart state lying
      → (found : Result (Option Laid) PlacedRefusal)
      → Forgets (Some state) start bytes found → ForgetsOf found
  forgets-there state lying is lies found forgets = forgets-by found (Some lying) is
      (forgets-as state lying (lent lies.0 lies.1 lying) lies.2 refl found forgets)

module _ (old : RunningHost) (process start bytes : ℕ) where
  abbrev said : HostCommand
  said = In process (own.Unmap start bytes)

  abbrev pub unmaps : HostLack → Hosting → Outcome
  unmaps lack at = small_unmap lack.lacked at process start bytes

  abbrev pub ForgetsAll : Result (Option Laid) PlacedRefusal → Type 0
  ForgetsAll found = (at : HostLying) → HostLies old.pages at
      → ForgetsIn (pages_in process at.homes) (pages_lent process at).spots start bytes found

  -- pages stand against it
  pub unmap-denied : (why : PlacedRefusal) → ForgetsAll (Err why)
      → Replies old (pages_reply why) old unmaps
  unmap-denied why forgets = λ at stands.
      let f = forgets at.lying stands.lies in
      let is : unmaps (flag (lack_told why)) at ≡ with_reply (pages_reply why) at =
      rw (f.0, f.1) refl in (
        flag (lack_told why),
        sym (ap (λ (o : Outcome). reply_in o.answer) is),
        subst (λ (o : Outcome). RunsAs old (hosting_with at o)) (sym is) stands,
      )

  -- nothing was stated of the span
  pub unmap-plain : (new : RunningHost) (answer : Reply) → ForgetsAll (Ok None)
      → Replies old answer new (λ lack at. process_outcome lack.lacked at process
      (own.Unmap start bytes))
      → Replies old answer new unmaps
  unmap-plain new answer forgets serves = λ at stands.
      let s = serves at stands in
      let is : unmaps s.0 at ≡ process_outcome s.0.lacked at process (own.Unmap start bytes) =
      rw (forgets at.lying stands.lies) refl in (
        s.0,
        s.1 ∙ sym (ap (λ (o : Outcome). reply_in o.answer) is),
        subst (λ (o : Outcome). RunsAs new (hosting_with at o)) (sym is) s.2,
      )

  module _ (after : Laid) (forgets : ForgetsAll (Ok (Some after))) where
    abbrev lying_then : Hosting → HostLying
    lying_then at = lying_with at process (with_spots
        (forgotten start bytes (pages_at at process).spots) (pages_at at process))

    enough : (at : Hosting) → RunsAs old at
        → unmaps (flag Enough) at ≡ command_unless (first_of
        (host_refusal_of at.machine at.bounds at.history said) None) (lying_then at) at said
    enough at stands =
        let f = forgets at.lying stands.lies in rw f.0 refl

    lacks : (at : Hosting) → RunsAs old at
        → unmaps (flag Starved) at ≡ with_reply (pages_reply cause.NoMemory) at
    lacks at stands =
        let f = forgets at.lying stands.lies in rw f.0 refl

    pub unmap-refused : (host : HostState) (why : HostRefusal)
        → IsHostApplied old.host said (Err why) host
        → Replies old (reply.HostRefused why) (record { host = host; pages = old.pages }) unmaps
    unmap-refused host why applied = λ at stands.
        let new : RunningHost = record { host = host; pages = old.pages } in
        let runs : RunsAs new at = record {
          machine = applied.machine ∙ stands.machine;
          bounds = applied.bounds ∙ stands.bounds;
          stands = subst (λ (h : HostState). HostStandsFor h at.history)
              (sym applied.unchanged) stands.stands;
          lies = stands.lies;
          are = stands.are;
        } in
        elim (told-or (host_refusal_of at.machine at.bounds at.history said) why
        (subst (λ (c : Option HostRefusal). MatchOption c (why ≡ NoMemory) (λ f. why ≡ f))
        (cause-here old at said stands) (applied.err at.history stands.stands))) [
          | inl first ↦
              let is : unmaps (flag Enough) at ≡ with_reply (reply.HostRefused why) at =
              enough at stands ∙ ap (λ (c : Option HostRefusal).
              command_unless (first_of c None) (lying_then at) at said) first in (
                flag Enough,
                sym (ap (λ (o : Outcome). reply_in o.answer) is),
                subst (λ (o : Outcome). RunsAs new (hosting_with at o)) (sym is) runs,
              )
          | inr lack ↦
              let is : unmaps (flag Starved) at ≡ with_reply (reply.HostRefused why) at =
              lacks at stands ∙ ap (λ (w : HostRefusal). with_reply (reply.HostRefused w) at)
              (sym lack) in (
                flag Starved,
                sym (ap (λ (o : Outcome). reply_in o.answer) is),
                subst (λ (o : Outcome). RunsAs new (hosting_with at o)) (sym is) runs,
              )
        ]

    pub unmap-done : (host : HostState) (pages : HostPages) (version : ℕ)
        → IsHostApplied old.host said (Ok tt) host
        → ((history : List HostCommand) → HostStandsFor host history → version ≡ length history)
        → ((at : HostLying) (spots : ℕ → Spot) → HostLies old.pages at
        → IsSome (pages_in process at.homes) → ((page : ℕ) → spot_at after page ≡ spots page)
        → HostLies pages (given_back process (with_spots spots (pages_lent process at)) at))
        → Replies old (reply.Accepted version) (record { host = host; pages = pages }) unmaps
    unmap-done host pages version applied counts replaces = λ at stands.
        let new : RunningHost = record { host = host; pages = pages } in
        let f = forgets at.lying stands.lies in
        let ok = applied.ok at.history stands.stands in
        let none : host_refusal_of at.machine at.bounds at.history said ≡ None =
        sym (cause-here old at said stands) ∙ ok.0 in
        let is : unmaps (flag Enough) at ≡ command_unless None (lying_then at) at said =
        enough at stands ∙ ap (λ (c : Option HostRefusal).
        command_unless (first_of c None) (lying_then at) at said) none in
        let are = given-are process (with_spots
        (forgotten start bytes (pages_at at process).spots) (pages_at at process)) at.lying
        at.history stands.are in (
          flag Enough,
          ap (λ (n : ℕ). Some (reply.Accepted n)) (counts (said ∷ at.history) ok.1)
              ∙ sym (ap (λ (o : Outcome). reply_in o.answer) is),
          subst (λ (o : Outcome). RunsAs new (hosting_with at o)) (sym is) (record {
            machine = applied.machine ∙ stands.machine;
            bounds = applied.bounds ∙ stands.bounds;
            stands = ok.1;
            lies = replaces at.lying (forgotten start bytes (pages_at at process).spots)
                stands.lies f.1 f.2;
            are = record { order = are.order; same = are.same };
          }),
        )

-- ---- every command of a process

pub obeyed-plain : (old new : RunningHost) (answer : Reply) (process : ℕ) (said : Command)
    → ((start bytes : ℕ) → said ≢ own.Unmap start bytes)
    → Replies old answer new (λ lack at. process_outcome lack.lacked at process said)
    → Replies old answer new (λ lack at. obeyed lack.lacked at process said)
obeyed-plain old new answer process (own.Unmap start bytes) other serves =
    absurd (other start bytes refl)
obeyed-plain old new answer process (own.Map start bytes offset size) other serves = serves
obeyed-plain old new answer process (own.Mbind start bytes spec) other serves = serves
obeyed-plain old new answer process (own.SetTask task spec) other serves = serves
obeyed-plain old new answer process (own.Inherit task from) other serves = serves
obeyed-plain old new answer process (own.SetHome start bytes node) other serves = serves
obeyed-plain old new answer process (own.SetWeight node weight) other serves = serves
obeyed-plain old new answer process (own.SetMems mask) other serves = serves
