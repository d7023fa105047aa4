-- What becomes of a host that answers a line.
use Rattle.std.proofs.Common.{◌≡◌, ◌∷◌, ℕ, Bool, true, false, Option, Some, None, Ok, Err, List}
use Rattle.std.proofs.Common.{length}
use Rattle.std.proofs.Common.{refl, sym, ap, subst, ◌∙◌}
use Rattle.std.proofs.lemmas.Bool.{ne_eqb}
use Rattle.std.specs.Prelude.{MatchOption, not}
use Rattle.numa_machine.specs.Machine.{Hardware}
use Rattle.numa_space.specs.Limited.{Bounds}
use Rattle.numa_space.specs.Steps.{MayNeedRoom}
use Rattle.numa_requests.specs.declared.command.Command.{Command}
use Rattle.numa_requests.specs.declared.command.Command.TheVariants as own
use Rattle.numa_host.specs.Causes.{first_of, host_refusal_of, when}
use Rattle.numa_host.specs.Standing.{HostState, HostStandsFor, HostMayNeedRoom}
use Rattle.numa_requests.specs.declared.host_command.HostCommand.{HostCommand}
use Rattle.numa_requests.specs.declared.host_command.HostCommand.TheVariants as command
use Rattle.numa_requests.specs.declared.host_refusal.HostRefusal.{HostRefusal}
use Rattle.numa_requests.specs.declared.host_refusal.HostRefusal.TheVariants.{NoMemory}
use Rattle.numa_page_state.specs.Outcomes.{Enough, Lack, Starved}
use Rattle.numa_script.specs.declared.reply.Reply.{Reply}
use Rattle.numa_script.specs.declared.reply.Reply.TheVariants as reply
use Rattle.numa_run.specs.Replies.{reply_in}
use Rattle.numa_run.specs.Work.{needs_room}
use Rattle.numa_host_pages.specs.Homes.{HostLying}
use Rattle.numa_host_pages.specs.Obeying.{pages_after}
use Rattle.numa_host_pages.specs.Standing.{AreOf, HostLies, Obeys}
use Rattle.numa_host_script.specs.Hosts.{Hosting, HostLack, Outcome, command_outcome, command_unless}
use Rattle.numa_host_script.specs.Hosts.{host_needs_room, with_reply}
use Rattle.numa_host_script.specs.declared.running.RunningHost.{RunningHost}
use Rattle.numa_host_script.specs.Standing.{Replies, RunsAs, hosting_with}

-- a command of a process that may need room does so by the definition
room-needed : (said : Command) → MayNeedRoom said → needs_room said ≡ true
room-needed (own.Map start bytes offset size) room = refl
room-needed (own.Unmap start bytes) room = ap not (ne_eqb bytes 0 room)
room-needed (own.Mbind start bytes spec) room = ap not (ne_eqb bytes 0 room)
room-needed (own.SetHome start bytes node) room = ap not (ne_eqb bytes 0 room)
room-needed (own.SetTask task spec) room = ap not room
room-needed (own.Inherit task from) room = refl
room-needed (own.SetWeight node weight) room = absurd room
room-needed (own.SetMems mask) room = absurd room

-- and so does one of the host
pub host-room_needed : (said : HostCommand) → HostMayNeedRoom said → host_needs_room said ≡ true
host-room_needed (command.NewGroup group parent) room = refl
host-room_needed (command.SetGroupMems group mems) room = absurd room
host-room_needed (command.NewProcess process group) room = refl
host-room_needed (command.Exit process) room = absurd room
host-room_needed (command.Attach process group) room = absurd room
host-room_needed (command.Fork parent child from task) room = refl
host-room_needed (command.In process said) room = room-needed said room
host-room_needed (command.SetWeight node weight) room = absurd room

-- the answered cause is the first of all, where a growth may have been refused
pub first-told : (needs : Bool) (first : Option HostRefusal) (refusal : HostRefusal)
    → MatchOption first (refusal ≡ NoMemory) (λ cause. refusal ≡ cause)
    → (refusal ≡ NoMemory → needs ≡ true)
    → first_of first (when needs NoMemory) ≡ Some refusal
first-told needs None refusal is room =
    ap (λ (b : Bool). when b NoMemory) (room is) ∙ sym (ap Some is)
first-told needs (Some cause) refusal is room = sym (ap Some is)

-- the cause that stands against a command of the host is that of the definition
pub cause-here : (running : RunningHost) (at : Hosting) (said : HostCommand) → RunsAs running at
    → host_refusal_of running.host.blank.machine running.host.blank.bounds at.history said
    ≡ host_refusal_of at.machine at.bounds at.history said
cause-here running at said stands =
    ap (λ (m : Hardware). host_refusal_of m running.host.blank.bounds at.history said)
    stands.machine
    ∙ ap (λ (b : Bounds). host_refusal_of at.machine b at.history said) stands.bounds

-- a reply that changes nothing
pub still : (running : RunningHost) (answer : Reply) (outcome : HostLack → Hosting → Outcome)
    (lack : HostLack)
    → ((at : Hosting) → RunsAs running at → outcome lack at ≡ with_reply answer at)
    → Replies running answer running outcome
still running answer outcome lack is = λ at stands.
    let here = is at stands in (
      lack,
      sym (ap (λ (o : Outcome). reply_in o.answer) here),
      subst (λ (o : Outcome). RunsAs running (hosting_with at o)) (sym here) stands,
    )

-- what memory lacked for, where it lacked for moves alone
abbrev moves-lack : Lack → (ℕ → ℕ → Lack) → HostLack
moves-lack lacked moves = record { lacked = lacked; moves = moves }

-- a command that was accepted
pub carried : (old new : RunningHost) (said : HostCommand) (version : ℕ)
    → Obeys old.host old.pages said (Ok tt) new.host new.pages
    → ((history : List HostCommand) → HostStandsFor new.host history → version ≡ length history)
    → Replies old (reply.Accepted version) new (λ lack at. command_outcome lack at said)
carried old new said version obeys counts = λ at stands.
    let ok = obeys.applied.ok at.history stands.stands in
    let did = obeys.lies at.history at.lying stands.stands stands.lies stands.are in
    let none : host_refusal_of at.machine at.bounds at.history said ≡ None =
    sym (cause-here old at said stands) ∙ ok.0 in
    let lack : HostLack = moves-lack Enough did.0 in
    let after : HostLying = pages_after did.0 at.machine at.history said at.lying in
    let is : command_outcome lack at said ≡ command_unless None after at said =
    ap (λ (c : Option HostRefusal). command_unless (first_of c None) after at said) none in
    let moved = ap (λ (m : Hardware). pages_after did.0 m at.history said at.lying)
    stands.machine in (
      lack,
      ap (λ (n : ℕ). Some (reply.Accepted n)) (counts (said ∷ at.history) ok.1)
          ∙ sym (ap (λ (o : Outcome). reply_in o.answer) is),
      subst (λ (o : Outcome). RunsAs new (hosting_with at o)) (sym is) (record {
        machine = obeys.applied.machine ∙ stands.machine;
        bounds = obeys.applied.bounds ∙ stands.bounds;
        stands = ok.1;
        lies = subst (HostLies new.pages) moved did.1;
        are = subst (λ (l : HostLying). AreOf l (said ∷ at.history)) moved did.2;
      }),
    )

-- a command that was refused
pub denied : (old new : RunningHost) (said : HostCommand) (refusal : HostRefusal)
    → Obeys old.host old.pages said (Err refusal) new.host new.pages
    → Replies old (reply.HostRefused refusal) new (λ lack at. command_outcome lack at said)
denied old new said refusal obeys = λ at stands.
    let did = obeys.lies at.history at.lying stands.stands stands.lies stands.are in
    let first = subst
    (λ (c : Option HostRefusal). MatchOption c (refusal ≡ NoMemory) (λ f. refusal ≡ f))
    (cause-here old at said stands) (obeys.applied.err at.history stands.stands) in
    let lack : HostLack = moves-lack Starved did.0 in
    let is : command_outcome lack at said ≡ with_reply (reply.HostRefused refusal) at =
    ap (λ (c : Option HostRefusal). command_unless c
    (pages_after did.0 at.machine at.history said at.lying) at said)
    (first-told (host_needs_room said) (host_refusal_of at.machine at.bounds at.history said)
    refusal first (λ is. host-room_needed said (obeys.applied.room is))) in
    let same : new.host ≡ old.host = obeys.applied.unchanged in (
      lack,
      sym (ap (λ (o : Outcome). reply_in o.answer) is),
      subst (λ (o : Outcome). RunsAs new (hosting_with at o)) (sym is) (record {
        machine = obeys.applied.machine ∙ stands.machine;
        bounds = obeys.applied.bounds ∙ stands.bounds;
        stands = subst (λ (h : HostState). HostStandsFor h at.history) (sym same) stands.stands;
        lies = did.1;
        are = stands.are;
      }),
    )
