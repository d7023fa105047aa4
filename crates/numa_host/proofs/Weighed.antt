-- A weight, over the whole host.
use Rattle.std.proofs.Common.{◌≡◌, ◌<◌, ℕ, ◌+◌, List, ◌∷◌, length, get_or, refl, sym, ap, ◌∙◌}
use Rattle.std.proofs.Common.{subst, arith, All, None, Result, Ok, Err, OnOk, OnErr}
use Rattle.std.proofs.Common.{leb, false}
use Rattle.std.proofs.lemmas.Bool.{lt-leb}
use Rattle.std.specs.Prelude.{nat_le}
use Rattle.numa_machine.specs.Machine.{Hardware}
use Rattle.numa_space.specs.Limited.{Bounds}
use Rattle.numa_space.specs.Refusals.{refusal_in, refusal_of, first_of, when, is_bad_weight}
use Rattle.numa_space.specs.Steps.{scene_in, IsApplied}
use Rattle.numa_requests.specs.declared.refusal.Refusal.{Refusal}
use Rattle.numa_requests.specs.declared.refusal.Refusal.TheVariants as cause
use Rattle.numa_space.proofs.Refused.{first_of-none}
use Rattle.numa_host.specs.Causes.{host_refusal_of}
use Rattle.numa_host.proofs.Lengths.{commands-few}
use Rattle.numa_space.specs.Standing.{SpaceState, StandsFor}
use Rattle.numa_requests.specs.declared.command.Command.{Command}
use Rattle.numa_requests.specs.declared.command.Command.TheVariants as own
use Rattle.numa_requests.specs.declared.host_command.HostCommand.{HostCommand}
use Rattle.numa_requests.specs.declared.host_command.HostCommand.TheVariants.{SetWeight}
use Rattle.numa_host.specs.declared.process.Process.{Process}
use Rattle.numa_host.specs.Groups.{effective_mems, is_group}
use Rattle.numa_host.specs.Processes.{commands_of, weights_of}
use Rattle.numa_host.specs.Following.{AreFollowed, HasMore}
use Rattle.numa_host.specs.Standing.{HostState, HostStandsFor, IsHostSound}
use Rattle.numa_host.specs.Standing.{IsSpaceOf}
use Rattle.numa_host.proofs.Grouped.{members-followed}

module _ (old : HostState) (node weight : ℕ) (blank : SpaceState) (news : List Process)
    (machine : blank.machine ≡ old.blank.machine) (bounds : blank.bounds ≡ old.blank.bounds)
  where
    abbrev pub weighed : Process → Process → Type 0
    weighed p q = HasMore (λ history. own.SetWeight node weight ∷ history) p.space.allowed p q

    abbrev pub next : HostState
    next = record {
      blank = blank;
      version = old.version + 1;
      groups = old.groups;
      processes =
          news;
    }

    -- the host stands for the history with the weight: the blank space and each process's have it
    pub weight-stands : AreFollowed weighed old.processes news → (history : List HostCommand)
        → HostStandsFor old history
        → StandsFor blank (own.SetWeight node weight ∷ weights_of history)
        → HostStandsFor next (SetWeight node weight ∷ history)
    weight-stands followed history stands told = record {
      version = omega (arith, stands.version);
      groups = stands.groups;
      members = members-followed weighed old.processes news (λ p q more. (more.id, more.group))
          followed ∙ stands.members;
      blank = told;
      spaces = λ k d inside.
          let within : k < length old.processes = omega (arith, inside, followed.count) in
          let p : Process = get_or old.processes k d in
          let q : Process = get_or news k d in
          let more : weighed p q = followed.each k d within in
          let held : IsSpaceOf old.blank.machine old.blank.bounds
          (commands_of old.blank.machine history p.id) p.space = stands.spaces k d within in
          let same : own.SetWeight node weight ∷ commands_of old.blank.machine history p.id
          ≡ commands_of blank.machine (SetWeight node weight ∷ history) q.id =
          λ i. own.SetWeight node weight ∷ commands_of (sym machine i) history (sym more.id i) in
          record {
            machine = more.machine ∙ held.machine ∙ sym machine;
            bounds = more.bounds ∙ held.bounds ∙ sym bounds;
            stands = subst (λ cs. StandsFor q.space cs) same
                (more.stands (commands_of old.blank.machine history p.id) held.stands);
          };
    }

    -- and what holds of every host holds of it
    pub weight-sound : AreFollowed weighed old.processes news → IsHostSound old
        → blank.allowed ≡ old.blank.allowed → old.version < old.blank.bounds.max_commands
        → IsHostSound next
    weight-sound followed sound allowed room = record {
      each_once = λ i j d low high.
          let here : j < length old.processes = omega (arith, high, followed.count) in
          let first = followed.each i d (omega (arith, low, here)) in
          let second = followed.each j d here in
          λ same. sound.each_once i j d low here (sym first.id ∙ same ∙ second.id);
      memory = allowed ∙ sound.memory ∙ ap (λ (m : Hardware). m.memory) (sym machine);
      allowed = λ k d inside.
          let within : k < length old.processes = omega (arith, inside, followed.count) in
          let more = followed.each k d within in
          more.allowed ∙ sound.allowed k d within
          ∙ (λ i. effective_mems (sym machine i).memory old.groups (sym more.group i));
      grouped = λ k d inside.
          let within : k < length old.processes = omega (arith, inside, followed.count) in
          let more = followed.each k d within in
          ap (λ g. is_group old.groups g) more.group ∙ sound.grouped k d within;
      version_limit = omega (arith, room, ap (λ (b : Bounds). b.max_commands) bounds);
    }

-- a weight that one space took, each takes that has the machine and room
pub weight-free : (old space : SpaceState) (node weight : ℕ) → space.machine ≡ old.machine
    → space.version < space.bounds.max_commands
    → refusal_in (scene_in old (own.SetWeight node weight)) (own.SetWeight node weight) ≡ None
    → refusal_in (scene_in space (own.SetWeight node weight)) (own.SetWeight node weight) ≡ None
weight-free old space node weight machine room none =
    let P : Hardware → Type 0 = λ m. first_of (when (nat_le m.nodes node) cause.NoSuchNode)
    (when (is_bad_weight m.rules weight) cause.BadWeight) ≡ None in
    let rest : P old.machine =
    (first_of-none (when (nat_le old.bounds.max_commands old.version) cause.CommandsSpent) _
    none).1 in
    rw (lt-leb space.bounds.max_commands space.version room) (subst P (sym machine) rest)

pub weights-free : (host : HostState) (history : List HostCommand) (node weight : ℕ)
    → HostStandsFor host history → host.version < host.blank.bounds.max_commands
    → refusal_in (scene_in host.blank (own.SetWeight node weight)) (own.SetWeight node weight)
    ≡ None → All (λ (p : Process). refusal_in (scene_in p.space (own.SetWeight node weight))
    (own.SetWeight node weight) ≡ None) host.processes
weights-free host history node weight stands room none = λ k d inside.
    let p : Process = get_or host.processes k d in
    let held : IsSpaceOf host.blank.machine host.blank.bounds
    (commands_of host.blank.machine history p.id) p.space = stands.spaces k d inside in
    weight-free host.blank p.space node weight held.machine
    (omega (
      arith,
      held.stands.version,
      commands-few host.blank.machine history p.id,
      stands.version,
      room,
      ap (λ (b : Bounds). b.max_commands) held.bounds,
    )) none

-- nothing stands against it where nothing does in the space with which processes begin
pub weight-none : (host : HostState) (history : List HostCommand) (node weight : ℕ)
    → HostStandsFor host history → host.version < host.blank.bounds.max_commands
    → refusal_of host.blank.machine host.blank.bounds (weights_of history)
    (own.SetWeight node weight) ≡ None
    → host_refusal_of host.blank.machine host.blank.bounds history (SetWeight node weight) ≡ None
weight-none host history node weight stands room none =
    let few : leb host.blank.bounds.max_commands (length history) ≡ false =
    lt-leb host.blank.bounds.max_commands (length history)
    (omega (arith, room, stands.version)) in
    rw (few, none) refl

pub blank-took : (old new : SpaceState) (history : List Command) (command : Command)
    (result : Result (Unit {0}) Refusal) → IsApplied old command result new → result ≡ Ok tt
    → StandsFor old history → (refusal_of old.machine old.bounds history command ≡ None)
    × StandsFor new (command ∷ history)
blank-took old new history command result applied is stands =
    subst (λ (r : Result (Unit {0}) Refusal). OnOk r
    ((refusal_of old.machine old.bounds history command ≡ None)
    × StandsFor new (command ∷ history))) is (applied.ok history stands)

pub blank-kept : (old new : SpaceState) (command : Command) (result : Result (Unit {0}) Refusal)
    (refusal : Refusal) → IsApplied old command result new → result ≡ Err refusal → new ≡ old
blank-kept old new command result refusal applied is =
    subst (λ (r : Result (Unit {0}) Refusal). OnErr r (new ≡ old)) is applied.unchanged
