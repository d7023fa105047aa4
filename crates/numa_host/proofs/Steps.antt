-- What comes of a command, once it is known what the host becomes.
use Rattle.std.proofs.Common.{◌≡◌, ◌<◌, ℕ, false, List, ◌∷◌, length, Some}
use Rattle.std.proofs.Common.{None, Ok, Err, leb, refl, sym, ap, ◌∙◌, subst, arith}
use Rattle.std.proofs.lemmas.Bool.{lt-leb}
use Rattle.std.proofs.lemmas.List.{length-map}
use Rattle.numa_machine.specs.Machine.{Hardware}
use Rattle.numa_space.specs.Limited.{Bounds}
use Rattle.numa_requests.specs.declared.host_command.HostCommand.{HostCommand}
use Rattle.numa_host.specs.declared.group.ControlGroup.{ControlGroup}
use Rattle.numa_requests.specs.declared.host_refusal.HostRefusal.{HostRefusal}
use Rattle.numa_requests.specs.declared.host_refusal.HostRefusal.TheVariants.{NoMemory}
use Rattle.numa_host.specs.Causes.{host_refusal_of}
use Rattle.numa_host.specs.Groups.{groups_of, is_group}
use Rattle.numa_host.specs.Inside.{IsKept, shown_of}
use Rattle.numa_host.specs.Processes.{Member, members_of}
use Rattle.numa_host.specs.declared.host.Host.TheInside.{Inside}
use Rattle.numa_host.specs.Standing.{HostState, HostStandsFor, HasHostHistory, HostMayNeedRoom}
use Rattle.numa_host.specs.Standing.{IsHostAccepted, IsHostApplied, IsHostSound, member_of}

-- the host after a command against which no cause stands
pub record IsHostStep (old : HostState) (command : HostCommand) (new : HostState) : Type 0 where
  pub machine : new.blank.machine ≡ old.blank.machine
  pub bounds : new.blank.bounds ≡ old.blank.bounds
  pub none : (history : List HostCommand) → HostStandsFor old history
      → host_refusal_of old.blank.machine old.blank.bounds history command ≡ None
  pub stands : (history : List HostCommand) → HostStandsFor old history
      → HostStandsFor new (command ∷ history)
  pub sound : IsHostSound new

pub step-applied : (old new : HostState) (command : HostCommand) → IsHostStep old command new
    → IsHostApplied old command (Ok tt) new
step-applied old new command step = record {
  ok = λ history stands. (step.none history stands, step.stands history stands);
  err = λ history stands. tt;
  unchanged = tt;
  room = tt;
  machine = step.machine;
  bounds = step.bounds;
}

pub step-history : (old new : HostState) (command : HostCommand) → IsHostStep old command new
    → HasHostHistory old → HasHostHistory new
step-history old new command step had =
    let all : List HostCommand = command ∷ had.history in
    record {
      history = all;
      accepted = subst (λ (m : Hardware). IsHostAccepted m new.blank.bounds all)
          (sym step.machine) (subst (λ (b : Bounds). IsHostAccepted old.blank.machine b all)
          (sym step.bounds) (step.none had.history had.stands, had.accepted));
      stands = step.stands had.history had.stands;
    }

-- a host that is kept as the one after the step
pub step-kept : (old : HostState) (inside : Inside) (command : HostCommand) (new : HostState)
    → IsHostStep old command new → HasHostHistory old → new ≡ shown_of inside
    → inside.limits ≡ old.blank.bounds → IsKept inside
step-kept old inside command new step had is limits = record {
  sound = subst IsHostSound is step.sound;
  history = subst HasHostHistory is (step-history old new command step had);
  limits = limits ∙ sym step.bounds ∙ ap (λ (h : HostState). h.blank.bounds) is;
}

pub step-shown : (old shown now new : HostState) (command : HostCommand)
    → IsHostStep old command new → old ≡ now → new ≡ shown
    → IsHostApplied now command (Ok tt) shown
step-shown old shown now new command step was is =
    subst (λ (h : HostState). IsHostApplied h command (Ok tt) shown) was
    (subst (λ (n : HostState). IsHostApplied old command (Ok tt) n) is
    (step-applied old new command step))

-- a refusal that is the first cause, and changes nothing
pub refused : (host : HostState) (command : HostCommand) (refusal : HostRefusal)
    → (refusal ≡ NoMemory → ⊥)
    → ((history : List HostCommand) → HostStandsFor host history
    → host_refusal_of host.blank.machine host.blank.bounds history command ≡ Some refusal)
    → IsHostApplied host command (Err refusal) host
refused host command refusal other cause = record {
  ok = λ history stands. tt;
  err = λ history stands. rw (cause history stands) refl;
  unchanged = refl;
  room = λ same. absurd (other same);
  machine = refl;
  bounds = refl;
}

-- want of memory, where no cause stands against the command
pub lacked : (host : HostState) (command : HostCommand) → HostMayNeedRoom command
    → ((history : List HostCommand) → HostStandsFor host history
    → host_refusal_of host.blank.machine host.blank.bounds history command ≡ None)
    → IsHostApplied host command (Err NoMemory) host
lacked host command may none = record {
  ok = λ history stands. tt;
  err = λ history stands. rw (none history stands) refl;
  unchanged = refl;
  room = λ same. may;
  machine = refl;
  bounds = refl;
}

module _ (host : HostState) (history : List HostCommand) (stands : HostStandsFor host history)
  where
    -- fewer commands than the limit were accepted
    pub not-spent : host.version < host.blank.bounds.max_commands
        → leb host.blank.bounds.max_commands (length history) ≡ false
    not-spent room = lt-leb host.blank.bounds.max_commands (length history)
        (omega (arith, room, stands.version))

    pub group-known : (name : ℕ) → is_group (groups_of history) name ≡ is_group host.groups name
    group-known name = ap (λ (gs : List ControlGroup). is_group gs name) (sym stands.groups)

    pub groups-count : length (groups_of history) ≡ length host.groups
    groups-count = ap (λ (gs : List ControlGroup). length gs) (sym stands.groups)

    pub members-count : length (members_of history) ≡ length host.processes
    members-count = ap (λ (ms : List Member). length ms) (sym stands.members)
        ∙ length-map host.processes member_of
