-- A process more, over the whole host: an empty one.
use Rattle.std.proofs.Common.{◌≡◌, ◌≢◌, ◌<◌, ℕ, ◌+◌, true, false, List, [], ◌∷◌}
use Rattle.std.proofs.Common.{◌++◌, length, get_or, All, None, leb, refl, sym}
use Rattle.std.proofs.Common.{ap, ◌∙◌, subst, arith}
use Rattle.std.proofs.lemmas.Bool.{eq-eqb, ne_eqb, lt-leb}
use Rattle.std.proofs.lemmas.List.{map-append}
use Rattle.std.proofs.lemmas.List.Elements.{All-push}
use Rattle.std.proofs.lemmas.List.Quantifiers.{all_pairs_push}
use Rattle.std.specs.List.{list_any}
use Rattle.numa_space.specs.Standing.{StandsFor}
use Rattle.numa_requests.specs.declared.command.Command.{Command}
use Rattle.numa_requests.specs.declared.host_command.HostCommand.{HostCommand}
use Rattle.numa_requests.specs.declared.host_command.HostCommand.TheVariants.{NewProcess}
use Rattle.numa_host.specs.declared.process.Process.{Process}
use Rattle.numa_host.specs.Causes.{host_refusal_of}
use Rattle.numa_host.specs.Following.{IsBorn}
use Rattle.numa_host.specs.Groups.{effective_mems, groups_of, is_group}
use Rattle.numa_host.specs.Processes.{Member, commands_of, is_there, members_of, weights_of}
use Rattle.numa_host.specs.Processes.{when_moved}
use Rattle.numa_host.specs.Standing.{HostState, HostStandsFor, IsHostSound, IsSpaceOf, member_of}
use Rattle.numa_host.proofs.Found.{has_id}
use Rattle.numa_host.proofs.Lengths.{weights-few}
use Rattle.numa_host.proofs.Members.{absent-others, there-known}
use Rattle.numa_host.proofs.Steps.{IsHostStep, group-known, members-count, not-spent}

-- what a command says that adds one process, and changes no other
pub record Adds (host : HostState) (command : HostCommand) (p : Process) : Type 0 where
  pub none : (history : List HostCommand) → HostStandsFor host history
      → host_refusal_of host.blank.machine host.blank.bounds history command ≡ None
  pub groups : (history : List HostCommand) → groups_of (command ∷ history) ≡ groups_of history
  pub weights : (history : List HostCommand)
      → weights_of (command ∷ history) ≡ weights_of history
  pub members : (history : List HostCommand) → HostStandsFor host history
      → members_of (command ∷ history) ≡ members_of history ++ member_of p ∷ []
  pub others : (history : List HostCommand) (id : ℕ) → id ≢ p.id
      → commands_of host.blank.machine (command ∷ history) id ≡ commands_of host.blank.machine
      history id
  pub own : (history : List HostCommand) → HostStandsFor host history
      → IsSpaceOf host.blank.machine host.blank.bounds
      (commands_of host.blank.machine (command ∷ history) p.id) p.space
  pub absent : list_any (has_id p.id) host.processes ≡ false
  pub allowed : p.space.allowed ≡ effective_mems host.blank.machine.memory host.groups p.group
  pub grouped : is_group host.groups p.group ≡ true

module _ (host : HostState) (command : HostCommand) (p : Process) where
  abbrev pub next : HostState
  next = record {
    blank = host.blank;
    version = host.version + 1;
    groups =
        host.groups;
    processes = host.processes ++ p ∷ [];
  }

  module _ (adds : Adds host command p) where
    added-stands : (history : List HostCommand) → HostStandsFor host history
        → HostStandsFor next (command ∷ history)
    added-stands history stands =
        let P : Process → Type 0 = λ q. IsSpaceOf host.blank.machine host.blank.bounds
        (commands_of host.blank.machine (command ∷ history) q.id) q.space in
        let others : All P host.processes = λ k d inside.
        let q : Process = get_or host.processes k d in
        subst (λ cs. IsSpaceOf host.blank.machine host.blank.bounds cs q.space)
        (sym (adds.others history q.id
        (absent-others host.processes p.id adds.absent k d inside)))
        (stands.spaces k d inside) in
        record {
          version = omega (arith, stands.version);
          groups = stands.groups ∙ sym (adds.groups history);
          members = map-append member_of host.processes (p ∷ [])
              ∙ ap (λ (ms : List Member). ms ++ member_of p ∷ []) stands.members
              ∙ sym (adds.members history stands);
          blank = subst (λ cs. StandsFor host.blank cs) (sym (adds.weights history))
              stands.blank;
          spaces = All-push P host.processes p others (adds.own history stands);
        }

    added-sound : IsHostSound host → host.version < host.blank.bounds.max_commands
        → IsHostSound next
    added-sound sound room = record {
      each_once = all_pairs_push (λ (a b : Process). a.id ≢ b.id) host.processes p
          sound.each_once (absent-others host.processes p.id adds.absent);
      memory = sound.memory;
      allowed = All-push (λ (q : Process). q.space.allowed
          ≡ effective_mems host.blank.machine.memory host.groups q.group) host.processes p
          sound.allowed adds.allowed;
      grouped = All-push (λ (q : Process). is_group host.groups q.group ≡ true) host.processes p
          sound.grouped adds.grouped;
      version_limit = omega (arith, room);
    }

    pub added-step : IsHostSound host → host.version < host.blank.bounds.max_commands
        → IsHostStep host command next
    added-step sound room =
        record {
          machine = refl;
          bounds = refl;
          none = adds.none;
          stands = added-stands;
          sound =
              added-sound sound room;
        }

-- ---- an empty process

-- the space with which a process begins has room for one command more
pub blank-room : (host : HostState) (history : List HostCommand) → HostStandsFor host history
    → host.version < host.blank.bounds.max_commands
    → host.blank.version < host.blank.bounds.max_commands
blank-room host history stands room =
    omega (arith, room, stands.version, stands.blank.version, weights-few history)

pub new_process-none : (host : HostState) (process group : ℕ)
    → host.version < host.blank.bounds.max_commands
    → list_any (has_id process) host.processes ≡ false → is_group host.groups group ≡ true
    → length host.processes < 4096
    → (history : List HostCommand) → HostStandsFor host history
    → host_refusal_of host.blank.machine host.blank.bounds history (NewProcess process group)
    ≡ None
new_process-none host process group room absent there few history stands =
    let spent : leb host.blank.bounds.max_commands (length history) ≡ false =
    not-spent host history stands room in
    let new : is_there (members_of history) process ≡ false =
    there-known host history process stands ∙ absent in
    let known : is_group (groups_of history) group ≡ true = group-known host history stands group
    ∙ there in
    let place : leb 4096 (length (members_of history)) ≡ false =
    lt-leb 4096 (length (members_of history))
    (omega (arith, members-count host history stands, few)) in
    rw (spent, new, known, place) refl

pub new_process-adds : (host : HostState) (process group : ℕ) (p : Process) → IsHostSound host
    → host.version < host.blank.bounds.max_commands
    → list_any (has_id process) host.processes ≡ false → is_group host.groups group ≡ true
    → length host.processes < 4096
    → IsBorn host.blank process group
    (effective_mems host.blank.machine.memory host.groups group) p
    → Adds host (NewProcess process group) p
new_process-adds host process group p sound room absent there few born = record {
  none = new_process-none host process group room absent there few;
  groups = λ history. refl;
  weights = λ history. refl;
  members = λ history stands. λ i. members_of history ++ (sym born.id i, sym born.group i) ∷ [];
  others = λ history id other. rw (ne_eqb process id (λ same. other (sym same ∙ sym born.id)))
      refl;
  own = λ history stands.
      let nodes : ℕ = effective_mems host.blank.machine.memory host.groups group in
      let told : StandsFor p.space (when_moved host.blank.allowed nodes (weights_of history)) =
      born.space.stands (weights_of history) stands.blank in
      let first : when_moved host.blank.allowed nodes (weights_of history)
      ≡ when_moved host.blank.machine.memory
      (effective_mems host.blank.machine.memory (groups_of history) group) (weights_of history) =
      λ i. when_moved (sound.memory i)
      (effective_mems host.blank.machine.memory (stands.groups i) group) (weights_of history) in
      let own : commands_of host.blank.machine (NewProcess process group ∷ history) p.id
      ≡ when_moved host.blank.machine.memory
      (effective_mems host.blank.machine.memory (groups_of history) group) (weights_of history) =
      rw (eq-eqb process p.id (sym born.id)) refl in
      record {
        machine = born.space.machine;
        bounds = born.space.bounds;
        stands =
            subst (λ (cs : List Command). StandsFor p.space cs) (first ∙ sym own) told;
      };
  absent = ap (λ n. list_any (has_id n) host.processes) born.id ∙ absent;
  allowed = born.space.allowed
      ∙ ap (λ g. effective_mems host.blank.machine.memory host.groups g) (sym born.group);
  grouped = ap (λ g. is_group host.groups g) born.group ∙ there;
}
