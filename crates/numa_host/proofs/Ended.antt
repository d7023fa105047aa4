-- The end of a process, over the whole host.
use Rattle.std.proofs.Common.{◌≡◌, ◌≢◌, ◌<◌, ℕ, ◌+◌, Bool, true, false, not, List, ◌∷◌, filter}
use Rattle.std.proofs.Common.{length, get_or, None, eqb, leb, refl, sym, ap, ◌∙◌}
use Rattle.std.proofs.Common.{subst, arith}
use Rattle.std.proofs.lemmas.Bool.{both_ways, eq-eqb, ne_eqb}
use Rattle.std.proofs.lemmas.List.Elements.{All-filter, filter_passes}
use Rattle.std.proofs.lemmas.List.Kept.{AllPairs-filter}
use Rattle.std.specs.List.{list_any}
use Rattle.numa_requests.specs.declared.host_command.HostCommand.{HostCommand}
use Rattle.numa_requests.specs.declared.host_command.HostCommand.TheVariants.{Exit}
use Rattle.numa_host.specs.declared.process.Process.{Process}
use Rattle.numa_host.specs.Causes.{host_refusal_of}
use Rattle.numa_host.specs.Groups.{effective_mems, is_group}
use Rattle.numa_host.specs.Processes.{Member, commands_of, is_there, members_of}
use Rattle.numa_host.specs.Standing.{HostState, HostStandsFor, IsHostSound, IsSpaceOf, member_of}
use Rattle.numa_host.proofs.Found.{has_id}
use Rattle.numa_host.proofs.Members.{map-filter, there-known}
use Rattle.numa_host.proofs.Steps.{IsHostStep, not-spent}

kept-other : (a process : ℕ) → not (eqb a process) ≡ true → eqb process a ≡ false
kept-other a process passes =
    ne_eqb process a (λ same. both_ways (eqb a process) (stuck (eqb a process) passes)
    (eq-eqb a process (sym same)))
  where
    stuck : (b : Bool) → not b ≡ true → b ≡ false
    stuck true h = cc
    stuck false h = refl

module _ (host : HostState) (process : ℕ) where
  abbrev test : Process → Bool
  test p = not (eqb p.id process)

  abbrev pub next : HostState
  next = record {
    blank = host.blank;
    version = host.version + 1;
    groups =
        host.groups;
    processes = filter test host.processes;
  }

  exit-stands : (history : List HostCommand) → HostStandsFor host history
      → HostStandsFor next (Exit process ∷ history)
  exit-stands history stands = record {
    version = omega (arith, stands.version);
    groups = stands.groups;
    members = map-filter member_of (λ (m : Member). not (eqb m.0 process)) host.processes
        ∙ ap (λ (ms : List Member). filter (λ (m : Member). not (eqb m.0 process)) ms)
        stands.members;
    blank = stands.blank;
    spaces = λ k d inside.
        let P : Process → Type 0 = λ p. IsSpaceOf host.blank.machine host.blank.bounds
        (commands_of host.blank.machine history p.id) p.space in
        let p : Process = get_or (filter test host.processes) k d in
        let held : P p = All-filter test P host.processes stands.spaces k d inside in
        let other : eqb process p.id ≡ false =
        kept-other p.id process (filter_passes test host.processes k d inside) in
        let whole : commands_of host.blank.machine (Exit process ∷ history) p.id
        ≡ commands_of host.blank.machine history p.id = rw other refl in
        subst (λ cs. IsSpaceOf host.blank.machine host.blank.bounds cs p.space) (sym whole) held;
  }

  exit-sound : IsHostSound host → host.version < host.blank.bounds.max_commands
      → IsHostSound next
  exit-sound sound room = record {
    each_once = AllPairs-filter (λ (a b : Process). a.id ≢ b.id) test host.processes
        sound.each_once;
    memory = sound.memory;
    allowed = All-filter test
        (λ (p : Process). p.space.allowed ≡ effective_mems host.blank.machine.memory host.groups
        p.group) host.processes sound.allowed;
    grouped = All-filter test (λ (p : Process). is_group host.groups p.group ≡ true)
        host.processes sound.grouped;
    version_limit = omega (arith, room);
  }

  exit-none : host.version < host.blank.bounds.max_commands
      → list_any (has_id process) host.processes ≡ true → (history : List HostCommand)
      → HostStandsFor host history
      → host_refusal_of host.blank.machine host.blank.bounds history (Exit process) ≡ None
  exit-none room there history stands =
      let spent : leb host.blank.bounds.max_commands (length history) ≡ false =
      not-spent host history stands room in
      let known : is_there (members_of history) process ≡ true =
      there-known host history process stands ∙ there in
      rw (spent, known) refl

  pub exit-step : IsHostSound host → host.version < host.blank.bounds.max_commands
      → list_any (has_id process) host.processes ≡ true → IsHostStep host (Exit process) next
  exit-step sound room there =
      record {
        machine = refl;
        bounds = refl;
        none = exit-none room there;
        stands =
            exit-stands;
        sound = exit-sound sound room;
      }
