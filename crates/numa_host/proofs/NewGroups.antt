-- A new group, over the whole host.
use Rattle.std.proofs.Common.{◌≡◌, ◌<◌, ℕ, ◌+◌, Bool, true, false, List, ◌∷◌, length}
use Rattle.std.proofs.Common.{get_or, None, eqb, leb, refl, sym, ap, ◌∙◌}
use Rattle.std.proofs.Common.{subst, arith, ◌||◌}
use Rattle.std.proofs.lemmas.Bool.{both_ways, ne_eqb, lt-leb}
use Rattle.numa_requests.specs.declared.host_command.HostCommand.{HostCommand}
use Rattle.numa_requests.specs.declared.host_command.HostCommand.TheVariants.{NewGroup}
use Rattle.numa_host.specs.declared.group.ControlGroup.{ControlGroup}
use Rattle.numa_host.specs.declared.process.Process.{Process}
use Rattle.numa_host.specs.Causes.{host_refusal_of}
use Rattle.numa_host.specs.Groups.{effective_mems, groups_of, is_group}
use Rattle.numa_host.specs.Processes.{commands_of, nodes_of}
use Rattle.numa_host.specs.Standing.{HostState, HostStandsFor, IsHostSound, IsSpaceOf}
use Rattle.numa_host.proofs.Grouped.{nodes-held}
use Rattle.numa_host.proofs.Members.{nodes-at, moved-nowhere}
use Rattle.numa_host.proofs.Steps.{IsHostStep, not-spent, group-known, groups-count}

-- a group that is there isn't the new one
other-name : (groups : List ControlGroup) (name known : ℕ) → is_group groups name ≡ false
    → is_group groups known ≡ true → eqb name known ≡ false
other-name groups name known absent there =
    ne_eqb name known (λ same. both_ways (is_group groups name) absent
    (ap (λ n. is_group groups n) same ∙ there))

with-more : (a b c : Bool) → (a || c) ≡ true → (a || (b || c)) ≡ true
with-more true b c h = refl
with-more false true c h = refl
with-more false false c h = h

pub new_group-none : (host : HostState) (name parent : ℕ)
    → host.version < host.blank.bounds.max_commands → is_group host.groups name ≡ false
    → is_group host.groups parent ≡ true → length host.groups < 1024
    → (history : List HostCommand) → HostStandsFor host history
    → host_refusal_of host.blank.machine host.blank.bounds history (NewGroup name parent) ≡ None
new_group-none host name parent room absent there few history stands =
    let spent : leb host.blank.bounds.max_commands (length history) ≡ false =
    not-spent host history stands room in
    let new : is_group (groups_of history) name ≡ false = group-known host history stands name
    ∙ absent in
    let known : is_group (groups_of history) parent ≡ true =
    group-known host history stands parent ∙ there in
    let place : leb 1024 (length (groups_of history)) ≡ false =
    lt-leb 1024 (length (groups_of history))
    (omega (arith, groups-count host history stands, few)) in
    rw (spent, new, known, place) refl

module _ (host : HostState) (name parent : ℕ) where
  abbrev pub next : HostState
  next = record {
    blank = host.blank;
    version = host.version + 1;
    groups =
        record { name = name; parent = parent; mems = None } ∷ host.groups;
    processes =
        host.processes;
  }

  -- the nodes of a group that was there are the same
  effective-same : (known : ℕ) → is_group host.groups name ≡ false
      → is_group host.groups known ≡ true
      → effective_mems host.blank.machine.memory next.groups known
      ≡ effective_mems host.blank.machine.memory host.groups known
  effective-same known absent there = rw (other-name host.groups name known absent there) refl

  module _ (sound : IsHostSound host) (room : host.version < host.blank.bounds.max_commands)
      (absent : is_group host.groups name ≡ false) where
    new_group-stands : (history : List HostCommand) → HostStandsFor host history
        → HostStandsFor next (NewGroup name parent ∷ history)
    new_group-stands history stands = record {
      version = omega (arith, stands.version);
      groups = λ i. record { name = name; parent = parent; mems = None } ∷ stands.groups i;
      members = stands.members;
      blank = stands.blank;
      spaces = λ k d inside.
          let p : Process = get_or host.processes k d in
          let held : IsSpaceOf host.blank.machine host.blank.bounds
          (commands_of host.blank.machine history p.id) p.space = stands.spaces k d inside in
          let was : nodes_of host.blank.machine history p.id ≡ p.space.allowed =
          nodes-held host history k d stands sound inside in
          let is : nodes_of host.blank.machine (NewGroup name parent ∷ history) p.id
          ≡ effective_mems host.blank.machine.memory next.groups p.group =
          nodes-at host.blank.machine (NewGroup name parent ∷ history) next.groups host.processes
          k d (λ i. record { name = name; parent = parent; mems = None } ∷ stands.groups i)
          stands.members sound.each_once inside in
          let same : nodes_of host.blank.machine history p.id ≡ nodes_of host.blank.machine
          (NewGroup name parent ∷ history) p.id =
          was ∙ sound.allowed k d inside
          ∙ sym (effective-same p.group absent (sound.grouped k d inside)) ∙ sym is in
          let whole : commands_of host.blank.machine (NewGroup name parent ∷ history) p.id
          ≡ commands_of host.blank.machine history p.id =
          moved-nowhere (nodes_of host.blank.machine history p.id)
          (nodes_of host.blank.machine (NewGroup name parent ∷ history) p.id)
          (commands_of host.blank.machine history p.id) same in
          subst (λ cs. IsSpaceOf host.blank.machine host.blank.bounds cs p.space) (sym whole)
          held;
    }

    new_group-sound : IsHostSound next
    new_group-sound = record {
      each_once = sound.each_once;
      memory = sound.memory;
      allowed = λ k d inside. sound.allowed k d inside
          ∙ sym (effective-same (get_or host.processes k d).group absent
          (sound.grouped k d inside));
      grouped = λ k d inside. with-more (eqb (get_or host.processes k d).group 0) _ _
          (sound.grouped k d inside);
      version_limit = omega (arith, room);
    }

    pub new_group-step : is_group host.groups parent ≡ true → length host.groups < 1024
        → IsHostStep host (NewGroup name parent) next
    new_group-step there few = record {
      machine = refl;
      bounds = refl;
      none = new_group-none host name parent room absent there few;
      stands = new_group-stands;
      sound = new_group-sound;
    }
