-- A process that moves to another group, over the whole host.
use Rattle.std.proofs.Common.{◌≡◌, ◌≢◌, ◌≤◌, ◌<◌, ℕ, ◌+◌, true, false, List, ◌∷◌, length}
use Rattle.std.proofs.Common.{map, get_or, AllPairs, None, eqb, leb, refl, sym, ap, ◌∙◌}
use Rattle.std.proofs.Common.{subst, arith, inl, inr}
use Rattle.std.proofs.lemmas.Bool.{both_ways, cases_Bool, cases_lt, eq-eqb, eqb-true, ne_eqb}
use Rattle.std.proofs.lemmas.Simd.{map-map}
use Rattle.numa_space.specs.Standing.{StandsFor}
use Rattle.numa_requests.specs.declared.command.Command.{Command}
use Rattle.numa_requests.specs.declared.host_command.HostCommand.{HostCommand}
use Rattle.numa_requests.specs.declared.host_command.HostCommand.TheVariants.{Attach}
use Rattle.numa_host.specs.declared.process.Process.{Process}
use Rattle.numa_host.specs.Causes.{host_refusal_of}
use Rattle.numa_host.specs.Following.{HasMoved, IsMoved}
use Rattle.numa_host.specs.Groups.{effective_mems, groups_of, is_group}
use Rattle.numa_host.specs.Processes.{Member, commands_of, is_there, members_of, moved_member}
use Rattle.numa_host.specs.Processes.{nodes_of, when_moved}
use Rattle.numa_host.specs.Standing.{HostState, HostStandsFor, IsHostSound, IsSpaceOf, member_of}
use Rattle.numa_host.proofs.Grouped.{nodes-held}
use Rattle.numa_host.proofs.Members.{map-places, moved-nowhere, nodes-at}
use Rattle.numa_host.proofs.Steps.{IsHostStep, group-known, not-spent}
use Rattle.numa_host.proofs.Told.{IsPlaceOf, there}

module _ (host : HostState) (process place group : ℕ) (news : List Process) where
  abbrev pub nodes : ℕ
  nodes = effective_mems host.blank.machine.memory host.groups group

  abbrev pub next : HostState
  next = record {
    blank = host.blank;
    version = host.version + 1;
    groups =
        host.groups;
    processes = news;
  }

  module _ (sound : IsHostSound host) (at : IsPlaceOf host.processes process place)
      (moved : IsMoved place group nodes host.processes news) where
    far-from : (k : ℕ) → eqb k place ≡ false → k ≢ place
    far-from k e = λ is. both_ways (eqb k place) e (eq-eqb k place is)

    above : (k : ℕ) → place ≤ k → k ≢ place → place < k
    above k high far = omega (arith, high, far)

    apart : (k : ℕ) (d : Process) → k < length host.processes → k ≢ place
        → (get_or host.processes k d).id ≢ process
    apart k d inside far = λ same.
        elim (cases_lt k place) [
          | inl low ↦ sound.each_once k place d low at.inside (same ∙ sym (at.is d))
          | inr high ↦ sound.each_once place k d (above k high far) inside (at.is d ∙ sym same)
        ]

    same-id : (k : ℕ) (d : Process) → (get_or news k d).id ≡ (get_or host.processes k d).id
    same-id k d =
        elim (cases_Bool (eqb k place)) [
          | inl e ↦ subst (λ n. (get_or news n d).id ≡ (get_or host.processes n d).id)
              (sym (eqb-true k place e)) (moved.moved d).id
          | inr e ↦ ap (λ (p : Process). p.id) (moved.others k d (far-from k e))
        ]

    once : AllPairs (λ (a b : Process). a.id ≢ b.id) news
    once = λ i j d low high same. sound.each_once i j d low (omega (arith, high, moved.count))
        (sym (same-id i d) ∙ same ∙ same-id j d)

    moved-members : map member_of news
        ≡ map (λ (p : Process). moved_member process group (member_of p)) host.processes
    moved-members = map-places member_of
        (λ (p : Process). moved_member process group (member_of p)) host.processes news
        moved.count (λ k d inside.
        elim (cases_Bool (eqb k place)) [
          | inl e ↦
              let here : member_of (get_or news place d) ≡ moved_member process group
              (member_of (get_or host.processes place d)) =
              rw (eq-eqb (get_or host.processes place d).id process (at.is d))
              (λ i. (((moved.moved d).id ∙ at.is d) i, (moved.moved d).group i)) in
              subst (λ n. member_of (get_or news n d) ≡ moved_member process group
              (member_of (get_or host.processes n d))) (sym (eqb-true k place e)) here
          | inr e ↦
              rw (ne_eqb (get_or host.processes k d).id process
              (apart k d inside (far-from k e)))
              (ap (λ (p : Process). member_of p) (moved.others k d (far-from k e)))
        ])

    attach-members : (history : List HostCommand) → HostStandsFor host history
        → map member_of news ≡ members_of (Attach process group ∷ history)
    attach-members history stands = moved-members
        ∙ sym (map-map (moved_member process group) member_of host.processes)
        ∙ ap (λ (ms : List Member). map (moved_member process group) ms) stands.members

    -- what each process has accepted, and the nodes that it is allowed
    module _ (history : List HostCommand) (stands : HostStandsFor host history) where
      abbrev asked : HostCommand
      asked = Attach process group

      was : (k : ℕ) (d : Process) → k < length host.processes
          → nodes_of host.blank.machine history (get_or news k d).id
          ≡ (get_or host.processes k d).space.allowed
      was k d inside = ap (λ n. nodes_of host.blank.machine history n) (same-id k d)
          ∙ nodes-held host history k d stands sound inside

      is : (k : ℕ) (d : Process) → k < length host.processes
          → nodes_of host.blank.machine (asked ∷ history) (get_or news k d).id
          ≡ effective_mems host.blank.machine.memory host.groups (get_or news k d).group
      is k d inside = nodes-at host.blank.machine (asked ∷ history) host.groups news k d
          stands.groups (attach-members history stands) once (omega (arith, inside, moved.count))

      moved-one : (d : Process)
          → IsSpaceOf host.blank.machine host.blank.bounds
          (commands_of host.blank.machine (asked ∷ history) (get_or news place d).id)
          (get_or news place d).space
      moved-one d =
          let p : Process = get_or host.processes place d in
          let q : Process = get_or news place d in
          let one : HasMoved group nodes p q = moved.moved d in
          let held : IsSpaceOf host.blank.machine host.blank.bounds
          (commands_of host.blank.machine history p.id) p.space =
          stands.spaces place d at.inside in
          let told : StandsFor q.space
          (when_moved p.space.allowed nodes (commands_of host.blank.machine history p.id)) =
          one.space.stands (commands_of host.blank.machine history p.id) held.stands in
          let allowed : nodes ≡ nodes_of host.blank.machine (asked ∷ history) q.id =
          sym (is place d at.inside
          ∙ ap (λ g. effective_mems host.blank.machine.memory host.groups g) one.group) in
          let whole : when_moved p.space.allowed nodes
          (commands_of host.blank.machine history p.id) ≡ commands_of host.blank.machine
          (asked ∷ history) q.id =
          λ i. when_moved (sym (was place d at.inside) i) (allowed i)
          (commands_of host.blank.machine history (sym one.id i)) in
          record {
            machine = one.space.machine ∙ held.machine;
            bounds = one.space.bounds ∙ held.bounds;
            stands = subst (λ (cs : List Command). StandsFor q.space cs) whole told;
          }

      other-one : (k : ℕ) (d : Process) → k < length host.processes → k ≢ place
          → IsSpaceOf host.blank.machine host.blank.bounds
          (commands_of host.blank.machine (asked ∷ history) (get_or news k d).id)
          (get_or news k d).space
      other-one k d inside far =
          let q : Process = get_or news k d in
          let same : q ≡ get_or host.processes k d = moved.others k d far in
          let held : IsSpaceOf host.blank.machine host.blank.bounds
          (commands_of host.blank.machine history q.id) q.space =
          subst (λ (p : Process). IsSpaceOf host.blank.machine host.blank.bounds
          (commands_of host.blank.machine history p.id) p.space) (sym same)
          (stands.spaces k d inside) in
          let nowhere : nodes_of host.blank.machine history q.id ≡ nodes_of host.blank.machine
          (asked ∷ history) q.id =
          was k d inside ∙ sound.allowed k d inside
          ∙ ap (λ (p : Process). effective_mems host.blank.machine.memory host.groups p.group)
          (sym same) ∙ sym (is k d inside) in
          let whole : commands_of host.blank.machine (asked ∷ history) q.id
          ≡ commands_of host.blank.machine history q.id =
          moved-nowhere (nodes_of host.blank.machine history q.id)
          (nodes_of host.blank.machine (asked ∷ history) q.id)
          (commands_of host.blank.machine history q.id) nowhere in
          subst (λ (cs : List Command). IsSpaceOf host.blank.machine host.blank.bounds cs
          q.space) (sym whole) held

      attach-stands : HostStandsFor next (asked ∷ history)
      attach-stands = record {
        version = omega (arith, stands.version);
        groups = stands.groups;
        members = attach-members history stands;
        blank = stands.blank;
        spaces = λ k d inside.
            let P : ℕ → Type 0 = λ n. IsSpaceOf host.blank.machine host.blank.bounds
            (commands_of host.blank.machine (asked ∷ history) (get_or news n d).id)
            (get_or news n d).space in
            elim (cases_Bool (eqb k place)) [
              | inl e ↦ subst P (sym (eqb-true k place e)) (moved-one d)
              | inr e ↦ other-one k d (omega (arith, inside, moved.count)) (far-from k e)
            ];
      }

    attach-sound : host.version < host.blank.bounds.max_commands
        → is_group host.groups group ≡ true → IsHostSound next
    attach-sound room known = record {
      each_once = once;
      memory = sound.memory;
      allowed = λ k d inside.
          let P : ℕ → Type 0 = λ n. (get_or news n d).space.allowed
          ≡ effective_mems host.blank.machine.memory host.groups (get_or news n d).group in
          elim (cases_Bool (eqb k place)) [
            | inl e ↦ subst P (sym (eqb-true k place e)) ((moved.moved d).space.allowed
                ∙ ap (λ g. effective_mems host.blank.machine.memory host.groups g)
                (sym (moved.moved d).group))
            | inr e ↦
                subst (λ (p : Process). p.space.allowed
                ≡ effective_mems host.blank.machine.memory host.groups p.group)
                (sym (moved.others k d (far-from k e)))
                (sound.allowed k d (omega (arith, inside, moved.count)))
          ];
      grouped = λ k d inside.
          elim (cases_Bool (eqb k place)) [
            | inl e ↦ subst (λ n. is_group host.groups (get_or news n d).group ≡ true)
                (sym (eqb-true k place e))
                (ap (λ g. is_group host.groups g) (moved.moved d).group ∙ known)
            | inr e ↦ subst (λ (p : Process). is_group host.groups p.group ≡ true)
                (sym (moved.others k d (far-from k e)))
                (sound.grouped k d (omega (arith, inside, moved.count)))
          ];
      version_limit = omega (arith, room);
    }

    attach-none : host.version < host.blank.bounds.max_commands
        → is_group host.groups group ≡ true → (history : List HostCommand)
        → HostStandsFor host history
        → host_refusal_of host.blank.machine host.blank.bounds history (Attach process group)
        ≡ None
    attach-none room known history stands =
        let spent : leb host.blank.bounds.max_commands (length history) ≡ false =
        not-spent host history stands room in
        let here : is_there (members_of history) process ≡ true =
        there host history process place stands sound at in
        let group_there : is_group (groups_of history) group ≡ true =
        group-known host history stands group ∙ known in
        rw (spent, here, group_there) refl

    pub attach-step : host.version < host.blank.bounds.max_commands
        → is_group host.groups group ≡ true → IsHostStep host (Attach process group) next
    attach-step room known =
        record {
          machine = refl;
          bounds = refl;
          none = attach-none room known;
          stands =
              attach-stands;
          sound = attach-sound room known;
        }
