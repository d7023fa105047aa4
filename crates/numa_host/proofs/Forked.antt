-- A fork, over the whole host.
use Rattle.std.proofs.Common.{◌≡◌, ◌<◌, ℕ, true, false, List, [], ◌∷◌, ◌++◌}
use Rattle.std.proofs.Common.{length, map, get_or, Option, Some, None, leb, refl, sym, ap}
use Rattle.std.proofs.Common.{◌∙◌, subst, arith}
use Rattle.std.proofs.lemmas.Bool.{eq-eqb, ne_eqb, lt-leb}
use Rattle.std.specs.List.{list_any}
use Rattle.std.specs.Option.{option_map}
use Rattle.std.specs.Prelude.{unwrap_or}
use Rattle.numa_space.specs.Limited.{Bounds}
use Rattle.numa_space.specs.Refusals.{refusal_in, refusal_of, when}
use Rattle.numa_space.specs.Standing.{SpaceState, StandsFor}
use Rattle.numa_space.specs.Steps.{scene_in}
use Rattle.numa_requests.specs.declared.command.Command.{Command}
use Rattle.numa_requests.specs.declared.command.Command.TheVariants.{Inherit}
use Rattle.numa_requests.specs.declared.refusal.Refusal.{Refusal}
use Rattle.numa_requests.specs.declared.refusal.Refusal.TheVariants.{TooManyTasks}
use Rattle.numa_space.proofs.Refused.{refusal-same}
use Rattle.numa_requests.specs.declared.host_command.HostCommand.{HostCommand}
use Rattle.numa_requests.specs.declared.host_command.HostCommand.TheVariants.{Fork}
use Rattle.numa_host.specs.declared.process.Process.{Process}
use Rattle.numa_requests.specs.declared.host_refusal.HostRefusal.TheVariants.{OfSpace}
use Rattle.numa_host.specs.Causes.{host_refusal_of}
use Rattle.numa_host.specs.Following.{IsChildOf, lacks_place}
use Rattle.numa_host.specs.Groups.{effective_mems, is_group}
use Rattle.numa_host.specs.Processes.{Member, commands_of, group_in, is_there, members_of}
use Rattle.numa_host.specs.Standing.{HostState, HostStandsFor, IsHostSound, IsSpaceOf, member_of}
use Rattle.numa_host.proofs.Born.{Adds}
use Rattle.numa_host.proofs.Found.{has_id}
use Rattle.numa_host.proofs.Grouped.{member-group}
use Rattle.numa_host.proofs.Lengths.{commands-few}
use Rattle.numa_host.proofs.Members.{there-known}
use Rattle.numa_host.proofs.Steps.{members-count, not-spent}
use Rattle.numa_host.proofs.Told.{IsPlaceOf, some-process, there}

-- what a space says of an inheritance
space-cause : (space : SpaceState) (from task most : ℕ)
    → space.version < space.bounds.max_commands → most ≡ space.bounds.max_tasks
    → refusal_in (scene_in space (Inherit task from)) (Inherit task from)
    ≡ when (lacks_place space from task most) TooManyTasks
space-cause space from task most room is =
    let spent : leb space.bounds.max_commands space.version ≡ false =
    lt-leb space.bounds.max_commands space.version room in
    rw spent (ap (λ n. when (lacks_place space from task n) TooManyTasks) (sym is))

module _ (host : HostState) (parent child from task place most : ℕ) (sound : IsHostSound host)
    (room : host.version < host.blank.bounds.max_commands)
    (at : IsPlaceOf host.processes parent place) (is_most : most ≡ host.blank.bounds.max_tasks)
  where
    abbrev one : Process
    one = get_or host.processes place (some-process host.processes place at.inside)

    -- what the parent's space says of it
    parent-cause : (history : List HostCommand) → HostStandsFor host history
        → refusal_of host.blank.machine host.blank.bounds
        (commands_of host.blank.machine history parent) (Inherit task from)
        ≡ when (lacks_place one.space from task most) TooManyTasks
    parent-cause history stands =
        let d : Process = some-process host.processes place at.inside in
        let held : IsSpaceOf host.blank.machine host.blank.bounds
        (commands_of host.blank.machine history one.id) one.space =
        stands.spaces place d at.inside in
        let judged : refusal_of one.space.machine one.space.bounds
        (commands_of host.blank.machine history one.id) (Inherit task from)
        ≡ refusal_of host.blank.machine host.blank.bounds
        (commands_of host.blank.machine history parent) (Inherit task from) =
        λ i. refusal_of (held.machine i) (held.bounds i)
        (commands_of host.blank.machine history (at.is d i)) (Inherit task from) in
        let few : one.space.version < one.space.bounds.max_commands =
        omega (
          arith,
          held.stands.version,
          commands-few host.blank.machine history one.id,
          stands.version,
          room,
          ap (λ (b : Bounds). b.max_commands) held.bounds,
        ) in
        sym judged ∙ sym (refusal-same one.space (commands_of host.blank.machine history one.id)
        (Inherit task from) held.stands)
        ∙ space-cause one.space from task most few (is_most
        ∙ sym (ap (λ (b : Bounds). b.max_tasks) held.bounds))

    module _ (absent : list_any (has_id child) host.processes ≡ false)
        (few : length host.processes < 4096) where
      pub fork-none : lacks_place one.space from task most ≡ false → (history : List HostCommand)
          → HostStandsFor host history
          → host_refusal_of host.blank.machine host.blank.bounds history
          (Fork parent child from task) ≡ None
      fork-none free history stands =
          let spent : leb host.blank.bounds.max_commands (length history) ≡ false =
          not-spent host history stands room in
          let new : is_there (members_of history) child ≡ false =
          there-known host history child stands ∙ absent in
          let known : is_there (members_of history) parent ≡ true =
          there host history parent place stands sound at in
          let fits : leb 4096 (length (members_of history)) ≡ false =
          lt-leb 4096 (length (members_of history))
          (omega (arith, members-count host history stands, few)) in
          let own : option_map OfSpace
          (refusal_of host.blank.machine host.blank.bounds
          (commands_of host.blank.machine history parent) (Inherit task from)) ≡ None =
          ap (λ (o : Option Refusal). option_map OfSpace o) (parent-cause history stands)
          ∙ ap (λ b. option_map OfSpace (when b TooManyTasks)) free in
          rw (spent, new, known, fits) own

      pub fork-crowded : lacks_place one.space from task most ≡ true → (history : List HostCommand)
          → HostStandsFor host history
          → host_refusal_of host.blank.machine host.blank.bounds history
          (Fork parent child from task) ≡ Some (OfSpace TooManyTasks)
      fork-crowded full history stands =
          let spent : leb host.blank.bounds.max_commands (length history) ≡ false =
          not-spent host history stands room in
          let new : is_there (members_of history) child ≡ false =
          there-known host history child stands ∙ absent in
          let known : is_there (members_of history) parent ≡ true =
          there host history parent place stands sound at in
          let fits : leb 4096 (length (members_of history)) ≡ false =
          lt-leb 4096 (length (members_of history))
          (omega (arith, members-count host history stands, few)) in
          let own : option_map OfSpace
          (refusal_of host.blank.machine host.blank.bounds
          (commands_of host.blank.machine history parent) (Inherit task from))
          ≡ Some (OfSpace TooManyTasks) =
          ap (λ (o : Option Refusal). option_map OfSpace o) (parent-cause history stands)
          ∙ ap (λ b. option_map OfSpace (when b TooManyTasks)) full in
          rw (spent, new, known, fits) own

      pub fork-adds : (made : Process) → lacks_place one.space from task most ≡ false
          → IsChildOf one child from task made → Adds host (Fork parent child from task) made
      fork-adds made free born = record {
        none = fork-none free;
        groups = λ history. refl;
        weights = λ history. refl;
        members = λ history stands.
            let d : Process = some-process host.processes place at.inside in
            let group : group_in (members_of history) parent ≡ Some one.group =
            ap (λ (ms : List Member). group_in ms parent) (sym stands.members)
            ∙ ap (λ n. group_in (map member_of host.processes) n) (sym (at.is d))
            ∙ member-group host.processes place d sound.each_once at.inside in
            let same : unwrap_or (group_in (members_of history) parent) 0 ≡ made.group =
            ap (λ (o : Option ℕ). unwrap_or o 0) group ∙ sym born.group in
            λ i. members_of history ++ (sym born.id i, same i) ∷ [];
        others = λ history id other. rw (ne_eqb child id (λ same. other (sym same ∙ sym born.id)))
            refl;
        own = λ history stands.
            let d : Process = some-process host.processes place at.inside in
            let held : IsSpaceOf host.blank.machine host.blank.bounds
            (commands_of host.blank.machine history one.id) one.space =
            stands.spaces place d at.inside in
            let told : StandsFor made.space
            (Inherit task from ∷ commands_of host.blank.machine history one.id) =
            born.space.stands (commands_of host.blank.machine history one.id) held.stands in
            let own : commands_of host.blank.machine (Fork parent child from task ∷ history)
            made.id ≡ Inherit task from ∷ commands_of host.blank.machine history parent =
            rw (eq-eqb child made.id (sym born.id)) refl in
            let same : Inherit task from ∷ commands_of host.blank.machine history one.id
            ≡ Inherit task from ∷ commands_of host.blank.machine history parent =
            ap (λ n. Inherit task from ∷ commands_of host.blank.machine history n) (at.is d) in
            record {
              machine = born.space.machine ∙ held.machine;
              bounds = born.space.bounds ∙ held.bounds;
              stands = subst (λ (cs : List Command). StandsFor made.space cs) (same
                  ∙ sym own) told;
            };
        absent = ap (λ n. list_any (has_id n) host.processes) born.id ∙ absent;
        allowed = born.space.allowed
            ∙ sound.allowed place (some-process host.processes place at.inside) at.inside
            ∙ ap (λ g. effective_mems host.blank.machine.memory host.groups g) (sym born.group);
        grouped = ap (λ g. is_group host.groups g) born.group
            ∙ sound.grouped place (some-process host.processes place at.inside) at.inside;
      }
