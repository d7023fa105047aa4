-- What a process has accepted doesn't depend on processes that it never met.
use Rattle.std.proofs.Common.{◌≡◌, ◌≢◌, ℕ, Bool, true, false, not, List, [], ◌∷◌, ◌++◌, filter}
use Rattle.std.proofs.Common.{map, Option, Some, None, eqb, refl, sym, ap, ◌∙◌, inl, inr}
use Rattle.std.proofs.Common.{if◌then◌else◌}
use Rattle.std.proofs.lemmas.Bool.{both_ways, cases_Bool, eqb-true, ne_eqb}
use Rattle.std.specs.Option.{option_map, option_map_or}
use Rattle.std.specs.Prelude.{unwrap_or}
use Rattle.numa_machine.specs.Machine.{Hardware}
use Rattle.numa_requests.specs.declared.command.Command.{Command}
use Rattle.numa_requests.specs.declared.command.Command.TheVariants as own
use Rattle.numa_requests.specs.declared.host_command.HostCommand.{HostCommand}
use Rattle.numa_requests.specs.declared.host_command.HostCommand.TheVariants.{NewGroup}
use Rattle.numa_requests.specs.declared.host_command.HostCommand.TheVariants.{SetGroupMems}
use Rattle.numa_requests.specs.declared.host_command.HostCommand.TheVariants.{NewProcess, Exit}
use Rattle.numa_requests.specs.declared.host_command.HostCommand.TheVariants.{Attach}
use Rattle.numa_requests.specs.declared.host_command.HostCommand.TheVariants.{Fork, In, SetWeight}
use Rattle.numa_host.specs.declared.group.ControlGroup.{ControlGroup}
use Rattle.numa_host.specs.Groups.{effective_mems, groups_of, with_mems}
use Rattle.numa_host.specs.Processes.{Member, commands_of, group_in, members_of, moved_member}
use Rattle.numa_host.specs.Processes.{nodes_of, weights_of, when_moved}
use Rattle.numa_host.specs.Strangers.{NeverMet, without}
use Rattle.numa_host.proofs.Members.{moved-nowhere}

-- ---- the group of a process in a list of members

abbrev first_some : Option ℕ → Option ℕ → Option ℕ
first_some None other = other
first_some (Some group) other = Some group

group-end : (ms : List Member) (p g q : ℕ)
    → group_in (ms ++ (p, g) ∷ []) q ≡ first_some (group_in ms q)
    (if eqb q p then Some g else None)
group-end [] p g q = elim (cases_Bool (eqb q p)) [ inl e ↦ rw e refl | inr e ↦ rw e refl ]
group-end (m ∷ ms) p g q =
    elim (cases_Bool (eqb q m.0)) [ inl e ↦ rw e refl | inr e ↦ rw e (group-end ms p g q) ]

some-first : (o : Option ℕ) → first_some o None ≡ o
some-first None = refl
some-first (Some g) = refl

group-end_other : (ms : List Member) (p g q : ℕ) → q ≢ p
    → group_in (ms ++ (p, g) ∷ []) q ≡ group_in ms q
group-end_other ms p g q other = group-end ms p g q
    ∙ ap (λ b. first_some (group_in ms q) (if b then Some g else None)) (ne_eqb q p other)
    ∙ some-first (group_in ms q)

group-without_one : (ms : List Member) (p q : ℕ)
    → group_in (filter (λ (m : Member). not (eqb m.0 p)) ms) q
    ≡ (if eqb q p then None else group_in ms q)
group-without_one [] p q = elim (cases_Bool (eqb q p)) [ inl e ↦ rw e refl | inr e ↦ rw e refl ]
group-without_one (m ∷ ms) p q =
    elim (cases_Bool (eqb m.0 p)) [
      | inl e ↦
          rw e (group-without_one ms p q ∙ elim (cases_Bool (eqb q p)) [
            | inl f ↦ rw f refl
            | inr f ↦ rw (
              f,
              ne_eqb q m.0
                  (λ same. both_ways (eqb q p) f (ap (λ n. eqb n p) same ∙ e)),
            ) refl
          ])
      | inr e ↦
          rw e (elim (cases_Bool (eqb q m.0)) [
            | inl f ↦ rw (f, (ap (λ n. eqb n p) (eqb-true q m.0 f) ∙ e)) refl
            | inr f ↦ rw f (group-without_one ms p q)
          ])
    ]

group-moved : (ms : List Member) (p g q : ℕ)
    → group_in (map (moved_member p g) ms) q ≡ option_map (λ known. if eqb q p then g else known)
    (group_in ms q)
group-moved [] p g q = refl
group-moved (m ∷ ms) p g q =
    elim (cases_Bool (eqb m.0 p)) [
      | inl e ↦
          let is : m.0 ≡ p = eqb-true m.0 p e in
          rw e (elim (cases_Bool (eqb q m.0)) [
            | inl f ↦
                let here : eqb q p ≡ true = ap (λ n. eqb q n) (sym is) ∙ f in
                rw (f, here) refl
            | inr f ↦
                let here : eqb q p ≡ false = ap (λ n. eqb q n) (sym is) ∙ f in
                rw (f, here) (group-moved ms p g q
                ∙ ap (λ b. option_map (λ known. if b then g else known) (group_in ms q)) here)
          ])
      | inr e ↦
          rw e (elim (cases_Bool (eqb q m.0)) [
            | inl f ↦
                let here : eqb q p ≡ false = ap (λ n. eqb n p) (eqb-true q m.0 f) ∙ e in
                rw (f, here) refl
            | inr f ↦ rw f (group-moved ms p g q)
          ])
    ]

map-itself : (o : Option ℕ) → option_map (λ known. known) o ≡ o
map-itself None = refl
map-itself (Some g) = refl

group-moved_other : (ms : List Member) (p g q : ℕ) → q ≢ p
    → group_in (map (moved_member p g) ms) q ≡ group_in ms q
group-moved_other ms p g q other = group-moved ms p g q
    ∙ ap (λ b. option_map (λ known. if b then g else known) (group_in ms q)) (ne_eqb q p other)
    ∙ map-itself (group_in ms q)

-- ---- the parts of a host without these processes

module _ (these : ℕ → Bool) where
  apart : (p q : ℕ) → these p ≡ true → these q ≡ false → q ≢ p
  apart p q one other = λ same. both_ways (these p) (ap these (sym same) ∙ other) one

  pub groups-without : (history : List HostCommand)
      → groups_of (without these history) ≡ groups_of history
  groups-without [] = refl
  groups-without (NewGroup name parent ∷ history) =
      λ i. record { name = name; parent = parent; mems = None } ∷ groups-without history i
  groups-without (SetGroupMems name mems ∷ history) =
      ap (λ (gs : List ControlGroup). map (with_mems name mems) gs) (groups-without history)
  groups-without (NewProcess process group ∷ history) =
      elim (cases_Bool (these process)) [
        | inl e ↦ rw e (groups-without history)
        | inr e ↦
            rw e (groups-without history)
      ]
  groups-without (Exit process ∷ history) =
      elim (cases_Bool (these process)) [
        | inl e ↦ rw e (groups-without history)
        | inr e ↦
            rw e (groups-without history)
      ]
  groups-without (Attach process group ∷ history) =
      elim (cases_Bool (these process)) [
        | inl e ↦ rw e (groups-without history)
        | inr e ↦
            rw e (groups-without history)
      ]
  groups-without (Fork parent child from task ∷ history) =
      elim (cases_Bool (these child)) [
        | inl e ↦ rw e (groups-without history)
        | inr e ↦
            rw e (groups-without history)
      ]
  groups-without (In process command ∷ history) =
      elim (cases_Bool (these process)) [
        | inl e ↦ rw e (groups-without history)
        | inr e ↦
            rw e (groups-without history)
      ]
  groups-without (SetWeight node weight ∷ history) = groups-without history

  weights-without : (history : List HostCommand)
      → weights_of (without these history) ≡ weights_of history
  weights-without [] = refl
  weights-without (NewGroup name parent ∷ history) = weights-without history
  weights-without (SetGroupMems name mems ∷ history) = weights-without history
  weights-without (NewProcess process group ∷ history) =
      elim (cases_Bool (these process)) [
        | inl e ↦ rw e (weights-without history)
        | inr e ↦
            rw e (weights-without history)
      ]
  weights-without (Exit process ∷ history) =
      elim (cases_Bool (these process)) [
        | inl e ↦ rw e (weights-without history)
        | inr e ↦
            rw e (weights-without history)
      ]
  weights-without (Attach process group ∷ history) =
      elim (cases_Bool (these process)) [
        | inl e ↦ rw e (weights-without history)
        | inr e ↦
            rw e (weights-without history)
      ]
  weights-without (Fork parent child from task ∷ history) =
      elim (cases_Bool (these child)) [
        | inl e ↦ rw e (weights-without history)
        | inr e ↦
            rw e (weights-without history)
      ]
  weights-without (In process command ∷ history) =
      elim (cases_Bool (these process)) [
        | inl e ↦ rw e (weights-without history)
        | inr e ↦
            rw e (weights-without history)
      ]
  weights-without (SetWeight node weight ∷ history) = λ i. own.SetWeight node weight
      ∷ weights-without history i

  pub group-without : (history : List HostCommand) (process : ℕ) → NeverMet these history
      → these process ≡ false
      → group_in (members_of (without these history)) process ≡ group_in (members_of history)
      process
  group-without [] process met other = refl
  group-without (NewGroup name parent ∷ history) process met other =
      group-without history process met other
  group-without (SetGroupMems name mems ∷ history) process met other =
      group-without history process met other
  group-without (SetWeight node weight ∷ history) process met other =
      group-without history process met other
  group-without (In one command ∷ history) process met other =
      elim (cases_Bool (these one)) [
        | inl e ↦ rw e (group-without history process met other)
        | inr e ↦
            rw e (group-without history process met other)
      ]
  group-without (NewProcess one group ∷ history) process met other =
      elim (cases_Bool (these one)) [
        | inl e ↦ rw e (group-without history process met other
            ∙ sym (group-end_other (members_of history) one group process
            (apart one process e other)))
        | inr e ↦
            rw e (group-end (members_of (without these history)) one group process
            ∙ ap (λ (o : Option ℕ). first_some o (if eqb process one then Some group else None))
            (group-without history process met other)
            ∙ sym (group-end (members_of history) one group process))
      ]
  group-without (Exit one ∷ history) process met other =
      elim (cases_Bool (these one)) [
        | inl e ↦
            rw e (group-without history process met other
            ∙ sym (group-without_one (members_of history) one process
            ∙ ap (λ b. if b then None else group_in (members_of history) process)
            (ne_eqb process one (apart one process e other))))
        | inr e ↦
            rw e (group-without_one (members_of (without these history)) one process
            ∙ ap (λ (o : Option ℕ). if eqb process one then None else o)
            (group-without history process met other)
            ∙ sym (group-without_one (members_of history) one process))
      ]
  group-without (Attach one group ∷ history) process met other =
      elim (cases_Bool (these one)) [
        | inl e ↦ rw e (group-without history process met other
            ∙ sym (group-moved_other (members_of history) one group process
            (apart one process e other)))
        | inr e ↦
            rw e (group-moved (members_of (without these history)) one group process
            ∙ ap (λ (o : Option ℕ). option_map
            (λ known. if eqb process one then group else known) o)
            (group-without history process met other)
            ∙ sym (group-moved (members_of history) one group process))
      ]
  group-without (Fork parent child from task ∷ history) process met other =
      elim (cases_Bool (these child)) [
        | inl e ↦ rw e (group-without history process met.1 other
            ∙ sym (group-end_other (members_of history) child
            (unwrap_or (group_in (members_of history) parent) 0) process
            (apart child process e other)))
        | inr e ↦
            let parent_group : group_in (members_of (without these history)) parent
            ≡ group_in (members_of history) parent = group-without history parent met.1 (met.0
            ∙ e) in
            rw e (group-end (members_of (without these history)) child
            (unwrap_or (group_in (members_of (without these history)) parent) 0) process
            ∙ (λ i. first_some (group-without history process met.1 other i)
            (if eqb process child then Some (unwrap_or (parent_group i) 0) else None))
            ∙ sym (group-end (members_of history) child
            (unwrap_or (group_in (members_of history) parent) 0) process))
      ]

  nodes-without : (machine : Hardware) (history : List HostCommand) (process : ℕ)
      → NeverMet these history → these process ≡ false
      → nodes_of machine (without these history) process ≡ nodes_of machine history process
  nodes-without machine history process met other =
      λ i. option_map_or (effective_mems machine.memory (groups-without history i))
      (group-without history process met other i) machine.memory

  pub commands-without : (machine : Hardware) (history : List HostCommand) (process : ℕ)
      → NeverMet these history → these process ≡ false
      → commands_of machine (without these history) process ≡ commands_of machine history process
  commands-without machine [] process met other = refl
  commands-without machine (NewGroup name parent ∷ history) process met other =
      λ i. when_moved (nodes-without machine history process met other i)
      (nodes-without machine (NewGroup name parent ∷ history) process met other i)
      (commands-without machine history process met other i)
  commands-without machine (SetGroupMems name mems ∷ history) process met other =
      λ i. when_moved (nodes-without machine history process met other i)
      (nodes-without machine (SetGroupMems name mems ∷ history) process met other i)
      (commands-without machine history process met other i)
  commands-without machine (SetWeight node weight ∷ history) process met other =
      λ i. own.SetWeight node weight ∷ commands-without machine history process met other i
  commands-without machine (In one command ∷ history) process met other =
      elim (cases_Bool (these one)) [
        | inl e ↦ rw (e, ne_eqb one process (λ same. apart one process e other (sym same)))
            (commands-without machine history process met other)
        | inr e ↦ rw e (ap (λ (cs : List Command). if eqb one process then command ∷ cs else cs)
            (commands-without machine history process met other))
      ]
  commands-without machine (NewProcess one group ∷ history) process met other =
      elim (cases_Bool (these one)) [
        | inl e ↦ rw (e, ne_eqb one process (λ same. apart one process e other (sym same)))
            (commands-without machine history process met other)
        | inr e ↦
            rw e (λ i. if eqb one process then when_moved machine.memory
            (effective_mems machine.memory (groups-without history i) group)
            (weights-without history i) else commands-without machine history process met other
            i)
      ]
  commands-without machine (Exit one ∷ history) process met other =
      elim (cases_Bool (these one)) [
        | inl e ↦ rw (e, ne_eqb one process (λ same. apart one process e other (sym same)))
            (commands-without machine history process met other)
        | inr e ↦ rw e (λ i. if eqb one process then weights-without history i else
            commands-without machine history process met other i)
      ]
  commands-without machine (Fork parent child from task ∷ history) process met other =
      elim (cases_Bool (these child)) [
        | inl e ↦ rw (e, ne_eqb child process (λ same. apart child process e other (sym same)))
            (commands-without machine history process met.1 other)
        | inr e ↦
            rw e (λ i. if eqb child process then own.Inherit task from ∷ commands-without machine
            history parent met.1 (met.0 ∙ e) i else commands-without machine history process
            met.1 other i)
      ]
  commands-without machine (Attach one group ∷ history) process met other =
      elim (cases_Bool (these one)) [
        | inl e ↦
            let stays : nodes_of machine history process ≡ nodes_of machine
            (Attach one group ∷ history) process =
            ap (λ (o : Option ℕ). option_map_or
            (effective_mems machine.memory (groups_of history)) o machine.memory)
            (sym (group-moved_other (members_of history) one group process
            (apart one process e other))) in
            rw e (commands-without machine history process met other
            ∙ sym (moved-nowhere (nodes_of machine history process)
            (nodes_of machine (Attach one group ∷ history) process)
            (commands_of machine history process) stays))
        | inr e ↦
            let next = rw e at (nodes-without machine (Attach one group ∷ history) process met
            other) in
            rw e (λ i. when_moved (nodes-without machine history process met other i) (next i)
            (commands-without machine history process met other i))
      ]
