-- What a host knows of a process.
use Rattle.std.proofs.Common.{◌≡◌, ◌≢◌, ◌<◌, ◌≤◌, ℕ, ◌+◌, Bool, true, false, List, [], ◌∷◌, Option}
use Rattle.std.proofs.Common.{Some, None, All, AllPairs, map, filter, length, eqb, refl, sym, ap}
use Rattle.std.proofs.Common.{◌∙◌}
use Rattle.std.proofs.Common.{arith, inl, inr, subst, suc, is_some, MatchOption, unwrap_or, get_or}
use Rattle.std.specs.List.{find}
use Rattle.std.specs.Option.{option_map_or}
use Rattle.std.proofs.lemmas.Bool.{both_ways, cases_Bool, eqb-true, eq-eqb}
use Rattle.numa_host.specs.declared.group.ControlGroup.{ControlGroup}
use Rattle.numa_host.specs.declared.process.Process.{Process}
use Rattle.numa_host.specs.Groups.{effective_mems, groups_of}
use Rattle.numa_host.specs.Processes.{Member, group_in, is_there, members_of, nodes_of}
use Rattle.numa_host.specs.Standing.{HostState, HostStandsFor, IsHostSound, member_of}
use Rattle.numa_host.proofs.Found.{found-holds, has_id}
use Rattle.numa_requests.specs.declared.host_command.HostCommand.{HostCommand}
use Rattle.numa_host_pages.specs.Standing.{count_of}

abbrev pub group-of : Option Process → Option ℕ
group-of None = None
group-of (Some p) = Some p.group

-- the group of the one found, or none
pub found-group : (ps : List Process) (id : ℕ)
    → group_in (map member_of ps) id ≡ group-of (find (has_id id) ps)
found-group [] id = refl
found-group (p ∷ ps) id =
    elim (cases_Bool (eqb id p.id)) [ inl e ↦ rw e refl | inr e ↦ rw e (found-group ps id) ]

module _ (host : HostState) (history : List HostCommand) (stands : HostStandsFor host history)
    (id : ℕ) where
  group-known : group_in (members_of history) id ≡ group-of (find (has_id id) host.processes)
  group-known = ap (λ (ms : List Member). group_in ms id) (sym stands.members)
      ∙ found-group host.processes id

  -- one that isn't there
  pub place-none : find (has_id id) host.processes ≡ None
      → (0 ≡ unwrap_or (group_in (members_of history) id) 0)
      × (host.blank.machine.memory ≡ nodes_of host.blank.machine history id)
  place-none none =
      let g : group_in (members_of history) id ≡ None = group-known ∙ ap group-of none in (
        sym (ap (λ (o : Option ℕ). unwrap_or o 0) g),
        sym (ap (λ (o : Option ℕ). option_map_or
            (effective_mems host.blank.machine.memory (groups_of history)) o
            host.blank.machine.memory) g),
      )

  -- one that is
  pub place-some : IsHostSound host → (p : Process) → find (has_id id) host.processes ≡ Some p
      → (p.group ≡ unwrap_or (group_in (members_of history) id) 0)
      × (p.space.allowed ≡ nodes_of host.blank.machine history id)
  place-some sound p some =
      let g : group_in (members_of history) id ≡ Some p.group = group-known ∙ ap group-of some in
      let Nodes : Process → Type 0 = λ q. q.space.allowed
      ≡ effective_mems host.blank.machine.memory host.groups q.group in
      let held : Nodes p × (id ≡ p.id) =
      subst (λ (o : Option Process). MatchOption o (Unit {0}) (λ q. Nodes q × (id ≡ q.id))) some
      (found-holds Nodes host.processes id sound.allowed) in (
        sym (ap (λ (o : Option ℕ). unwrap_or o 0) g),
        held.0
            ∙ ap (λ (gs : List ControlGroup). effective_mems host.blank.machine.memory gs p.group)
            stands.groups
            ∙ sym (ap (λ (o : Option ℕ). option_map_or
            (effective_mems host.blank.machine.memory (groups_of history)) o
            host.blank.machine.memory) g),
      )
