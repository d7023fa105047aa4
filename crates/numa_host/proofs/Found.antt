-- The process of a number, among the members.
use Rattle.std.proofs.Common.{◌≡◌, ℕ, true, false, Bool, List, [], ◌∷◌, Option, Some, None}
use Rattle.std.proofs.Common.{is_some, MatchOption, map, All, eqb, refl, sym, ap, ◌∙◌, inl, inr}
use Rattle.std.proofs.Common.{subst}
use Rattle.std.proofs.lemmas.Bool.{cases_Bool, eqb-true}
use Rattle.std.specs.List.{find}
use Rattle.std.proofs.lemmas.List.Elements.{All-head, All-tail}
use Rattle.numa_host.specs.declared.process.Process.{Process}
use Rattle.numa_space.specs.Standing.{StandsFor}
use Rattle.numa_requests.specs.declared.host_command.HostCommand.{HostCommand}
use Rattle.numa_host.specs.Processes.{is_there, members_of, commands_of}
use Rattle.numa_host.specs.Standing.{member_of, HostState, HostStandsFor, IsSpaceOf}

abbrev pub has_id : ℕ → Process → Bool
has_id id p = eqb id p.id

-- a process is among the members where it is found
pub found-there : (ps : List Process) (id : ℕ)
    → is_there (map member_of ps) id ≡ is_some (find (has_id id) ps)
found-there [] id = refl
found-there (p ∷ ps) id =
    elim (cases_Bool (eqb id p.id)) [ inl e ↦ rw e refl | inr e ↦ rw e (found-there ps id) ]

-- what holds of all holds of the one found, and it has the number
pub found-holds : (P : Process → Type 0) (ps : List Process) (id : ℕ) → All P ps
    → MatchOption (find (has_id id) ps) (Unit {0}) (λ p. P p × (id ≡ p.id))
found-holds P [] id h = tt
found-holds P (p ∷ ps) id h =
    elim (cases_Bool (eqb id p.id)) [
      | inl e ↦ rw e (All-head P p ps h, eqb-true id p.id e)
      | inr e ↦
          rw e (found-holds P ps id (All-tail P p ps h))
    ]

module _ (host : HostState) (history : List HostCommand) (stands : HostStandsFor host history)
    (id : ℕ) where
  pub process-none : find (has_id id) host.processes ≡ None
      → is_there (members_of history) id ≡ false
  process-none none = ap (λ ms. is_there ms id) (sym stands.members)
      ∙ found-there host.processes id ∙ ap (λ (o : Option Process). is_some o) none

  pub process-some : (p : Process) → find (has_id id) host.processes ≡ Some p
      → (is_there (members_of history) id ≡ true) × (p.space.machine ≡ host.blank.machine)
      × StandsFor p.space (commands_of host.blank.machine history id)
  process-some p some =
      let P : Process → Type 0 = λ q. IsSpaceOf host.blank.machine host.blank.bounds
      (commands_of host.blank.machine history q.id) q.space in
      let Q : Option Process → Type 0 = λ o. MatchOption o (Unit {0}) (λ q. P q × (id ≡ q.id)) in
      let held : P p × (id ≡ p.id) =
      subst Q some (found-holds P host.processes id stands.spaces) in (
        ap (λ ms. is_there ms id) (sym stands.members) ∙ found-there host.processes id
            ∙ ap (λ (o : Option Process). is_some o) some,
        held.0.machine,
        subst (λ n. StandsFor p.space (commands_of host.blank.machine history n)) (sym held.1)
            held.0.stands,
      )
