-- Where a page of a session lies, as a script that stands for it says.
use Rattle.std.proofs.Common.{◌≡◌, ◌∙◌, ℕ, Bool, true, false, not, is_some, Option, Some, None}
use Rattle.std.proofs.Common.{IsSome, ap, refl, subst, sym}
use Rattle.numa_machine.specs.Machine.{Hardware}
use Rattle.numa_machine.specs.declared.refusal.PlaceRefusal.TheVariants as place
use Rattle.numa_placed.specs.Spots.{node_of}
use Rattle.numa_run.specs.Scripts.{ScriptStandsFor}
use Rattle.numa_run.specs.States.{State}
use Rattle.numa_run.specs.declared.script.Script.{Script}
use Rattle.numa_host_script.specs.Hosts.{Hosting}
use Rattle.numa_host_script.specs.Paging.{pages_at}
use Rattle.numa_host_script.specs.Sessions.{Hosted, Session, Single}
use Rattle.numa_host_script.specs.Standing.{IsHost, IsScriptIn}
use Rattle.numa_host_script.specs.Taking.{SessionStandsFor}
use Rattle.numa_host_script.specs.declared.script.HostScript.{HostScript}
use Rattle.numa_subjects.specs.declared.page_place.PagePlace.{PagePlace}
use Rattle.numa_traces.specs.declared.access.Access.{Access}
use Rattle.numa_traces.specs.declared.fault.ReplayError.{ReplayError}
use Rattle.numa_traces.specs.declared.fault.ReplayError.TheVariants as fault
use Rattle.numa_play.specs.Deeds.{EndsFirst, EndsTouch, EndsTouchBy, LeadsWell, TouchesFrom}
use Rattle.numa_play.specs.Deeds.{TouchesPage, is_fault_in, lacks_cpu, lies_now, place_alone}
use Rattle.numa_play.specs.Deeds.{place_now, populate_of}
use Rattle.numa_play.specs.Places.{place_of, place_on}

alone-at : (machine : Option Hardware) (state : State) (at : ℕ) (found : Option PagePlace)
    → (machine ≡ None → found ≡ None)
    → (IsSome machine → found ≡ place_of state.resident state.lying.spots at)
    → found ≡ place_alone machine state at
alone-at None state at found none some = none refl
alone-at (Some machine) state at found none some = some refl

-- of the one process
pub own-at : (script : Script) (session : Session) (at : ℕ) (found : Option PagePlace)
    → ((state : State) → ScriptStandsFor script state → state.machine ≡ None → found ≡ None)
    → ((state : State) → ScriptStandsFor script state → IsSome state.machine
    → found ≡ place_of state.resident state.lying.spots at)
    → IsScriptIn script session → found ≡ place_now session None at
own-at script (Single state) at found none some is =
    alone-at state.machine state at found (none state is) (some state is)
own-at script (Hosted host) at found none some is = absurd is

pub none-at : (session : Session) (at : ℕ) → IsHost session
    → ◌≡◌ {A = Option PagePlace} None (place_now session None at)
none-at (Single state) at is = absurd is
none-at (Hosted host) at is = refl

-- of a process of a host
pub named-at : (script : HostScript) (process at : ℕ) (found : Option PagePlace)
    → ((state : State) → SessionStandsFor script (Single state) → found ≡ None)
    → ((host : Hosting) → SessionStandsFor script (Hosted host)
    → found ≡ place_on (node_of ((pages_at host process).spots at)))
    → (session : Session) → SessionStandsFor script session
    → found ≡ place_now session (Some process) at
named-at script process at found alone there (Single state) stands = alone state stands
named-at script process at found alone there (Hosted host) stands = there host stands

-- ---- an access

module _ (process : Option ℕ) (access : Access) (session : Session) where
  -- no CPU is of its node
  pub lacks : (found : Bool) → found ≡ lacks_cpu session access.cpu → found ≡ true
      → EndsTouch process access session (fault.Refused place.BadCpu)
  lacks found is holds = subst (λ (b : Bool). EndsTouchBy b process access session
      (fault.Refused place.BadCpu)) (sym holds ∙ is) refl

  -- its page lies somewhere
  pub stays : (node : ℕ) → lies_now session process access.page ≡ Some node
      → TouchesPage process access session session
      × ◌≡◌ {A = Option ℕ} (Some node) (lies_now session process access.page)
      × (false ≡ is_fault_in session process access)
  stays node is = (
    subst (λ (at : Option ℕ). TouchesFrom at process access session session) (sym is) refl,
    sym is,
    sym (ap (λ (at : Option ℕ). not (is_some at)) is),
  )

  -- it lay nowhere, and its first touch isn't refused
  pub goes : (then : Session) → lies_now session process access.page ≡ None
      → LeadsWell (populate_of process access) session then
      → TouchesPage process access session then × (true ≡ is_fault_in session process access)
  goes then none leads = (
    subst (λ (at : Option ℕ). TouchesFrom at process access session then) (sym none) leads,
    sym (ap (λ (at : Option ℕ). not (is_some at)) none),
  )

  -- it is refused
  pub ends : (found : Bool) (why : ReplayError) → found ≡ lacks_cpu session access.cpu
      → found ≡ false → lies_now session process access.page ≡ None
      → EndsFirst process access session why → EndsTouch process access session why
  ends found why is fails none first =
      subst (λ (b : Bool). EndsTouchBy b process access session why) (sym fails ∙ is) (none, first)
