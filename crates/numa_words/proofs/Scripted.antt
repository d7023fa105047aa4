-- Where all pages lie after a script: those of its host's processes, or of its one process.
use Rattle.std.proofs.Common.{◌≡◌, ◌==◌, ◌+◌, ◌<◌, ℕ, Bool, List, [], Option, None, Some}
use Rattle.std.proofs.Common.{Result, Ok, Err, ap, arith, false, inl, inr, length, refl, subst, sym}
use Rattle.std.proofs.Common.{true, ◌∙◌}
use Rattle.std.proofs.lemmas.Bool.{cases_lt, eqb-true, ltb-false, ltb-true}
use Rattle.std.proofs.lemmas.List.{nil_from_length}
use Rattle.std.proofs.lemmas.Result.{IfOk-weaker}
use Rattle.std.specs.Prelude.{◌⊎◌, IfOk, MatchOption, nat_lt, slice_get, slice_index}
use Rattle.numa_answers.specs.declared.pooled.FromPools.{FromPools}
use Rattle.numa_core.specs.Standing.{CoreState, CoreStandsFor}
use Rattle.numa_core.specs.World.{World}
use Rattle.numa_host.specs.Standing.{HostState}
use Rattle.numa_host_huge.specs.Sharing.{Sharing}
use Rattle.numa_host_huge.specs.Standing.{HugeLies}
use Rattle.numa_host_pages.specs.declared.pages.HostPages.{HostPages}
use Rattle.numa_host_script.specs.Sessions.{Hosted, Session, Single}
use Rattle.numa_host_script.specs.Standing.{AreHostPages, IsAlone, IsHost, IsHostIn, IsScriptIn}
use Rattle.numa_huge.specs.Huge.{HugeLying, huge_at, kept_page, places_of, same_huge}
use Rattle.numa_huge.specs.Moves.{HugeMemory}
use Rattle.numa_huge.specs.Tallies.{StandsForHuge}
use Rattle.numa_huge.specs.declared.pages.HugePages.{HugePages}
use Rattle.numa_machine.specs.declared.no_memory.NoMemory.{NoMemory}
use Rattle.numa_placed.specs.Laid.{Laid}
use Rattle.numa_ranges.specs.Counts.{range_count}
use Rattle.numa_run.specs.Scripts.{IsCoreIn, ScriptStandsFor}
use Rattle.numa_run.specs.States.{State}
use Rattle.numa_run.specs.declared.script.Script.{Script}
use Rattle.numa_sheets.specs.declared.asked.Touch.{Touch}
use Rattle.numa_space.specs.Standing.{SpaceState, StandsFor}
use Rattle.numa_words.specs.Touching.{AreGiven, AreNone, HasNone, HasNoRuns, IsAdded, IsFrom}
use Rattle.numa_words.specs.Touching.{IsFromOwn, IsTold, all_touched, nobody, spots_there}
use Rattle.numa_words.specs.Touching.{told_each, told_from, with_parts}
use Rattle.numa_words.specs.declared.touching.Touched.{Touched}

-- ---- of a host

pub host-none : (pages : HostPages) (session : Session) (none : Bool) → AreHostPages pages session
    → ((at : Sharing) → HugeLies pages.huge at → none ≡ (length at.homes == 0)) → none ≡ true
    → HasNone session
host-none pages (Single state) none are tells is = absurd are
host-none pages (Hosted at) none are tells is =
    nil_from_length at.lying.huge.homes
    (eqb-true (length at.lying.huge.homes) 0 (sym (tells at.lying.huge are.0.huge) ∙ is))

pub host-some : (pages : HostPages) (host : HostState) (session : Session) (process : Option ℕ)
    (touch : Touch) (there : List Laid) (done : Result Touched NoMemory)
    → AreHostPages pages session → IsHostIn host session
    → ((at : Sharing) → HugeLies pages.huge at → IfOk done (λ touched. IsTold touched
    (told_each process touch there host.processes (told_from at))))
    → IfOk done (IsFrom session process touch there)
host-some pages host (Single state) process touch there done are is tells = absurd are
host-some pages host (Hosted at) process touch there done are is tells =
    IfOk-weaker done (λ touched. IsTold touched
    (told_each process touch there host.processes (told_from at.lying.huge)))
    (IsFrom (Hosted at) process touch there)
    (λ touched so. record { host = host; is = is; told = so })
    (tells at.lying.huge are.0.huge)

-- ---- of one process

not-kept : (huge : Option HugeMemory) → StandsForHuge None huge → HasNoRuns huge
not-kept None is = tt
not-kept (Some memory) is = absurd is

pub alone-none : (script : Script) (session : Session) → IsScriptIn script session
    → ((state : State) → ScriptStandsFor script state
    → (state.machine ≡ None) ⊎ StandsForHuge None state.huge) → HasNone session
alone-none script (Hosted at) is tells = absurd is
alone-none script (Single state) is tells = elim (tells state is) [
  | inl bare ↦ inl bare
  | inr none ↦ inr (not-kept state.huge none)
]

pub alone-bare : (script : Script) (session : Session) → IsScriptIn script session
    → ((state : State) → ScriptStandsFor script state → state.machine ≡ None) → HasNone session
alone-bare script (Hosted at) is tells = absurd is
alone-bare script (Single state) is tells = inl (tells state is)

few-kept : (kept : HugePages) (huge : Option HugeMemory) → StandsForHuge (Some kept) huge
    → range_count same_huge (kept_page (huge_at kept.places.runs)) ≡ 0 → HasNoRuns huge
few-kept kept None is none = absurd is
few-kept kept (Some memory) is none =
    sym (ap (λ (l : HugeLying). range_count same_huge (kept_page l.spots)) is.pages) ∙ none

pub alone-few : (script : Script) (kept : HugePages) (session : Session) (none : Bool)
    → IsScriptIn script session
    → ((state : State) → ScriptStandsFor script state → StandsForHuge (Some kept) state.huge)
    → none ≡ (range_count same_huge (kept_page (huge_at kept.places.runs)) == 0) → none ≡ true
    → HasNone session
alone-few script kept (Hosted at) none is tells same so = absurd is
alone-few script kept (Single state) none is tells same so =
    inr (few-kept kept state.huge (tells state is)
    (eqb-true (range_count same_huge (kept_page (huge_at kept.places.runs))) 0 (sym same ∙ so)))

own-kept : (kept : HugePages) (huge : Option HugeMemory) → StandsForHuge (Some kept) huge
    → (memory : HugeMemory) × (huge ≡ Some memory) × (places_of kept.places ≡ memory.pages)
own-kept kept None is = absurd is
own-kept kept (Some memory) is = (memory, refl, is.pages)

own-from : (kept : HugePages) (space : SpaceState) (state : State) (touch : Touch)
    (there : List Laid) (touched : Touched) → StandsForHuge (Some kept) state.huge
    → StandsFor space state.world.history
    → AreGiven touched.said (all_touched space touch (places_of kept.places))
    → IsAdded [] touched.lying.items (with_parts (nobody space.machine.nodes)
    (all_touched space touch (places_of kept.places)).huge.spots (spots_there (slice_get there 0)))
    → IsFromOwn state touch there touched
own-from kept space state touch there touched is stands said lying =
    let own = own-kept kept state.huge is in
    record {
      space = space;
      memory = own.0;
      stands = stands;
      kept = own.1;
      said = subst (λ (l : HugeLying). AreGiven touched.said (all_touched space touch l)) own.2
          said;
      lying = subst (λ (l : HugeLying). IsAdded [] touched.lying.items (with_parts
          (nobody space.machine.nodes) (all_touched space touch l).huge.spots
          (spots_there (slice_get there 0)))) own.2 lying;
    }

pub alone-some : (script : Script) (kept : HugePages) (core : CoreState) (space : SpaceState)
    (session : Session) (process : Option ℕ) (touch : Touch) (there : List Laid)
    (done : Result Touched NoMemory) → IsScriptIn script session
    → ((state : State) → ScriptStandsFor script state → StandsForHuge (Some kept) state.huge)
    → ((state : State) → ScriptStandsFor script state → IsCoreIn core state)
    → ((world : World) → CoreStandsFor core world → StandsFor space world.history)
    → IfOk done (λ touched. AreGiven touched.said
    (all_touched space touch (places_of kept.places)))
    → IfOk done (λ touched. IsAdded [] touched.lying.items (with_parts (nobody space.machine.nodes)
    (all_touched space touch (places_of kept.places)).huge.spots (spots_there (slice_get there 0))))
    → IfOk done (IsFrom session process touch there)
alone-some script kept core space (Hosted at) process touch there done is huge cored meaning said
    lying = absurd is
alone-some script kept core space (Single state) process touch there (Err why) is huge cored meaning
    said lying = tt
alone-some script kept core space (Single state) process touch there (Ok touched) is huge cored
    meaning said lying =
    own-from kept space state touch there touched (huge state is)
    (meaning state.world (cored state is).world) said lying

-- ---- of one of the two

pub neither : (session : Session) (process : Option ℕ) (touch : Touch) (there : List Laid)
    (found : Option (Result Touched NoMemory)) → IsAlone session ⊎ HasNone session
    → MatchOption found (IsHost session ⊎ HasNone session)
    (λ done. IfOk done (IsFrom session process touch there))
    → MatchOption found (HasNone session) (λ done. IfOk done (IsFrom session process touch there))
neither session process touch there (Some done) first so = so
neither (Single state) process touch there None first so = elim so [
  | inl host ↦ absurd host
  | inr none ↦ none
]
neither (Hosted at) process touch there None first so = elim first [
  | inl alone ↦ absurd alone
  | inr none ↦ none
]

-- ---- none at all

pub none-more : (said : FromPools) (node : ℕ)
    → ((other : ℕ) → other < node → slice_index said.on other ≡ 0)
    → nat_lt 0 (slice_index said.on node) ≡ false
    → (other : ℕ) → other < node + 1 → slice_index said.on other ≡ 0
none-more said node so none other low = elim (cases_lt other node) [
  | inl below ↦ so other below
  | inr from ↦
      let is : other ≡ node = omega (arith, low, from) in
      ap (λ (n : ℕ). slice_index said.on n) is
      ∙ omega (arith, ltb-false 0 (slice_index said.on node) none)
]

pub some-there : (said : FromPools) (node : ℕ) → AreNone said → node < 256
    → nat_lt 0 (slice_index said.on node) ≡ true → ⊥
some-there said node none small is =
    omega (arith, none.on node small, ltb-true 0 (slice_index said.on node) is)
