-- A trace of a host, one step later.
use Rattle.std.proofs.Common.{◌≡◌, ◌==◌, ℕ, Option, Some, None, List, [], ◌∷◌, Result, Ok, Err}
use Rattle.std.proofs.Common.{OnOk, ◌∙◌, true, false, refl, ap, arith, subst, map, inl, inr}
use Rattle.std.specs.BTreeMap.{is_at}
use Rattle.std.specs.Ordering.{nat_cmp}
use Rattle.std.proofs.lemmas.Bool.{cases_Bool}
use Rattle.std.proofs.lemmas.Bool.Decides.{nat_tests}
use Rattle.numa_plan.specs.Meaning.{PlanData}
use Rattle.numa_traces.specs.Accesses.{access_of, mark_of}
use Rattle.numa_traces.specs.HostReading.{ReplaysHostLine, said_in, step_by, step_in}
use Rattle.numa_traces.specs.HostReading.{touch_in}
use Rattle.numa_traces.specs.Hosting.{Accepts, AreSameProcesses, HostReplayed, IsHostMark}
use Rattle.numa_traces.specs.Hosting.{IsHostReplay, counted_in, host_tally_of, process_of}
use Rattle.numa_traces.specs.Hosting.{tallies_of}
use Rattle.numa_traces.specs.Phases.{Closes, Touches, accesses_in}
use Rattle.numa_traces.specs.Tallies.{Tallied, tally_at}
use Rattle.numa_traces.specs.declared.access.Access.{Access}
use Rattle.numa_traces.specs.declared.fault.ReplayError.{ReplayError}
use Rattle.numa_traces.specs.declared.host_reading.HostTrace.{HostTrace}
use Rattle.numa_traces.specs.declared.process.ProcessReplay.{ProcessReplay}

-- ---- a mark

some-same : (a b : Tallied) → Some a ≡ Some b → a ≡ b
some-same a b same = cc

at-key : (process key : ℕ) → is_at (nat_cmp process) key ≡ (key == process)
at-key process key = grind (arith, nat_tests)

-- what was counted of a process is what its replay counted
counted-of : (processes : List (ℕ × ProcessReplay)) (process : ℕ) (tallies : Tallied)
    → tallies_of (map counted_in processes) process ≡ Some tallies
    → (one : ProcessReplay) × (process_of processes process ≡ Some one)
    × (one.replay.tallies ≡ tallies)
counted-of [] process tallies e = absurd (let odd = e in cc)
counted-of ((key, one) ∷ rest) process tallies e = elim (cases_Bool (key == process)) [
  | inl t ↦
      let is : is_at (nat_cmp process) key ≡ true = at-key process key ∙ t in
      (one, rw is refl, some-same one.replay.tallies tallies (rw t at e))
  | inr f ↦
      let not : is_at (nat_cmp process) key ≡ false = at-key process key ∙ f in
      let below = counted-of rest process tallies (rw f at e) in
      (below.0, rw not below.1, below.2)
]

-- a mark of what was met so far
pub mark-of : (room : List ℕ) (plans : ℕ → PlanData) (text : List ℕ) (trace : List (ℕ × Access))
    (met : HostReplayed) → IsHostReplay room plans trace met
    → IsHostMark room plans text trace
    (record { text = text; processes = map counted_in met.processes })
mark-of room plans text trace met was = record {
  says = refl;
  start = was.start;
  fresh = was.fresh;
  each = λ process tallies e route.
      let found = counted-of met.processes process tallies e in
      subst (λ (counted : Tallied). tally_at counted route
      ≡ host_tally_of plans was.start trace process route) found.2
      ((was.each process found.0 found.1).tallies route);
}

-- ---- a line

-- an access that a host has taken
pub touched-host : {A E : Type 0} (taken : Result A E) (old : HostTrace) (met : HostReplayed)
    (it : ℕ × Access) → OnOk taken (AreSameProcesses old.replay.processes met.processes)
    → ((room : List ℕ) (plans : ℕ → PlanData) (trace : List (ℕ × Access))
    → IsHostReplay room plans trace old.replay
    → OnOk taken (IsHostReplay room plans (it ∷ trace) met))
    → OnOk taken (Accepts old.replay it.0 it.1)
    → OnOk taken (ReplaysHostLine (Ok (Some (Touches it))) old
    (record { alloc = old.alloc; replay = met; marks = old.marks }))
touched-host (Ok value) old met it same next accepted = (
  same,
  accepted,
  λ room plans steps was. record {
    replay = next room plans (accesses_in steps) was.replay;
    marks = was.marks;
  },
)
touched-host (Err why) old met it same next accepted = tt

pub marked-line : (line text : List ℕ) → Some text ≡ mark_of line
    → Ok (Some (Closes text)) ≡ step_in line
marked-line line text says = ap (λ (mark : Option (List ℕ)). step_by mark line) says

pub other-line : (line : List ℕ) (said : Result (Option (ℕ × Access)) ReplayError)
    → None ≡ mark_of line → said ≡ said_in (access_of line) → touch_in said ≡ step_in line
other-line line said none says =
    ap touch_in says ∙ ap (λ (mark : Option (List ℕ)). step_by mark line) none
