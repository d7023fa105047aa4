-- A replay of a host, one access later.
use Rattle.std.proofs.Common.{◌≡◌, ◌==◌, ℕ, true, false, Option, Some, List, [], ◌∷◌}
use Rattle.std.proofs.Common.{refl, ap, arith, inl, inr, subst, sym, ◌∙◌}
use Rattle.std.specs.Prelude.{is_some, if◌then◌else◌}
use Rattle.std.specs.BTreeMap.{is_at}
use Rattle.std.specs.Ordering.{nat_cmp}
use Rattle.std.proofs.lemmas.Bool.{cases_Bool, eqb-true, eq-eqb}
use Rattle.std.proofs.lemmas.Bool.Decides.{nat_tests}
use Rattle.numa_plan.specs.Meaning.{PlanData}
use Rattle.numa_traces.specs.Hosting.{HasProcess, HostFrames, HostReplayed}
use Rattle.numa_traces.specs.Hosting.{IsHostReplay, IsPart, frames_before}
use Rattle.numa_traces.specs.Hosting.{host_frames_after, process_of, with_free}
use Rattle.numa_traces.specs.Replaying.{IsNext, Replayed, frames_with_access, is_first, route_from}
use Rattle.numa_traces.specs.Placing.{Frames}
use Rattle.numa_traces.specs.Tallies.{is_route, tally_at, with_accesses}
use Rattle.numa_traces.specs.declared.access.Access.{Access}
use Rattle.numa_traces.specs.declared.process.ProcessReplay.{ProcessReplay}

pub at-key : (a b : ℕ) → is_at (nat_cmp a) b ≡ (a == b)
at-key a b = grind (arith, nat_tests)

some-same : {A : Type 0} (a b : A) → Some a ≡ Some b → a ≡ b
some-same a b same = cc

module _ (plans : ℕ → PlanData) (start : HostFrames) (trace : List (ℕ × Access)) (process : ℕ)
    (access : Access) where
  -- what the process itself met
  own-part : (free left : List ℕ) (one after : ProcessReplay)
      → free ≡ (host_frames_after plans start trace).free
      → IsPart plans start trace process one → after.plan ≡ one.plan
      → IsNext one.plan access (with_free one.replay free) (with_free after.replay left)
      → (left ≡ (host_frames_after plans start ((process, access) ∷ trace)).free)
      × IsPart plans start ((process, access) ∷ trace) process after
  own-part free left one after frees part same next = (
    ap (λ (f : Frames). f.free) touched,
    record {
      plan = same ∙ part.plan;
      pages = ap (λ (f : Frames). f.pages) touched ∙ rw self refl;
      tallies = λ route. next.tallies route
          ∙ (λ i. if is_route (route_from (part.plan i) (seen i) access) route
          then with_accesses (part.tallies route i) access.count (is_first (seen i) access)
          else part.tallies route i) ∙ rw self refl;
    },
  )
    where
      self : (process == process) ≡ true
      self = eq-eqb process process refl

      seen : (with_free one.replay free).frames ≡ frames_before plans start trace process
      seen = λ i. record { pages = part.pages i; free = frees i }

      touched : (with_free after.replay left).frames
          ≡ frames_with_access (plans process) (frames_before plans start trace process) access
      touched = next.frames ∙ (λ i. frames_with_access (part.plan i) (seen i) access)

  -- what another met
  other-part : (other : ℕ) (one : ProcessReplay) → (process == other) ≡ false
      → IsPart plans start trace other one
      → IsPart plans start ((process, access) ∷ trace) other one
  other-part other one apart part = record {
    plan = part.plan;
    pages = rw apart part.pages;
    tallies = λ route. rw apart (part.tallies route);
  }

pub next-of-host : (room : List ℕ) (plans : ℕ → PlanData) (trace : List (ℕ × Access))
    (process : ℕ) (access : Access) (old new : HostReplayed) (one after : ProcessReplay)
    → process_of old.processes process ≡ Some one
    → ((other : ℕ) → process_of new.processes other
    ≡ if is_at (nat_cmp process) other then Some after else process_of old.processes other)
    → after.plan ≡ one.plan
    → IsNext one.plan access (with_free one.replay old.free) (with_free after.replay new.free)
    → IsHostReplay room plans trace old
    → IsHostReplay room plans ((process, access) ∷ trace) new
next-of-host machine plans trace process access old new one after found written same next was =
    record { start = was.start; fresh = was.fresh; free = own.0; each = each }
  where
    own : (new.free ≡ (host_frames_after plans was.start ((process, access) ∷ trace)).free)
        × IsPart plans was.start ((process, access) ∷ trace) process after
    own = own-part plans was.start trace process access old.free new.free one after was.free
        (was.each process one found) same next

    each : (other : ℕ) (it : ProcessReplay) → process_of new.processes other ≡ Some it
        → IsPart plans was.start ((process, access) ∷ trace) other it
    each other it found_it = elim (cases_Bool (process == other)) [
      | inl t ↦
          let is : is_at (nat_cmp process) other ≡ true = at-key process other ∙ t in
          let after_is : after ≡ it = some-same after it (sym (rw is at (written other)) ∙ found_it) in
          subst (λ (q : ℕ). IsPart plans was.start ((process, access) ∷ trace) q it)
          (eqb-true process other t)
          (subst (λ (p : ProcessReplay).
          IsPart plans was.start ((process, access) ∷ trace) process p) after_is own.1)
      | inr f ↦
          let not : is_at (nat_cmp process) other ≡ false = at-key process other ∙ f in
          other-part plans was.start trace process access other it f
          (was.each other it (sym (rw not at (written other)) ∙ found_it))
    ]

-- one process more, before the first access
pub begun-with : (room : List ℕ) (plans : ℕ → PlanData) (process : ℕ)
    (old new : HostReplayed) (one : ProcessReplay) → one.plan ≡ plans process
    → one.replay ≡ record { frames = record { pages = []; free = [] }; tallies = [] }
    → new.free ≡ old.free
    → ((other : ℕ) → process_of new.processes other
    ≡ if is_at (nat_cmp process) other then Some one else process_of old.processes other)
    → IsHostReplay room plans [] old → IsHostReplay room plans [] new
begun-with machine plans process old new one plan none kept written was =
    record { start = was.start; fresh = was.fresh; free = kept ∙ was.free; each = each }
  where
    own : IsPart plans was.start [] process one
    own = record {
      plan = plan;
      pages = ap (λ (r : Replayed). r.frames.pages) none ∙ sym (was.fresh.pages process);
      tallies = λ route. ap (λ (r : Replayed). tally_at r.tallies route) none;
    }

    each : (other : ℕ) (it : ProcessReplay) → process_of new.processes other ≡ Some it
        → IsPart plans was.start [] other it
    each other it found_it = elim (cases_Bool (process == other)) [
      | inl t ↦
          let is : is_at (nat_cmp process) other ≡ true = at-key process other ∙ t in
          let one_is : one ≡ it = some-same one it (sym (rw is at (written other)) ∙ found_it) in
          subst (λ (q : ℕ). IsPart plans was.start [] q it) (eqb-true process other t)
          (subst (λ (p : ProcessReplay). IsPart plans was.start [] process p) one_is own)
      | inr f ↦
          let not : is_at (nat_cmp process) other ≡ false = at-key process other ∙ f in
          was.each other it (sym (rw not at (written other)) ∙ found_it)
    ]

-- an entry of a process more, or another in its place
pub one-more : (process : ℕ) (old new : List (ℕ × ProcessReplay)) (one : ProcessReplay)
    → ((other : ℕ) → process_of new other
    ≡ if is_at (nat_cmp process) other then Some one else process_of old other)
    → HasProcess process old new
one-more process old new one written other = elim (cases_Bool (process == other)) [
  | inl t ↦
      let is : is_at (nat_cmp process) other ≡ true = at-key process other ∙ t in
      let there : process_of new other ≡ Some one = rw is at (written other) in
      let some : is_some (process_of new other) ≡ true =
      ap (λ (o : Option ProcessReplay). is_some o) there in
      rw t some
  | inr f ↦
      let not : is_at (nat_cmp process) other ≡ false = at-key process other ∙ f in
      let there : process_of new other ≡ process_of old other = rw not at (written other) in
      let same : is_some (process_of new other) ≡ is_some (process_of old other) =
      ap (λ (o : Option ProcessReplay). is_some o) there in
      rw f same
]
