-- What is counted by range, one step later.
use Rattle.std.proofs.Common.{◌≡◌, ◌∙◌, ℕ, Bool, Option, None, Some, List, [], ◌∷◌, Result, Ok, Err}
use Rattle.std.proofs.Common.{OnOk, ap, refl, subst, sym}
use Rattle.std.specs.Prelude.{if◌then◌else◌}
use Rattle.numa_plan.specs.Meaning.{PlanData}
use Rattle.numa_traces.specs.Placing.{Frames}
use Rattle.numa_traces.specs.Ranging.{AreRanged, AreSameRanges, CountsRange, HasNone, Ranged}
use Rattle.numa_traces.specs.Ranging.{by_range, ranged_over}
use Rattle.numa_traces.specs.Replaying.{is_first, route_from}
use Rattle.numa_traces.specs.Resting.{frames_over, laid}
use Rattle.numa_traces.specs.Tallies.{Route, Tallied, is_route, tally_at, with_accesses}
use Rattle.numa_traces.specs.declared.access.Access.{Access}

pub on-three : {A E : Type 0} {P Q R S : Type 0} (result : Result A E) → (P → Q → R → S)
    → OnOk result P → OnOk result Q → OnOk result R → OnOk result S
on-three (Ok a) from p q r = from p q r
on-three (Err e) from p q r = tt

-- ranges stay the same where nothing is counted, and where something is
pub all-same : (ranges : Option Ranged) → AreSameRanges ranges ranges
all-same None = refl
all-same (Some ranged) = refl

pub counted-same : (old new : Option Ranged) (access : Access) (route : Route) (is_fault : Bool)
    → CountsRange old access route is_fault new → AreSameRanges old new
counted-same None new access route is_fault counts = counts
counted-same (Some old) None access route is_fault counts = counts
counted-same (Some old) (Some new) access route is_fault counts = counts.0

no-range : {A : Type 0} (ranged : Ranged) → ◌≡◌ {A = Option Ranged} (Some ranged) None → A
no-range ranged odd = absurd (let no = odd in cc)

module _ (plan : PlanData) (there : ℕ → Option ℕ) (start : Frames) where
  -- before the first access
  pub none-ranged : (ranges : Option Ranged) → HasNone ranges
      → AreRanged plan there start [] ranges
  none-ranged None none = tt
  none-ranged (Some ranged) none =
      λ route. ap (λ (tallies : Tallied). tally_at tallies route) none

  -- an access more
  pub more-ranged : (trace : List Access) (access : Access) (frames : Frames)
      (old new : Option Ranged) → frames ≡ frames_over plan there start trace
      → CountsRange old access (route_from plan (laid there frames access.page) access)
      (is_first (laid there frames access.page) access) new
      → AreRanged plan there start trace old → AreRanged plan there start (access ∷ trace) new
  more-ranged trace access frames None None same counts was = tt
  more-ranged trace access frames None (Some new) same counts was = no-range new counts
  more-ranged trace access frames (Some old) None same counts was = absurd counts
  more-ranged trace access frames (Some old) (Some new) same counts was =
      let by_old : (route : Route) → tally_at new.tallies route
      ≡ ranged_over old.firsts plan there start (access ∷ trace) route = λ route. counts.1 route
      ∙ (λ i. if is_route (by_range old.firsts access.page
      (route_from plan (laid there (same i) access.page) access)) route
      then with_accesses (was route i) access.count
      (is_first (laid there (same i) access.page) access) else was route i) in
      subst (λ (firsts : List ℕ). (route : Route) → tally_at new.tallies route
      ≡ ranged_over firsts plan there start (access ∷ trace) route) (sym counts.0) by_old
