use Rattle.std.proofs.Common.{◌≡◌, ◌∙◌, ℕ, Option, List, [], ◌∷◌, ap, refl}
use Rattle.std.specs.Prelude.{if◌then◌else◌}
use Rattle.numa_plan.specs.Meaning.{PlanData}
use Rattle.numa_traces.specs.Placing.{Frames, node_of}
use Rattle.numa_traces.specs.Replaying.{frames_after, frames_with_access, is_first, route_from}
use Rattle.numa_traces.specs.Replaying.{tally_of}
use Rattle.numa_traces.specs.Resting.{LieNowhere, frames_over, laid, laid_by, tally_over}
use Rattle.numa_traces.specs.Tallies.{Route, is_route, with_accesses}
use Rattle.numa_traces.specs.declared.access.Access.{Access}
use Rattle.numa_traces.proofs.Stepped.{laid-none}
use Rattle.numa_traces.proofs.laws.nothing_before.Goals as goal

module _ (plan : PlanData) (there : ℕ → Option ℕ) (start : Frames) (none : LieNowhere there) where
  -- as an access of a page finds frames
  seen : (frames after : Frames) (page : ℕ) → frames ≡ after → laid there frames page ≡ after
  seen frames after page same =
      ap (λ (lies : Option ℕ). laid_by (node_of frames.pages page) frames page lies) (none page)
      ∙ laid-none (node_of frames.pages page) frames page ∙ same

  same-frames : (trace : List Access)
      → frames_over plan there start trace ≡ frames_after plan start trace
  same-frames [] = refl
  same-frames (access ∷ trace) =
      ap (λ (frames : Frames). frames_with_access plan frames access)
      (seen (frames_over plan there start trace) (frames_after plan start trace) access.page
      (same-frames trace))

  same-tallies : (trace : List Access) (route : Route)
      → tally_over plan there start trace route ≡ tally_of plan start trace route
  same-tallies [] route = refl
  same-tallies (access ∷ trace) route =
      let found = seen (frames_over plan there start trace) (frames_after plan start trace)
      access.page (same-frames trace) in
      λ i. if is_route (route_from plan (found i) access) route
      then with_accesses (same-tallies trace route i) access.count
      (is_first (found i) access)
      else same-tallies trace route i

pub returns-clause-frames : goal.returns-clause-frames
returns-clause-frames c = λ plan there start trace none. same-frames plan there start none trace

pub returns-clause-tallies : goal.returns-clause-tallies
returns-clause-tallies c =
    λ plan there start trace route none. same-tallies plan there start none trace route

pub returns-clause-none : goal.returns-clause-none
returns-clause-none c = λ page. refl
