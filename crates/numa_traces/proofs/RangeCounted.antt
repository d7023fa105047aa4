-- An access that is counted for the range of its page, too.
use Rattle.std.proofs.Common.{◌≡◌, ◌∙◌, ℕ, Bool, true, false, not, is_some, Option, None, Some}
use Rattle.std.proofs.Common.{Result, Ok, Err, IfErr, ap, inl, inr, refl, subst, sym}
use Rattle.numa_plan.specs.Meaning.{PlanData}
use Rattle.numa_traces.specs.Placing.{Frames, node_of}
use Rattle.numa_traces.specs.Ranging.{CountsRange, EndsCounted, Ranged, by_range}
use Rattle.numa_traces.specs.Replaying.{IsNext, Replayed, is_first, route_from}
use Rattle.numa_traces.specs.Tallies.{Counts, IsFull, IsRoomFault, Route}
use Rattle.numa_traces.specs.declared.access.Access.{Access}
use Rattle.numa_traces.specs.declared.fault.ReplayError.{ReplayError}
use Rattle.numa_traces.specs.declared.fault.ReplayError.TheVariants.{Malformed, Named, NoMemory}
use Rattle.numa_traces.specs.declared.fault.ReplayError.TheVariants.{NoProcess, Refused, TooMany}
use Rattle.numa_traces.specs.declared.fault.ReplayError.TheVariants.{Drawn, Huge, TooManyRuns}
use Rattle.numa_traces.specs.declared.fault.ReplayError.TheVariants.{Unnamed}
use Rattle.numa_traces.specs.declared.fault.ReplayError.TheVariants.{ByRange, WantsRoom}

not-twice : (b : Bool) → not (not b) ≡ b
not-twice true = refl
not-twice false = refl

-- where no ranges are counted they stay none
pub uncounted : (ranges : Option Ranged) (access : Access) (route : Route) (is_fault : Bool)
    → ranges ≡ None → CountsRange ranges access route is_fault ranges
uncounted None access route is_fault none = refl
uncounted (Some ranged) access route is_fault none = absurd (let no = none in cc)

module _ (plan : PlanData) (access : Access) (old new : Replayed) (ranged : Ranged)
    (node : Option ℕ) (is_fault : Bool) (next : IsNext plan access old new)
    (lies : node ≡ node_of new.frames.pages access.page)
    (fault : is_some (node_of old.frames.pages access.page) ≡ not is_fault) where
  route : ◌≡◌ {A = Route} (access.task, access.cpu, node) (route_from plan old.frames access)
  route = ap (λ (n : Option ℕ). (access.task, access.cpu, n))
      (lies ∙ ap (λ (frames : Frames). node_of frames.pages access.page) next.frames)

  first : is_fault ≡ is_first old.frames access
  first = sym (ap (λ (b : Bool). not b) fault ∙ not-twice is_fault)

  pub counted-range : (after : Ranged) → after.firsts ≡ ranged.firsts
      → Counts ranged.tallies (by_range ranged.firsts access.page (access.task, access.cpu, node))
      access.count is_fault after.tallies
      → CountsRange (Some ranged) access (route_from plan old.frames access)
      (is_first old.frames access) (Some after)
  counted-range after same counts = (
    same,
    subst (λ (b : Bool). Counts ranged.tallies (by_range ranged.firsts access.page
        (route_from plan old.frames access)) access.count b after.tallies) first
        (subst (λ (r : Route). Counts ranged.tallies (by_range ranged.firsts access.page r)
        access.count is_fault after.tallies) route counts),
  )

  full-range : IsFull ranged.tallies
      (by_range ranged.firsts access.page (access.task, access.cpu, node)) access.count is_fault
      → IsFull ranged.tallies
      (by_range ranged.firsts access.page (route_from plan old.frames access)) access.count
      (is_first old.frames access)
  full-range full =
      subst (λ (b : Bool). IsFull ranged.tallies (by_range ranged.firsts access.page
      (route_from plan old.frames access)) access.count b) first
      (subst (λ (r : Route). IsFull ranged.tallies (by_range ranged.firsts access.page r)
      access.count is_fault) route full)

  pub counted-ends : {A : Type 0} (result : Result A ReplayError) → IfErr result IsRoomFault
      → IfErr result (λ why. why ≡ TooMany → IsFull ranged.tallies
      (by_range ranged.firsts access.page (access.task, access.cpu, node)) access.count is_fault)
      → IfErr result (EndsCounted plan old (Some ranged) access)
  counted-ends (Ok a) room full = tt
  counted-ends (Err TooMany) room full = inr (inr (refl, full-range (full refl)))
  counted-ends (Err NoMemory) room full = inl refl
  counted-ends (Err (Refused r)) room full = absurd room
  counted-ends (Err (Malformed f)) room full = absurd room
  counted-ends (Err Unnamed) room full = absurd room
  counted-ends (Err WantsRoom) room full = absurd room
  counted-ends (Err ByRange) room full = absurd room
  counted-ends (Err Drawn) room full = absurd room
  counted-ends (Err Huge) room full = absurd room
  counted-ends (Err TooManyRuns) room full = absurd room
  counted-ends (Err Named) room full = absurd room
  counted-ends (Err NoProcess) room full = absurd room
