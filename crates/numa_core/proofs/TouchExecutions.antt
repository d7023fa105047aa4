-- A touch is a list of legal steps: a Begin and Trys.
use Rattle.std.proofs.Common.{zero, suc, ◌≡◌, ℕ, Bool, true, false, Option, Some, None, is_ok, List}
use Rattle.std.proofs.Common.{[], ◌∷◌, ◌++◌, sum, refl, inl, if◌then◌else◌}
use Rattle.std.specs.Option.{option_map, option_map_or}
use Rattle.numa_machine.specs.declared.frame.Frame.{Frame}
use Rattle.numa_requests.specs.declared.request.Request.{Request}
use Rattle.numa_requests.specs.declared.event.Event.{Event}
use Rattle.numa_requests.specs.declared.event.Event.TheVariants.{Begin, Try}
use Rattle.numa_core.specs.World.{Setup, newest_published}
use Rattle.numa_core.specs.Steps.{answer_of}
use Rattle.numa_core.specs.Executions.{CoreStep, IsExecution, world_of, next_core_step}
use Rattle.numa_core.specs.Touching.{Answered, next_try, answered_with, tried_on, result_of_touch}
use Rattle.numa_core.specs.Touching.{AreSteps, IsTouch}
use Rattle.numa_core.proofs.Newest.{newest, may_take-newest}

-- the execution goes on with any event
goes_on : (s : Setup) (past : List CoreStep) (event : Event) → IsExecution s past
    → IsExecution s (next_core_step s past event ∷ past)
goes_on s past event legal = (
  legal,
  may_take-newest (world_of s past) event (newest s past legal),
  inl refl,
)

-- the steps, the newest first, are a touch that is answered so, and lead on from the execution to
-- this world
pub record Touches (s : Setup) (past : List CoreStep) (w : ℕ) (request : Request) (end : Answered) :
    Type 0 where
  pub core_steps : List CoreStep
  pub touch : IsTouch w request end.answer core_steps
  pub legal : IsExecution s (core_steps ++ past)
  pub world : world_of s (core_steps ++ past) ≡ end.world

is_try : (w : ℕ) (o : Option Frame) (event : Event) → option_map (Try w) o ≡ Some event
    → (frame : Frame) × (event ≡ Try w frame)
is_try w None event e = absurd (cc)
is_try w (Some frame) event e = (frame, cc)

-- Trys after some steps of a touch
tries : (s : Setup) (past : List CoreStep) (w : ℕ) (request : Request) (n : ℕ) (m : CoreStep)
    (earlier : List CoreStep) → AreSteps w request m.event earlier
    → IsExecution s (m ∷ (earlier ++ past))
    → Touches s past w request
    (tried_on s n w (record { answer = m.answer; world = world_of s (m ∷ (earlier ++ past)) }))
tries s past w request zero m earlier steps legal =
    record { core_steps = m ∷ earlier; touch = (refl, steps); legal = legal; world = refl }
tries s past w request (suc n) m earlier steps legal =
    go (next_try s (world_of s (m ∷ (earlier ++ past))) w) refl (λ event attempt.
    tries s past w request n (next_core_step s (m ∷ (earlier ++ past)) event) (m ∷ earlier)
    (attempt, steps) (goes_on s (m ∷ (earlier ++ past)) event legal))
  where
    go : (o : Option Event) → next_try s (world_of s (m ∷ (earlier ++ past))) w ≡ o
        → ((event : Event) → (frame : Frame) × (event ≡ Try w frame)
        → Touches s past w request
        (tried_on s n w (answered_with s (world_of s (m ∷ (earlier ++ past))) event)))
        → Touches s past w request
        (option_map_or (λ event.
        tried_on s n w (answered_with s (world_of s (m ∷ (earlier ++ past))) event)) o
        (record { answer = m.answer; world = world_of s (m ∷ (earlier ++ past)) }))
    go None e later = record {
      core_steps = m ∷ earlier;
      touch = (refl, steps);
      legal = legal;
      world = refl;
    }
    go (Some event) e later = later event (is_try w _ event e)

-- from each execution a touch leads on
pub touches : (s : Setup) (past : List CoreStep) (w : ℕ) (request : Request) → IsExecution s past
    → Touches s past w request (result_of_touch s (world_of s past) w request)
unfolding result_of_touch
touches s past w request legal =
    go (is_ok (answer_of s (world_of s past) (newest_published (world_of s past))
    (Begin w request)))
    (tries s past w request (sum s.machine.frames) (next_core_step s past (Begin w request)) [] refl
    (goes_on s past (Begin w request) legal))
  where
    go : (b : Bool)
        → Touches s past w request
        (tried_on s (sum s.machine.frames) w (answered_with s (world_of s past) (Begin w request)))
        → Touches s past w request
        (if b then tried_on s (sum s.machine.frames) w
        (answered_with s (world_of s past) (Begin w request)) else answered_with s (world_of s past)
        (Begin w request))
    go true after = after
    go false after = record {
      core_steps = next_core_step s past (Begin w request) ∷ [];
      touch = (refl, refl);
      legal = goes_on s past (Begin w request) legal;
      world = refl;
    }
