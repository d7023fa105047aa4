-- What a touch is: a Begin, and then, while the worker is busy, Trys of the lowest frame of its
-- current node that it hasn't met. And what it comes to: the worker wins the lowest frame without
-- an owner of the first listed node that has one.
use Rattle.std.specs.Prelude.{zero, suc, ◌≡◌, ℕ, ◌+◌, Bool, not, Option, Some}
use Rattle.std.specs.Prelude.{None, Result, is_ok, is_none, List, [], ◌∷◌, sum}
use Rattle.std.specs.Prelude.{slice_index, option_and_then, if◌then◌else◌}
use Rattle.std.specs.Option.{option_map, option_map_or, option_or}
use Rattle.numa_machine.specs.Machine.{frames_of}
use Rattle.numa_machine.specs.declared.frame.Frame.{Frame}
use Rattle.numa_requests.specs.declared.request.Request.{Request}
use Rattle.numa_core.specs.declared.free_frames.FreeFrame.{FreeFrame}
use Rattle.numa_requests.specs.declared.event.Event.{Event}
use Rattle.numa_requests.specs.declared.event.Event.TheVariants.{Begin, Try}
use Rattle.numa_requests.specs.declared.event.CoreReply.{CoreReply}
use Rattle.numa_requests.specs.declared.event.CoreReply.TheVariants.{Exhausted, Won}
use Rattle.numa_requests.specs.declared.event.CoreRefusal.{CoreRefusal}
use Rattle.numa_core.specs.World.{Setup, FrameSearch, World, newest_published}
use Rattle.numa_core.specs.World.{frame_search_of, current_rank, new_frame_search}
use Rattle.numa_core.specs.Steps.{refusal_of, refused_or, answer_of, world_after}
use Rattle.numa_core.specs.Steps.{with_worker, with_owner}
use Rattle.numa_core.specs.Executions.{CoreStep}
use Rattle.numa_core.specs.Standing.{owner_at, place_in}

-- the lowest number below the count that passes the test
abbrev pub lowest_below : (ℕ → Bool) → ℕ → Option ℕ
lowest_below test zero = None
lowest_below test (suc n) = option_or (lowest_below test n) (if test n then Some n else None)

-- an event's answer, and the world after it
pub record Answered : Type 0 where
  pub answer : Result CoreReply CoreRefusal
  pub world : World

module _ (s : Setup) where
  -- the lowest frame of a node that the frame search has not met
  abbrev pub lowest_unmet : FrameSearch → ℕ → Option Frame
  lowest_unmet frame_search n = option_map (λ k. record { node = n; number = k })
      (lowest_below (λ k. not (frame_search.met n k)) (frames_of s.machine n))

  -- the frame that a touch tries next: the lowest unmet one of the current node
  abbrev pub next_frame : FrameSearch → Option Frame
  next_frame frame_search =
      option_and_then (λ rank. lowest_unmet frame_search (slice_index frame_search.nodes rank))
      (current_rank s frame_search)

  -- the Try of it, while the worker is busy
  abbrev pub next_try : World → ℕ → Option Event
  next_try world w = option_map (Try w) (option_and_then next_frame (frame_search_of world w))

  -- an event with ample memory; a Begin takes the newest published version
  abbrev pub answered_with : World → Event → Answered
  answered_with world event = record {
    answer = answer_of s world (newest_published world) event;
    world = world_after s world (newest_published world)
        event (answer_of s world (newest_published world) event);
  }

  -- such Trys one after the other, while there is one, and at most this many
  abbrev pub tried_on : ℕ → ℕ → Answered → Answered
  tried_on zero w so_far = so_far
  tried_on (suc n) w so_far =
      option_map_or (λ event. tried_on n w (answered_with so_far.world event))
      (next_try so_far.world w) so_far

  -- a touch: as many Trys as the machine has frames are enough
  unfoldable pub result_of_touch : World → ℕ → Request → Answered
  result_of_touch world w request =
      if is_ok (answer_of s world (newest_published world) (Begin w request))
      then tried_on (sum s.machine.frames) w (answered_with world (Begin w request))
      else answered_with world (Begin w request)

-- ---- what a touch comes to

-- the frame at the head of the list if there is one, else the spot after the head
abbrev pub spot_or : Option Frame → Option FreeFrame → Option FreeFrame
spot_or (Some frame) behind = Some (record { frame = frame; rank = 0 })
spot_or None behind = option_map (λ spot. record { frame = spot.frame; rank = spot.rank + 1 })
    behind

module _ (s : Setup) where
  -- the lowest frame of a node that has no owner
  abbrev pub lowest_free : World → ℕ → Option Frame
  lowest_free world n = option_map (λ k. record { node = n; number = k })
      (lowest_below (λ k. is_none (world.owner n k)) (frames_of s.machine n))

  -- the lowest frame without an owner of the first listed node that has one
  abbrev pub first_free : World → List ℕ → Option FreeFrame
  first_free world [] = None
  first_free world (n ∷ nodes) = spot_or (lowest_free world n) (first_free world nodes)

  -- the first free frame of the request's list in the newest published version
  abbrev pub free_for : World → Request → Option FreeFrame
  free_for world request =
      first_free world (new_frame_search s world (newest_published world) request).nodes

  -- the worker wins the spot; without one its list is exhausted
  abbrev pub touch_reply : World → Request → Option FreeFrame → CoreReply
  touch_reply world request None = Exhausted (newest_published world)
  touch_reply world request (Some spot) = Won (record {
    version = newest_published world;
    task = request.task;
    page = request.page;
    node = spot.frame.node;
    frame = spot.frame;
    rank = spot.rank;
  })

  -- the worker has taken the newest published version and is idle, and the frame at the spot is its
  -- own
  abbrev pub touch_effect : World → ℕ → Option FreeFrame → World
  touch_effect world w None = with_worker world w (newest_published world) None
  touch_effect world w (Some spot) = with_worker (with_owner world spot.frame (Some w))
      w (newest_published world) None

  -- a touch is refused as its Begin is
  abbrev pub touch_refusal : World → ℕ → Request → Option CoreRefusal
  touch_refusal world w request = refusal_of s world (newest_published world) (Begin w request)

  abbrev pub touch_answer : World → ℕ → Request → Result CoreReply CoreRefusal
  touch_answer world w request =
      refused_or (touch_refusal world w request)
      (touch_reply world request (free_for world request))

  -- a refused touch leaves the world as it was
  abbrev pub touch_world : World → ℕ → Request → World
  touch_world world w request = if is_none (touch_refusal world w request)
      then touch_effect world w (free_for world request) else world

-- ---- the steps of a touch

-- the last event of a touch and the steps before it, the newest first: Trys of the worker, and
-- the first is its Begin of the request
abbrev pub AreSteps : ℕ → Request → Event → List CoreStep → Type 0
AreSteps w request event [] = event ≡ Begin w request
AreSteps w request event (m ∷ earlier) = ((frame : Frame) × (event ≡ Try w frame))
    × AreSteps w request m.event earlier

-- the steps, the newest first, are a touch of the worker that is answered so
abbrev pub IsTouch : ℕ → Request → Result CoreReply CoreRefusal → List CoreStep → Type 0
IsTouch w request answer [] = ⊥
IsTouch w request answer (m ∷ earlier) = (m.answer ≡ answer) × AreSteps w request m.event earlier

-- ---- a touch over tables

-- the tables show the machine's frames and the world's owners
pub record Shows (s : Setup) (frames : List ℕ) (owners : List (Option ℕ))
    (world : World) : Type 0 where
  pub places : frames ≡ s.machine.frames
  pub owned : (n k : ℕ) → world.owner n k ≡ owner_at owners (place_in frames n k)
