-- What a touch comes to. The Trys of owned frames only meet them, so the worker comes to the first
-- free frame of its list or to the list's end.
use Rattle.std.proofs.Common.{zero, suc, ◌≡◌, ℕ, ◌<◌, ◌≤◌, ◌==◌, ◌&&◌, ◌||◌, Bool, true, false, not}
use Rattle.std.proofs.Common.{Option, Some, None, Ok, is_some, is_none, unwrap_or, option_and_then}
use Rattle.std.proofs.Common.{List, sum, nat_le, nat_lt, refl, sym, ap, ◌∙◌, arith, if◌then◌else◌}
use Rattle.std.proofs.Common.{slice_index}
use Rattle.std.specs.Option.{option_map, option_map_or}
use Rattle.std.proofs.lemmas.Bool.{eq-eqb, lt-ltb}
use Rattle.numa_machine.specs.Machine.{frames_of}
use Rattle.numa_machine.specs.declared.frame.Frame.{Frame}
use Rattle.numa_requests.specs.declared.request.Request.{Request}
use Rattle.numa_requests.specs.declared.event.Event.TheVariants.{Try}
use Rattle.numa_requests.specs.declared.event.CoreReply.TheVariants.{Still, Exhausted, Won}
use Rattle.numa_requests.specs.declared.event.CoreRefusal.{CoreRefusal}
use Rattle.numa_requests.specs.declared.event.CoreRefusal.TheVariants.{NoSuchWorker, Busy, BadCpu}
use Rattle.numa_requests.specs.declared.event.CoreRefusal.TheVariants.{Unmapped}
use Rattle.numa_core.specs.declared.free_frames.FreeFrame.{FreeFrame}
use Rattle.numa_core.specs.World.{Setup, FrameSearch, World, newest_published, frame_search_of}
use Rattle.numa_core.specs.World.{last_of, list_at, is_frame, current_rank, has_unmet, may_try}
use Rattle.numa_core.specs.World.{frame_search_past, new_frame_search}
use Rattle.numa_core.specs.Steps.{goes_on, going_on, with_worker, with_owner}
use Rattle.numa_core.specs.Touching.{Answered, lowest_unmet, next_frame, next_try, answered_with}
use Rattle.numa_core.specs.Touching.{tried_on, result_of_touch, lowest_free, first_free}
use Rattle.numa_core.specs.Touching.{touch_reply, touch_effect, touch_refusal, touch_answer}
use Rattle.numa_core.specs.Touching.{touch_world}
use Rattle.numa_core.proofs.Cursors.{or_true}
use Rattle.numa_core.proofs.Answered.{four_rows, one_frame}
use Rattle.numa_core.proofs.Placing.{any_below-none, first_place-some, first_place-none}
use Rattle.numa_core.proofs.Placing.{not_false-is}
use Rattle.numa_core.proofs.TouchLowest.{IsLowest, lowest-none, lowest-some, lowest-is}
use Rattle.numa_core.proofs.TouchLowest.{first_place-there, unmet, unmet-less, unmet-all}
use Rattle.numa_core.proofs.TouchSteps.{frame_search-put, last-put, worker-twice, try-owned}
use Rattle.numa_core.proofs.TouchSteps.{try-free, free-none, free-some}

pub some_not_none : (o : Option ℕ) → is_some o ≡ true → is_none o ≡ false
some_not_none None e = absurd (cc)
some_not_none (Some v) e = refl

-- an idle worker tries nothing
idle : (s : Setup) (w : ℕ) (n : ℕ) (so_far : Answered) → frame_search_of so_far.world w ≡ None
    → tried_on s n w so_far ≡ so_far
idle s w zero so_far is = refl
idle s w (suc n) so_far is =
    ap (λ o. option_map_or (λ event. tried_on s n w (answered_with s so_far.world event))
    (option_map (Try w) (option_and_then (next_frame s) o)) so_far) is

not_true : (b : Bool) → not b ≡ true → b ≡ false
not_true true h = absurd (cc)
not_true false h = refl

module _ (s : Setup) (world : World) (w : ℕ) (request : Request) (nodes : List ℕ)
    (some : nat_le s.workers w ≡ false) where
  -- the frame search of the touch, once it met these frames
  abbrev searching : (ℕ → ℕ → Bool) → FrameSearch
  searching met = record {
    request = Some request;
    version = newest_published world;
    nodes = nodes;
    met =
        met;
  }

  -- met frames are owned
  abbrev Owned : (ℕ → ℕ → Bool) → Type 0
  Owned met = (n k : ℕ) → met n k ≡ true → is_some (world.owner n k) ≡ true

  -- what was answered so far, and the world, by the place of the current node
  abbrev so_far : (ℕ → ℕ → Bool) → Option ℕ → Answered
  so_far met current = record {
    answer = Ok (if is_some current then Still else Exhausted (newest_published world));
    world = with_worker world w (newest_published world)
        (if is_some current then Some (searching met) else None);
  }

  abbrev ending : Option FreeFrame → Answered
  ending spot =
      record { answer = Ok (touch_reply s world request spot); world = touch_effect s world w spot }

  -- a node whose frames are all met has none that is free
  all_owned : (met : ℕ → ℕ → Bool) → Owned met → (n : ℕ) → has_unmet s (searching met) n ≡ false
      → lowest_free s world n ≡ None
  all_owned met owned n e =
      rw (lowest-none (λ k. is_none (world.owner n k)) (frames_of s.machine n)
      (λ k low. some_not_none (world.owner n k)
      (owned n k
      (not_false-is (met n k)
      (any_below-none (λ k. not (met n k)) (frames_of s.machine n) k e low))))) refl

  -- a frame of the node at this place of the list
  abbrev frame_at : ℕ → ℕ → Frame
  frame_at rank k = record { node = slice_index nodes rank; number = k }

  -- the frame is the lowest unmet one of the current node
  abbrev IsNext : (ℕ → ℕ → Bool) → ℕ → ℕ → Type 0
  IsNext met rank k = IsLowest (λ k. not (met (slice_index nodes rank) k))
      (frames_of s.machine (slice_index nodes rank)) k

  next-is : (met : ℕ → ℕ → Bool) (rank k : ℕ) → current_rank s (searching met) ≡ Some rank
      → IsNext met rank k → next_try s (so_far met (Some rank)).world w
      ≡ Some (Try w (frame_at rank k))
  next-is met rank k e low =
      ap (λ o. option_map (Try w) (option_and_then (next_frame s) o))
      (frame_search-put world w (newest_published world) (Some (searching met)))
      ∙ ap
      (λ o.
      option_map (Try w)
      (option_and_then (λ r. lowest_unmet s (searching met) (slice_index nodes r)) o)) e
      ∙ ap
      (λ o.
      option_map (Try w) (option_map (λ k. record { node = slice_index nodes rank; number = k }) o))
      (lowest-some (λ k. not (met (slice_index nodes rank) k))
      (frames_of s.machine (slice_index nodes rank)) k low)

  may : (met : ℕ → ℕ → Bool) (rank k : ℕ) → current_rank s (searching met) ≡ Some rank
      → IsNext met rank k → may_try s (searching met) (frame_at rank k) ≡ true
  may met rank k e low =
      ap (λ o. option_map_or (λ r. (slice_index nodes r == slice_index nodes rank)
      && (nat_lt k (frames_of s.machine (slice_index nodes r))
      && not (met (slice_index nodes r) k))) o false) e
      ∙ rw (
        eq-eqb (slice_index nodes rank) (slice_index nodes rank) refl,
        lt-ltb k (frames_of s.machine (slice_index nodes rank)) low.low,
        low.passes,
      ) refl

  -- the frames that are met once this one is
  abbrev with_met : (ℕ → ℕ → Bool) → ℕ → ℕ → ℕ → ℕ → Bool
  with_met met rank k n j = is_frame (frame_at rank k) n j || met n j

  still_owned : (met : ℕ → ℕ → Bool) (rank k v : ℕ) → Owned met
      → world.owner (slice_index nodes rank) k ≡ Some v → Owned (with_met met rank k)
  still_owned met rank k v owned is n j h = go (is_frame (frame_at rank k) n j) refl h
    where
      go : (b : Bool) → is_frame (frame_at rank k) n j ≡ b → (b || met n j) ≡ true
          → is_some (world.owner n j) ≡ true
      go true e h = let same = one_frame (frame_at rank k) n j e in rw (same.0, same.1, is) refl
      go false e h = owned n j h

  falls : (met : ℕ → ℕ → Bool) (rank k : ℕ) → IsNext met rank k
      → unmet (with_met met rank k) s.machine.frames < unmet met s.machine.frames
  falls met rank k low =
      unmet-less met (with_met met rank k) s.machine.frames (slice_index nodes rank) k
      (λ n j h. or_true (is_frame (frame_at rank k) n j) (met n j) h) low.low
      (not_true _ low.passes)
      (rw (eq-eqb (slice_index nodes rank) (slice_index nodes rank) refl, eq-eqb k k refl) refl)

  -- the frame that is tried next is owned: it is met
  meets : (met : ℕ → ℕ → Bool) (rank k v : ℕ) → current_rank s (searching met) ≡ Some rank
      → IsNext met rank k → world.owner (slice_index nodes rank) k ≡ Some v
      → answered_with s (so_far met (Some rank)).world (Try w (frame_at rank k))
      ≡ so_far (with_met met rank k) (current_rank s (searching (with_met met rank k)))
  meets met rank k v e low is =
      let version = newest_published world in
      let busy : World = with_worker world w version (Some (searching met)) in
      let frame = frame_at rank k in
      let reply = goes_on s (frame_search_past frame (searching met)) in
      let frame_search = going_on s (frame_search_past frame (searching met)) in
      try-owned s busy w frame (searching met) some
      (frame_search-put world w version (Some (searching met))) (may met rank k e low) v is
      ∙ ap (λ last. record { answer = Ok reply; world = with_worker busy w last frame_search })
      (last-put world w version (Some (searching met)))
      ∙ ap (λ x. record { answer = Ok reply; world = x })
      (worker-twice world w version version (Some (searching met)) frame_search)

  -- the frame that is tried next is free: it is won
  wins : (met : ℕ → ℕ → Bool) (rank k : ℕ) → current_rank s (searching met) ≡ Some rank
      → IsNext met rank k → world.owner (slice_index nodes rank) k ≡ None
      → answered_with s (so_far met (Some rank)).world (Try w (frame_at rank k))
      ≡ ending (Some (record { frame = frame_at rank k; rank = rank }))
  wins met rank k e low is =
      let version = newest_published world in
      let busy : World = with_worker world w version (Some (searching met)) in
      let frame = frame_at rank k in
      try-free s busy w frame (searching met) some
      (frame_search-put world w version (Some (searching met))) (may met rank k e low) is
      ∙ ap
      (λ o.
      record {
        answer =
            Ok (Won
            (record {
              version = version;
              task = request.task;
              page = request.page;
              node = frame.node;
              frame = frame;
              rank = unwrap_or o 0;
            }));
        world = with_worker (with_owner busy frame (Some w))
            w (last_of busy w) None;
      }) e
      ∙ ap
      (λ last.
      record {
        answer =
            Ok (touch_reply s world request (Some (record { frame = frame; rank = rank })));
        world =
            with_worker (with_owner busy frame (Some w)) w last None;
      })
      (last-put world w version (Some (searching met)))
      ∙ ap
      (λ x.
      record {
        answer =
            Ok (touch_reply s world request (Some (record { frame = frame; rank = rank })));
        world = x;
      })
      (worker-twice (with_owner world frame (Some w)) w version version (Some (searching met)) None)

  -- the list is exhausted
  over : (n : ℕ) (met : ℕ → ℕ → Bool) → Owned met → current_rank s (searching met) ≡ None
      → tried_on s n w (so_far met None) ≡ ending (first_free s world nodes)
  over n met owned e =
      idle s w n (so_far met None) (frame_search-put world w (newest_published world) None)
      ∙ ap ending
      (sym (free-none s world nodes
      (λ i low. all_owned met owned (slice_index nodes i)
      (first_place-none (has_unmet s (searching met)) nodes e i low))))

  -- the frame that is tried next is the first free one of the list
  free-next : (met : ℕ → ℕ → Bool) (rank k : ℕ) → Owned met → current_rank s (searching met)
      ≡ Some rank → IsNext met rank k → world.owner (slice_index nodes rank) k ≡ None
      → first_free s world nodes ≡ Some (record { frame = frame_at rank k; rank = rank })
  free-next met rank k owned e low is =
      let spot = first_place-some (has_unmet s (searching met)) nodes rank e in
      free-some s world nodes rank (frame_at rank k) spot.0
      (λ i less. all_owned met owned (slice_index nodes i) (spot.1 i less))
      (ap (λ o. option_map (λ k. record { node = slice_index nodes rank; number = k }) o)
      (lowest-some (λ k. is_none (world.owner (slice_index nodes rank) k))
      (frames_of s.machine (slice_index nodes rank)) k record {
        low = low.low;
        passes = ap is_none is;
        first = λ j less. some_not_none (world.owner (slice_index nodes rank) j)
            (owned (slice_index nodes rank) j
            (not_false-is (met (slice_index nodes rank) j) (low.first j less)));
      }))

  -- the Try of the next frame, and those after it
  goes : (n : ℕ) (met : ℕ → ℕ → Bool) (rank k : ℕ) → Owned met → unmet met s.machine.frames ≤ suc n
      → current_rank s (searching met) ≡ Some rank → IsNext met rank k
      → ((met : ℕ → ℕ → Bool) → Owned met → unmet met s.machine.frames ≤ n
      → tried_on s n w (so_far met (current_rank s (searching met)))
      ≡ ending (first_free s world nodes))
      → tried_on s (suc n) w (so_far met (Some rank)) ≡ ending (first_free s world nodes)
  goes n met rank k owned few e low later =
      ap (λ o.
      option_map_or (λ event.
      tried_on s n w (answered_with s (so_far met (Some rank)).world event)) o
      (so_far met (Some rank))) (next-is met rank k e low)
      ∙ go (world.owner (slice_index nodes rank) k) refl
    where
      go : (o : Option ℕ) → world.owner (slice_index nodes rank) k ≡ o
          → tried_on s n w
          (answered_with s (so_far met (Some rank)).world (Try w (frame_at rank k)))
          ≡ ending (first_free s world nodes)
      go None is =
          let spot : FreeFrame = record { frame = frame_at rank k; rank = rank } in
          ap (λ x. tried_on s n w x) (wins met rank k e low is)
          ∙ idle s w n (ending (Some spot))
          (frame_search-put (with_owner world (frame_at rank k) (Some w)) w (newest_published world)
          None)
          ∙ ap ending (sym (free-next met rank k owned e low is))
      go (Some v) is =
          let less : unmet (with_met met rank k) s.machine.frames < unmet met s.machine.frames =
          falls met rank k low in
          ap (λ x. tried_on s n w x) (meets met rank k v e low is)
          ∙ later (with_met met rank k) (still_owned met rank k v owned is) (omega arith)

  next-of : (met : ℕ → ℕ → Bool) (rank : ℕ) → current_rank s (searching met) ≡ Some rank → (k : ℕ)
      × IsNext met rank k
  next-of met rank e = lowest-is (λ k. not (met (slice_index nodes rank) k))
      (frames_of s.machine (slice_index nodes rank))
      (first_place-there (has_unmet s (searching met)) nodes rank e)

  tries : (n : ℕ) (met : ℕ → ℕ → Bool) → Owned met → unmet met s.machine.frames ≤ n
      → tried_on s n w (so_far met (current_rank s (searching met)))
      ≡ ending (first_free s world nodes)
  tries zero met owned few = go (current_rank s (searching met)) refl
    where
      go : (o : Option ℕ) → current_rank s (searching met) ≡ o → tried_on s zero w (so_far met o)
          ≡ ending (first_free s world nodes)
      go None e = over zero met owned e
      go (Some rank) e =
          let next = next-of met rank e in
          let less : unmet (with_met met rank next.0) s.machine.frames
          < unmet met s.machine.frames = falls met rank next.0 next.1 in
          absurd (omega arith)
  tries (suc n) met owned few = go (current_rank s (searching met)) refl (tries n)
    where
      go : (o : Option ℕ) → current_rank s (searching met) ≡ o
          → ((met : ℕ → ℕ → Bool) → Owned met → unmet met s.machine.frames ≤ n
          → tried_on s n w (so_far met (current_rank s (searching met)))
          ≡ ending (first_free s world nodes))
          → tried_on s (suc n) w (so_far met o) ≡ ending (first_free s world nodes)
      go None e later = over (suc n) met owned e
      go (Some rank) e later = let next = next-of met rank e in
          goes n met rank next.0 owned few e next.1 later

-- a touch comes to this, in every world
pub touch_law : (s : Setup) (world : World) (w : ℕ) (request : Request)
    → result_of_touch s world w request ≡ record {
      answer = touch_answer s world w request;
      world =
          touch_world s world w request;
    }
unfolding result_of_touch
touch_law s world w request = go (touch_refusal s world w request) refl
  where
    go : (o : Option CoreRefusal) → touch_refusal s world w request ≡ o
        → result_of_touch s world w request ≡ record {
          answer = touch_answer s world w request;
          world = touch_world s world w request;
        }
    go (Some refusal) e = rw e refl
    go None e =
        let ok = four_rows (nat_le s.workers w) (is_some (frame_search_of world w))
        (nat_le s.machine.nodes request.cpu)
        (is_none (list_at s.machine world.history (newest_published world) request))
        NoSuchWorker Busy BadCpu (Unmapped (newest_published world)) e in
        let all : unmet (λ n k. false) s.machine.frames ≡ sum s.machine.frames =
        unmet-all s.machine.frames in
        rw e
        (tries s world w request
        (new_frame_search s world (newest_published world) request).nodes ok.0
        (sum s.machine.frames) (λ n k. false) (λ n k h. absurd (cc)) (omega arith))
