-- One step of a touch: what a Try of a busy worker does, and which spot is the first free one of a
-- list.
use Rattle.std.proofs.Common.{zero, suc, ◌≡◌, ℕ, ◌+◌, ◌<◌, ◌==◌, Bool, true, false, Option, Some}
use Rattle.std.proofs.Common.{None, Ok, List, [], ◌∷◌, length, refl, ap, arith, nat_le}
use Rattle.std.proofs.Common.{if◌then◌else◌, slice_index}
use Rattle.std.proofs.lemmas.Bool.{eq-eqb}
use Rattle.numa_machine.specs.declared.frame.Frame.{Frame}
use Rattle.numa_requests.specs.declared.event.Event.TheVariants.{Try}
use Rattle.numa_core.specs.World.{Setup, FrameSearch, Worker, World, newest_published}
use Rattle.numa_core.specs.World.{frame_search_of, last_of, owner_of, may_try, frame_search_past}
use Rattle.numa_core.specs.Steps.{refusal_of, goes_on, going_on, won_by, with_worker}
use Rattle.numa_core.specs.Steps.{with_owner, put}
use Rattle.numa_core.specs.Touching.{answered_with, lowest_free, first_free}

-- ---- changes of a worker

pub frame_search-put : (world : World) (w last : ℕ) (frame_search : Option FrameSearch)
    → frame_search_of (with_worker world w last frame_search) w ≡ frame_search
frame_search-put world w last frame_search =
    ap (λ b.
    (if b then record { last = last; frame_search = frame_search } else world.worker
    w).frame_search) (eq-eqb w w refl)

pub last-put : (world : World) (w last : ℕ) (frame_search : Option FrameSearch)
    → last_of (with_worker world w last frame_search) w ≡ last
last-put world w last frame_search =
    ap (λ b.
    (if b then record { last = last; frame_search = frame_search } else world.worker w).last)
    (eq-eqb w w refl)

put-twice : (f : ℕ → Worker) (w : ℕ) (x y : Worker) (v : ℕ) → put (put f w x) w y v ≡ put f w y v
put-twice f w x y v = go (w == v)
  where
    go : (b : Bool) → (if b then y else (if b then x else f v)) ≡ (if b then y else f v)
    go true = refl
    go false = refl

-- the second change of one worker hides the first
pub worker-twice : (world : World) (w a b : ℕ) (g h : Option FrameSearch)
    → with_worker (with_worker world w a g) w b h ≡ with_worker world w b h
worker-twice world w a b g h = λ i. record {
  history = world.history;
  published = world.published;
  worker = λ v. put-twice world.worker w (record { last = a; frame_search = g })
      (record { last = b; frame_search = h }) v i;
  owner = world.owner;
}

-- ---- Trys

module _ (s : Setup) (world : World) (w : ℕ) (frame : Frame) (frame_search : FrameSearch)
    (some : nat_le s.workers w ≡ false) (busy : frame_search_of world w ≡ Some frame_search)
    (may : may_try s frame_search frame ≡ true) where
  allowed : (version : ℕ) → refusal_of s world version (Try w frame) ≡ None
  allowed version = rw (some, busy, may) refl

  -- the frame has an owner
  pub try-owned : (v : ℕ) → owner_of world frame ≡ Some v → answered_with s world (Try w frame)
      ≡ record {
        answer = Ok (goes_on s (frame_search_past frame frame_search));
        world =
            with_worker world w (last_of world w)
            (going_on s (frame_search_past frame frame_search));
      }
  try-owned v owned = rw (allowed (newest_published world), owned, busy) refl

  -- the frame is free
  pub try-free : owner_of world frame ≡ None → answered_with s world (Try w frame)
      ≡ record {
        answer = Ok (won_by s frame_search frame);
        world =
            with_worker (with_owner world frame (Some w)) w (last_of world w) None;
      }
  try-free free = rw (allowed (newest_published world), free, busy) refl

-- ---- the first free spot of a list

pub free-none : (s : Setup) (world : World) (nodes : List ℕ)
    → ((i : ℕ) → i < length nodes → lowest_free s world (slice_index nodes i) ≡ None)
    → first_free s world nodes ≡ None
free-none s world [] h = refl
free-none s world (n ∷ ns) h =
    rw (h 0 (omega arith), free-none s world ns (λ i low. h (suc i) (omega arith))) refl

pub free-some : (s : Setup) (world : World) (nodes : List ℕ) (rank : ℕ) (frame : Frame)
    → rank < length nodes → ((i : ℕ) → i < rank → lowest_free s world (slice_index nodes i) ≡ None)
    → lowest_free s world (slice_index nodes rank) ≡ Some frame
    → first_free s world nodes ≡ Some (record { frame = frame; rank = rank })
free-some s world [] rank frame low h is = absurd (omega arith)
free-some s world (n ∷ ns) zero frame low h is = rw is refl
free-some s world (n ∷ ns) (suc rank) frame low h is =
    let later : first_free s world ns ≡ Some (record { frame = frame; rank = rank }) =
    free-some s world ns rank frame (omega arith) (λ i low. h (suc i) (omega arith)) is in
    let up : rank + 1 ≡ suc rank = omega arith in
    rw (h 0 (omega arith), later) (ap (λ r. Some (record { frame = frame; rank = r })) up)
