-- What the steps of others leave of a worker, and of the tie.
use Rattle.std.proofs.Common.{◌≡◌, ◌≢◌, ℕ, Bool, Option, Some, None, Result, Ok, Err, refl, sym, ap}
use Rattle.std.proofs.Common.{◌∙◌, ne_eqb, if◌then◌else◌}
use Rattle.numa_core.specs.World.{Setup, FrameSearch, World, owner_of}
use Rattle.numa_core.specs.Steps.{effect_of, with_owner, with_worker, world_after}
use Rattle.numa_core.specs.Executions.{worker_of}
use Rattle.numa_requests.specs.declared.event.CoreRefusal.{CoreRefusal}
use Rattle.numa_requests.specs.declared.event.Event.{Event}
use Rattle.numa_requests.specs.declared.event.Event.TheVariants.{Accept, Publish, Begin, Seek}
use Rattle.numa_requests.specs.declared.event.Event.TheVariants.{Look, Try, Give}
use Rattle.numa_requests.specs.declared.event.CoreReply.{CoreReply}
use Rattle.numa_refinement.specs.Moves.{PoolState}
use Rattle.numa_refinement.specs.Tie.{IsTied}

pub desk : (s : Setup) (world : World) (version : ℕ) (event : Event)
    (answer : Result CoreReply CoreRefusal) (w : ℕ) → worker_of event ≡ None
    → (world_after s world version event answer).worker w ≡ world.worker w
desk s world version event (Err refusal) w none = refl
desk s world version (Accept command) (Ok reply) w none = refl
desk s world version Publish (Ok reply) w none = refl
desk s world version (Begin v request) (Ok reply) w none = absurd (cc)
desk s world version (Seek v node) (Ok reply) w none = absurd (cc)
desk s world version (Look v word) (Ok reply) w none = absurd (cc)
desk s world version (Try v frame) (Ok reply) w none = absurd (cc)
desk s world version (Give v frame) (Ok reply) w none = absurd (cc)

-- another worker's change
pub other : (world : World) (v w last : ℕ) (o : Option FrameSearch) → v ≢ w
    → (with_worker world v last o).worker w ≡ world.worker w
other world v w last o apart =
    ap (λ (b : Bool). if b then (record { last = last; frame_search = o }) else world.worker w)
    (ne_eqb v w apart)

same-worker : (a v w : ℕ) → ◌≡◌ {A = Option ℕ} (Some a) (Some v) → v ≢ w → a ≢ w
same-worker a v w e apart same = apart (let is : a ≡ v = cc in sym is ∙ same)

pub workers : (s : Setup) (world : World) (version : ℕ) (event : Event)
    (answer : Result CoreReply CoreRefusal) (v w : ℕ) → worker_of event ≡ Some v → v ≢ w
    → (world_after s world version event answer).worker w ≡ world.worker w
workers s world version event (Err refusal) v w of apart = refl
workers s world version (Accept command) (Ok reply) v w of apart = refl
workers s world version Publish (Ok reply) v w of apart = refl
workers s world version (Begin a request) (Ok reply) v w of apart =
    other world a w version _ (same-worker a v w of apart)
workers s world version (Seek a node) (Ok reply) v w of apart =
    other world a w version _ (same-worker a v w of apart)
workers s world version (Look a word) (Ok reply) v w of apart =
    other world a w (world.worker a).last _ (same-worker a v w of apart)
workers s world version (Give a frame) (Ok reply) v w of apart = refl
workers s world version (Try a frame) (Ok reply) v w of apart = go (owner_of world frame) refl
  where
    go : (o : Option ℕ) → owner_of world frame ≡ o
        → (effect_of s world version (Try a frame)).worker w ≡ world.worker w
    go (Some u) is = rw is (other world a w (world.worker a).last _ (same-worker a v w of apart))
    go None is =
        rw is (other (with_owner world frame (Some a)) a w (world.worker a).last None
        (same-worker a v w of apart))

pub tied : (s : Setup) (world : World) (version : ℕ) (event : Event)
    (answer : Result CoreReply CoreRefusal) (state : PoolState) → worker_of event ≡ None
    → IsTied s world state
    → IsTied s (world_after s world version event answer) state
tied s world version event (Err refusal) state none tie = tie
tied s world version (Accept command) (Ok reply) state none tie =
    record { few = tie.few; rule = tie.rule; owners = tie.owners; workers = tie.workers }
tied s world version Publish (Ok reply) state none tie =
    record { few = tie.few; rule = tie.rule; owners = tie.owners; workers = tie.workers }
tied s world version (Begin v request) (Ok reply) state none tie = absurd (cc)
tied s world version (Seek v node) (Ok reply) state none tie = absurd (cc)
tied s world version (Look v word) (Ok reply) state none tie = absurd (cc)
tied s world version (Try v frame) (Ok reply) state none tie = absurd (cc)
tied s world version (Give v frame) (Ok reply) state none tie = absurd (cc)
