-- A crew whose pools came to their end, and the core's execution that it was.
use Rattle.std.specs.Prelude.{◌≡◌, ◌⊎◌, ℕ, ◌<◌, ◌%◌, true, List, [], ◌∷◌, length, Some}
use Rattle.std.specs.Prelude.{slice_get, slice_index, slice_index_or}
use Rattle.numa_requests.specs.declared.event.Event.{Event}
use Rattle.numa_requests.specs.declared.event.Event.TheVariants.{Accept, Publish, Begin, Seek}
use Rattle.numa_requests.specs.declared.event.Event.TheVariants.{Look, Try, Give}
use Rattle.numa_requests.specs.declared.placement.Placement.{Placement}
use Rattle.numa_requests.specs.declared.request.Request.{Request}
use Rattle.numa_core.specs.World.{Setup, World, is_published}
use Rattle.numa_core.specs.Executions.{CoreStep, world_of}
use Rattle.numa_pool.specs.declared.view.Past.{Past}
use Rattle.numa_publish.specs.Batches.{Extends}
use Rattle.numa_machine.specs.Machine.{Hardware}
use Rattle.numa_fault.specs.Crew.{IsCrew, IsEnded, ServesEach, pasts_by}
use Rattle.numa_fault.specs.Told.{version_at}
use Rattle.numa_fault.specs.Worker.{WorkerState}
use Rattle.numa_fault.specs.declared.answer.Answer.{Answer}
use Rattle.numa_fault.specs.declared.answer.Answer.TheVariants.{Placed, Refused}
use Rattle.numa_fault.specs.declared.refusal.FaultRefusal.TheVariants.{Exhausted}
use Rattle.numa_refinement.specs.Agendas.{HasExhausted, HasWon, IsBare}
use Rattle.numa_refinement.specs.Moves.{PoolState}
use Rattle.numa_refinement.specs.Plays.{Deed, makes_step, splits, has_event, Done}

-- a crew of workers for this machine, whose seats had made no step, served these requests, and then
-- this is what their seats had done
pub record IsRun
    (s : Setup) (requests : List Request) (before after : List WorkerState)
    (answers : List Answer) (pasts : List Past) : Type 0 where
  pub crew : IsCrew (length before)
  pub many : length after ≡ length before
  pub served : ServesEach s.machine.frames requests before after answers
  pub fresh : (w : ℕ) (d : WorkerState) → w < length before
      → (slice_index_or before w d).seat.log ≡ []
  pub machine : (w : ℕ) (d : WorkerState) → w < length before
      → (slice_index_or before w d).reader.desk.machine ≡ s.machine
  pub its_pasts : pasts ≡ pasts_by after

-- these workers are of this machine
abbrev pub AreOf : Hardware → List WorkerState → Type 0
AreOf machine workers = (w : ℕ) (d : WorkerState) → w < length workers
    → (slice_index_or workers w d).reader.desk.machine ≡ machine

-- the words that the pools began with, and how many seats there were at their end
abbrev pub first_words : {frames : List ℕ} {requests : List Request} {before : List WorkerState}
    {answers : List Answer} {taken : List ℕ}
    → IsEnded frames requests before answers taken → List ℕ
first_words ended = ended.order.1.first

abbrev pub seats_in : {frames : List ℕ} {requests : List Request} {before : List WorkerState}
    {answers : List Answer} {taken : List ℕ}
    → IsEnded frames requests before answers taken → ℕ
seats_in ended = ended.order.1.count

-- what the workers saw is published in the world: each version that an answer tells, and its
-- commands
pub record IsSeenIn (world : World) (workers : List WorkerState) (answers : List Answer) :
    Type 0 where
  pub commands : (w : ℕ) (d : WorkerState) → w < length workers
      → Extends (slice_index_or workers w d).reader.history world.history
  pub versions : (i version : ℕ) → version_at answers i ≡ Some version
      → is_published world version ≡ true

-- the event is a command or a publication
abbrev pub IsDesks : Event → Type 0
IsDesks (Accept command) = Unit {0}
IsDesks Publish = Unit {0}
IsDesks (Begin w request) = ⊥
IsDesks (Seek w node) = ⊥
IsDesks (Look w word) = ⊥
IsDesks (Try w frame) = ⊥
IsDesks (Give w frame) = ⊥

abbrev pub IsEarly : Deed → Type 0
IsEarly (makes_step id e) = ⊥
IsEarly (splits id) = Unit {0}
IsEarly (has_event version event) = IsDesks event

-- nothing but commands, publications and splits
abbrev pub AreEarly : List Done → Type 0
AreEarly [] = Unit {0}
AreEarly (d ∷ done) = AreEarly done × IsEarly d.deed

-- all of these events are
abbrev pub AreDesks : List Event → Type 0
AreDesks [] = Unit {0}
AreDesks (e ∷ events) = AreDesks events × IsDesks e

-- these events of a desk, of pools that stay so meanwhile
abbrev pub calls_at : PoolState → List Event → List Done
calls_at pools [] = []
calls_at pools (e ∷ events) =
    record { deed = has_event 0 e; pools = pools } ∷ calls_at pools events

-- In this execution of so many workers each answer is its worker's, which has the number of its
-- seat: each placement is won, and each list that an answer tells exhausted is exhausted. No step
-- is known of a list none of whose nodes has a frame
pub record AreAnswered
    (s : Setup) (past : List CoreStep) (seats : List ℕ) (requests : List Request)
    (answers : List Answer) (count : ℕ) : Type 0 where
  pub won : (i : ℕ) (p : Placement) → slice_get answers i ≡ Some (Placed p)
      → HasWon past (slice_index seats (i % count)) p
  pub exhausted : (i version : ℕ) → slice_get answers i ≡ Some (Refused (Exhausted version))
      → HasExhausted past (slice_index seats (i % count)) version
      ⊎ ((request : Request) × (slice_get requests i ≡ Some request)
      × IsBare s (world_of s past).history version request)
