-- What a crew does: its workers take turns at the requests.
use Rattle.std.specs.Prelude.{◌≡◌, ℕ, zero, suc, ◌-◌, ◌<◌, ◌≤◌, ◌⊎◌, List, [], ◌∷◌, Result, Ok, Err}
use Rattle.std.specs.Prelude.{length, slice_index_or, slice_get, map, Some, ◌+◌, ◌++◌, ◌≢◌}
use Rattle.numa_requests.specs.declared.placement.Placement.{Placement}
use Rattle.numa_requests.specs.declared.request.Request.{Request}
use Rattle.numa_pool.specs.Frames.{times}
use Rattle.numa_pool.specs.Order.{AreAllSeats, HaveOrder}
use Rattle.numa_pool.specs.Seats.{PoolsView, SeatView}
use Rattle.numa_pool.specs.Steps.{no_other, one_split, past_of, split_off}
use Rattle.numa_publish.specs.Batches.{Extends}
use Rattle.numa_publish.specs.Shown.{ReaderState}
use Rattle.numa_requests.specs.declared.command.Command.{Command}
use Rattle.numa_pool.specs.declared.view.Past.{Past}
use Rattle.numa_fault.specs.Fault.{Faults}
use Rattle.numa_fault.specs.Worker.{Parts, WorkerState, parts_of}
use Rattle.numa_fault.specs.declared.answer.Answer.{Answer}
use Rattle.numa_fault.specs.declared.answer.Answer.TheVariants.{Placed, Refused}
use Rattle.numa_fault.specs.declared.refusal.FaultRefusal.{FaultRefusal}
use Rattle.numa_fault.specs.declared.crew.CrewRefusal.{CrewRefusal}
use Rattle.numa_fault.specs.declared.crew.CrewRefusal.TheVariants.{NoWorkers, NoMemory}

-- Every count-th entry of a list, from place w on: what falls to place w where so many take turns.
-- column 3 1 (a ∷ b ∷ c ∷ d ∷ e ∷ []) is b ∷ e ∷ []
abbrev pub column : {X : Type 0} → ℕ → ℕ → List X → List X
column count w [] = []
column count zero (x ∷ xs) = x ∷ column count (count - 1) xs
column count (suc w) (x ∷ xs) = column count w xs

-- the answer as the result of a fault
abbrev pub result_of : Answer → Result Placement FaultRefusal
result_of (Placed placement) = Ok placement
result_of (Refused refusal) = Err refusal

-- the answers are those of faults on the requests, one after the other
abbrev pub Serves : List ℕ → List Request → Parts → Parts → List Answer → Type 0
Serves frames [] before after [] = after ≡ before
Serves frames [] before after (a ∷ answers) = ⊥
Serves frames (r ∷ requests) before after [] = ⊥
Serves frames (r ∷ requests) before after (a ∷ answers) =
    (middle : Parts) × Faults frames r before middle (result_of a)
    × Serves frames requests middle after answers

-- each worker of a crew served what falls to its place: column w of the requests by column w of the
-- answers
abbrev pub ServesEach :
    List ℕ → List Request → List WorkerState → List WorkerState → List Answer → Type 0
ServesEach frames requests old new answers =
    (w : ℕ) (d : WorkerState) → w < length old
    → Serves frames (column (length old) w requests)
    (parts_of (slice_index_or old w d)) (parts_of (slice_index_or new w d))
    (column (length old) w answers)

-- each worker shows what it had before
abbrev pub SameParts : List WorkerState → List WorkerState → Type 0
SameParts old new =
    (w : ℕ) (d : WorkerState) → w < length old
    → parts_of (slice_index_or new w d) ≡ parts_of (slice_index_or old w d)

-- how often the seats of these workers together hold the frame
abbrev pub held_by : ℕ → ℕ → List WorkerState → ℕ
held_by n k [] = 0
held_by n k (w ∷ ws) = times n k w.seat.held + held_by n k ws

-- no frame belongs to two of these workers
abbrev pub AreApart : List WorkerState → Type 0
AreApart [] = Unit {0}
AreApart (w ∷ ws) = ((n k : ℕ) → 0 < times n k w.seat.held → held_by n k ws ≡ 0) × AreApart ws

-- no seat was joined into that of one of these workers
abbrev pub HaveNoPast : List WorkerState → Type 0
HaveNoPast [] = Unit {0}
HaveNoPast (w ∷ ws) = (w.seat.unlogged.past ≡ []) × HaveNoPast ws

-- what the seats of these workers did
abbrev pub pasts_by : List WorkerState → List Past
pasts_by workers = map (λ w. past_of w.seat.log w.seat.unlogged) workers

-- the seats of these workers were joined into one: no frame was held by two of them, and the seat
-- has all their frames, and tells what they did, the last worker's deeds as its own
pub record IsJoined (workers : List WorkerState) (seat : SeatView) : Type 0 where
  pub apart : AreApart workers
  pub held : (n k : ℕ) → times n k seat.held ≡ held_by n k workers
  pub pasts : HaveNoPast workers
      → seat.unlogged.past ++ past_of seat.log seat.unlogged ∷ [] ≡ pasts_by workers

-- The last of these workers has the first seat of some pools, and the others have all seats that
-- were split off it, in their order; no seat has made another step
pub record IsFirstCrew (workers : List WorkerState) : Type 0 where
  pub first : (w : ℕ) (d : WorkerState) → w + 1 ≡ length workers
      → ((slice_index_or workers w d).seat.unlogged.name ≡ [])
      × ((slice_index_or workers w d).seat.unlogged.splits ≡ w)
  pub others : (w : ℕ) (d : WorkerState) → w + 1 < length workers
      → ((slice_index_or workers w d).seat.unlogged.name ≡ w ∷ [])
      × ((slice_index_or workers w d).seat.unlogged.splits ≡ 0)
  pub past : (w : ℕ) (d : WorkerState) → w < length workers
      → (slice_index_or workers w d).seat.unlogged.past ≡ []
  pub logs : (w : ℕ) (d : WorkerState) → w < length workers
      → (slice_index_or workers w d).seat.log ≡ []

-- the worker has the seat with this number of those that were split off the first one; it has made
-- no step
pub record IsOther (pools : PoolsView) (number : ℕ) (worker : WorkerState) : Type 0 where
  pub of_table : worker.seat.table ≡ pools.table
  pub unlogged : worker.seat.unlogged ≡ split_off (record no_other { splits = number })
  pub log : worker.seat.log ≡ []

-- these workers have the seats that were split off this one, the first, which made no other step
pub record AreEnlisted (pools : PoolsView) (workers : List WorkerState)
    (seat : SeatView) : Type 0 where
  pub of_table : seat.table ≡ pools.table
  pub name : seat.unlogged.name ≡ []
  pub splits : seat.unlogged.splits ≡ length workers
  pub past : seat.unlogged.past ≡ []
  pub log : seat.log ≡ []
  pub each : (w : ℕ) (d : WorkerState) → w < length workers
      → IsOther pools w (slice_index_or workers w d)

-- one worker more, with this reader and a seat that was split off this one
pub record EnlistsOne
    (reader : ReaderState) (workers more : List WorkerState) (seat then_seat : SeatView) :
    Type 0 where
  pub worker : WorkerState
  pub added : more ≡ workers ++ worker ∷ []
  pub its_reader : worker.reader ≡ reader
  pub its_table : worker.seat.table ≡ seat.table
  pub its_log : worker.seat.log ≡ []
  pub its_rest : worker.seat.unlogged ≡ split_off seat.unlogged
  pub log : then_seat.log ≡ seat.log
  pub rest : then_seat.unlogged ≡ one_split seat.unlogged

-- no two of the answers place one frame
abbrev pub ArePlacedApart : List Answer → Type 0
ArePlacedApart answers =
    (i j : ℕ) (p q : Placement) → i < j → slice_get answers i ≡ Some (Placed p)
    → slice_get answers j ≡ Some (Placed q) → p.frame ≢ q.frame

-- a crew has 1 to 16 workers
abbrev pub IsCrew : ℕ → Type 0
IsCrew count = (0 < count) × (count ≤ 16)

-- a crew served these requests, its seats were joined, and then the pools ended: there is one order
-- of all steps, of which what its seats did are parts; of all seats where they are
pub record IsEnded
    (frames : List ℕ) (requests : List Request) (before : List WorkerState)
    (answers : List Answer) (taken : List ℕ) : Type 0 where
  pub crew : IsCrew (length before)
  pub after : List WorkerState
  pub many : length after ≡ length before
  pub served : ServesEach frames requests before after answers
  pub its : Past
  pub others : List Past
  pub order : HaveOrder frames (its ∷ others) taken
  pub pasts : IsFirstCrew before → others ++ its ∷ [] ≡ pasts_by after
  pub all_seats : IsFirstCrew before → AreAllSeats (its ∷ others)

-- These workers had the seats of a crew that ended so, whatever it was that they served
abbrev pub AreAtEnd : List ℕ → List WorkerState → List ℕ → Type 0
AreAtEnd frames workers taken =
    (requests : List Request) (before : List WorkerState) (answers : List Answer)
    → IsCrew (length before) → length workers ≡ length before
    → ServesEach frames requests before workers answers
    → (ended : IsEnded frames requests before answers taken) × (ended.after ≡ workers)

-- all that these workers have seen or learnt is behind this history, and so are its versions
-- behind these
abbrev pub AreWithin : List Command → List ℕ → List WorkerState → Type 0
AreWithin history versions workers =
    (w : ℕ) (d : WorkerState) → w < length workers
    → Extends (slice_index_or workers w d).reader.history history
    × Extends (slice_index_or workers w d).reader.versions versions

-- why a crew of so many did not run
abbrev pub CrewRefuses : ℕ → CrewRefusal → Type 0
CrewRefuses count NoWorkers = (count ≡ 0) ⊎ (16 < count)
CrewRefuses count NoMemory = IsCrew count
