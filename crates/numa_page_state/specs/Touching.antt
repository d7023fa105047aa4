-- `populate`: a task touches the pages of a span for the first time, the lowest first, each that is
-- nowhere yet (madvise(2), MADV_POPULATE_WRITE).
use Rattle.std.specs.Prelude.{ℕ, ◌-◌, Option}
use Rattle.numa_space.specs.History.{page_of, page_count}
use Rattle.numa_placed.specs.Binds.{Asked, astray_pages, is_absent, is_kept, is_sent}
use Rattle.numa_placed.specs.Refusals.{populate_cause}
use Rattle.numa_placed.specs.Shifts.{stated_on}
use Rattle.numa_requests.specs.declared.page_refusal.PlacedRefusal.{PlacedRefusal}
use Rattle.numa_page_state.specs.Lying.{Arrival, Ground, Lying}
use Rattle.numa_page_state.specs.Outcomes.{Done, Lack, cause_by, done_with, unless_refused}
use Rattle.numa_page_state.specs.Sending.{goals_in, rooms_sent, sent_spots}

-- the pages of the span that are nowhere, and the nodes of each for a fault of the task on the node
abbrev pub touched_by : Ground → ℕ → ℕ → ℕ → ℕ → Asked
touched_by basis start bytes task cpu = record {
  first = page_of start;
  pages = page_count bytes;
  wants = is_absent basis.kept;
  nodes = basis.lists task cpu;
}

-- what is told of it
abbrev pub arrival_of : Asked → Lying → Arrival
arrival_of asked at = record {
  placed = astray_pages is_sent asked (goals_in asked at) at.spots;
  exhausted = astray_pages is_kept asked (goals_in asked at) at.spots;
  on = λ node. stated_on (sent_spots asked at) node - stated_on at.spots node;
}

-- the pages once they are there
abbrev pub with_touched : Asked → Lying → Lying
with_touched asked at = record at {
  spots = sent_spots asked at;
  room = rooms_sent asked at.spots at.room;
  arrived = arrival_of asked at;
}

abbrev pub touch_cause : Lack → Ground → ℕ → ℕ → ℕ → ℕ → Lying → Option PlacedRefusal
touch_cause lack basis start bytes task cpu at =
    cause_by lack (populate_cause basis.machine basis.mapped start bytes cpu)
    (sent_spots (touched_by basis start bytes task cpu) at)

abbrev pub populate_outcome : Lack → Ground → ℕ → ℕ → ℕ → ℕ → Lying
    → Done (Unit {0}) PlacedRefusal
populate_outcome lack basis start bytes task cpu at = unless_refused
    (touch_cause lack basis start bytes task cpu at) at
    (done_with (with_touched (touched_by basis start bytes task cpu) at))
