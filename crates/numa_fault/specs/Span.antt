-- What a fault on a span of pages does.
use Rattle.std.specs.Prelude.{◌≡◌, ℕ, ◌+◌, ◌<◌, ◌++◌, List, [], ◌∷◌, length, Result, Ok, Err}
use Rattle.numa_compile.specs.Spans.{SpanIsRefused}
use Rattle.numa_requests.specs.declared.placement.Placement.{Placement}
use Rattle.numa_requests.specs.declared.request.Request.{Request}
use Rattle.numa_machine.specs.Machine.{Hardware}
use Rattle.numa_pool.specs.Seats.{SeatView}
use Rattle.numa_publish.specs.Spans.{SpanStands}
use Rattle.numa_requests.specs.declared.command.Command.{Command}
use Rattle.numa_machine.specs.declared.refusal.PlaceRefusal.{PlaceRefusal}
use Rattle.numa_machine.specs.declared.refusal.PlaceRefusal.TheVariants.{BadCpu as cpu_is_bad}
use Rattle.numa_machine.specs.declared.refusal.PlaceRefusal.TheVariants.{Unmapped as is_unmapped}
use Rattle.numa_fault.specs.Fault.{FindsNone, LetsIn, Places, refused_once}
use Rattle.numa_fault.specs.Worker.{Parts}
use Rattle.numa_fault.specs.declared.refusal.SpanRefusal.{SpanRefusal}
use Rattle.numa_fault.specs.declared.refusal.SpanRefusal.TheVariants.{NoView, BadCpu, Unmapped}
use Rattle.numa_fault.specs.declared.refusal.SpanRefusal.TheVariants.{Exhausted, NoMemory}
use Rattle.numa_fault.specs.declared.span.Span.{Span}

-- the request for the page that comes k pages behind the first
abbrev pub request_at : Span → ℕ → Request
request_at span k = record { task = span.task; page = span.first + k; cpu = span.cpu }

-- nothing refuses the span: its cpu is a node of the machine, and each of its pages is mapped
abbrev pub Stands : Hardware → List Command → Span → Type 0
Stands machine history span = SpanStands machine history span.first span.pages span.cpu

-- why the span is refused: its cpu is none of the machine's nodes, or else some page isn't mapped
abbrev pub IsRefused : Hardware → List Command → Span → PlaceRefusal → Type 0
IsRefused machine history span refusal =
    SpanIsRefused machine history span.first span.pages span.cpu refusal

module _ (frames : List ℕ) (machine : Hardware) (history : List Command) (span : Span) where
  -- the span's pages from the k-th on are placed one after the other, the first as the first of
  -- these placements
  abbrev pub PlacesEach : ℕ → SeatView → SeatView → List Placement → Type 0
  PlacesEach k before after [] = after ≡ before
  PlacesEach k before after (p ∷ ps) =
      (middle : SeatView) × Places frames machine history (request_at span k) p before middle
      × PlacesEach (k + 1) middle after ps

  -- for the k-th page each frame of each node of its list was found taken
  abbrev pub StopsAt : ℕ → SeatView → SeatView → Type 0
  StopsAt k before after =
      FindsNone frames machine history (request_at span k) (length history) before after

  -- each page was placed
  abbrev pub PlacesAll : SeatView → SeatView → List Placement → Type 0
  PlacesAll before after ps = PlacesEach 0 before after ps × (length ps ≡ span.pages)

  -- so many pages were placed, which are not all, and for the next one no frame was found
  abbrev pub PlacesSome : ℕ → SeatView → SeatView → List Placement → Type 0
  PlacesSome done before after ps =
      (middle : SeatView) × PlacesEach 0 before middle ps × (length ps ≡ done)
      × (done < span.pages) × StopsAt done middle after

  -- the span is served by this history: what the seat does, what the list of placements gains, and
  -- what is answered
  abbrev pub SpanIsServed :
      SeatView → SeatView → List Placement → List Placement → Result ℕ SpanRefusal → Type 0
  SpanIsServed before after old new (Ok version) =
      Stands machine history span × (version ≡ length history)
      × ((ps : List Placement) × (new ≡ old ++ ps) × PlacesAll before after ps)
  SpanIsServed before after old new (Err NoView) = ⊥
  SpanIsServed before after old new (Err BadCpu) =
      IsRefused machine history span cpu_is_bad × (after ≡ before) × (new ≡ old)
  SpanIsServed before after old new (Err (Unmapped version)) =
      IsRefused machine history span is_unmapped × (version ≡ length history)
      × (after ≡ before) × (new ≡ old)
  SpanIsServed before after old new (Err (Exhausted version done)) =
      Stands machine history span × (version ≡ length history)
      × ((ps : List Placement) × (new ≡ old ++ ps) × PlacesSome done before after ps)
  SpanIsServed before after old new (Err NoMemory) =
      Stands machine history span × (after ≡ before) × (new ≡ old)

module _ (frames : List ℕ) (span : Span) (before after : Parts) (old new : List Placement) where
  -- the worker was let in, and the span is served by what it sees now
  abbrev pub SpanIsServedInside : Result ℕ SpanRefusal → Type 0
  SpanIsServedInside answer =
      LetsIn before.reader after.reader
      × SpanIsServed frames after.reader.desk.machine after.reader.history span
      before.seat after.seat old new answer

  -- a fault on a span: either its entry was refused, and nothing else happened; or it was let in
  -- and served
  abbrev pub FaultsOnSpan : Result ℕ SpanRefusal → Type 0
  FaultsOnSpan (Err NoView) =
      (after ≡ record before { reader = refused_once before.reader }) × (new ≡ old)
  FaultsOnSpan (Ok version) = SpanIsServedInside (Ok version)
  FaultsOnSpan (Err BadCpu) = SpanIsServedInside (Err BadCpu)
  FaultsOnSpan (Err (Unmapped version)) = SpanIsServedInside (Err (Unmapped version))
  FaultsOnSpan (Err (Exhausted version done)) = SpanIsServedInside (Err (Exhausted version done))
  FaultsOnSpan (Err NoMemory) = SpanIsServedInside (Err NoMemory)
