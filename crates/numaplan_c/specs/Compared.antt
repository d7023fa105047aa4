-- What exported calls about two cores, and lists of structs, answer.
use Rattle.std.specs.Prelude.{◌≡◌, ℕ, List, Option, Some, None, Result, Ok, Err}
use Rattle.numa_reports.specs.declared.differences.SpanMove.{SpanMove}
use Rattle.numa_reports.specs.declared.fault.ReportError.{ReportError}
use Rattle.numa_traces.specs.declared.fault.ReplayError.{ReplayError}
use Rattle.numa_traces.specs.declared.fault.ReplayError.TheVariants as fault
use Rattle.numa_traces.specs.declared.routes.RouteCounts.{RouteCounts}
use Rattle.numaplan_handles.specs.Room.{Copies}
use Rattle.numaplan_c.specs.Predictions.{fault_code}
use Rattle.numaplan_c.specs.Texts.{copy_code, length_copied}

-- a question about two handles leaves what they keep as it was, and `told` says what is told of
-- it; where one is closed, 1 is answered, and nothing is told, which is `untold`
abbrev pub AskedBoth : {A : Type 0} → Option A → Option A → Option A → Option A → ℕ → Type 0
    → (A → A → Type 0) → Type 0
AskedBoth {A} one other one_then other_then code untold told = (one_then ≡ one)
    × (other_then ≡ other) × (one ≡ None → (code ≡ 1) × untold)
    × (other ≡ None → (code ≡ 1) × untold)
    × ((kept kept' : A) → one ≡ Some kept → other ≡ Some kept' → told kept kept')

-- the items are at the beginning of the room, or there was no room for them; how many they are is
-- returned
abbrev pub IsListed : {A : Type 0} → List A → ℕ → List A → List A → ℕ → Type 0
IsListed items code old new count = (told : Result ℕ ℕ) × (code ≡ copy_code told)
    × (count ≡ length_copied told) × Copies items told old new

-- moves are told; where they are refused, what stood there stays
abbrev pub TellsMoves : Result (List SpanMove) ReportError → ℕ → List SpanMove → List SpanMove
    → ℕ → ℕ → Type 0
TellsMoves (Ok moves) code old new count count_then = IsListed moves code old new count_then
TellsMoves (Err why) code old new count count_then =
    (code ≡ fault_code why) × (new ≡ old) × (count_then ≡ count)

-- why a trace can't be replayed; an access that is refused has a place
abbrev pub ended_code : ReplayError → ℕ
ended_code (fault.Malformed why) = 81
ended_code fault.Unnamed = 81
ended_code fault.WantsRoom = 81
ended_code fault.ByRange = 81
ended_code fault.Drawn = 81
ended_code fault.Huge = 81
ended_code fault.TooManyRuns = 81
ended_code fault.Named = 81
ended_code fault.NoProcess = 81
ended_code (fault.Refused cause) = 81
ended_code fault.TooMany = 81
ended_code fault.NoMemory = 3

-- the place is told, where it is that of an access
abbrev pub place_told : ReplayError → ℕ → ℕ → ℕ
place_told (fault.Malformed why) place before = place
place_told fault.Unnamed place before = place
place_told fault.WantsRoom place before = place
place_told fault.ByRange place before = place
place_told fault.Drawn place before = place
place_told fault.Huge place before = place
place_told fault.TooManyRuns place before = place
place_told fault.Named place before = place
place_told fault.NoProcess place before = place
place_told (fault.Refused cause) place before = place
place_told fault.TooMany place before = place
place_told fault.NoMemory place before = before

-- routes are told, or the place of the first access that can't be replayed
abbrev pub TellsRoutes : Result (List RouteCounts) (ℕ × ReplayError) → ℕ → List RouteCounts
    → List RouteCounts → ℕ → ℕ → Type 0
TellsRoutes (Ok routes) code old new count count_then = IsListed routes code old new count_then
TellsRoutes (Err ended) code old new count count_then = (code ≡ ended_code ended.1) × (new ≡ old)
    × (count_then ≡ place_told ended.1 ended.0 count)
