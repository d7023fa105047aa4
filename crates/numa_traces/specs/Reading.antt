-- A trace that is read and replayed, line by line, up to the first that can't be.
use Rattle.std.specs.Prelude.{◌≡◌, ℕ, List, MatchOption}
use Rattle.numa_traces.specs.declared.fault.ReplayError.{ReplayError}
use Rattle.numa_traces.specs.declared.reading.Replaying.{Replaying}

-- the next line, with this number, was replayed, or is the first that can't be
abbrev pub TakesLine : {R : Type 0} → (List ℕ → R → R → Type 0)
    → (List ℕ → R → ReplayError → Type 0) → ℕ → List ℕ → Replaying R → Replaying R → Type 0
TakesLine replays ends place line old new = MatchOption new.fault
    (replays line old.replay new.replay)
    (λ ended. (ended.0 ≡ place) × ends line old.replay ended.1)
