-- What a trace is: accesses, and marks, each of which closes a phase. The newest step comes first.
use Rattle.std.specs.Prelude.{◌≡◌, ◌+◌, ◌-◌, ◌++◌, ◌||◌, ℕ, Bool, List, [], ◌∷◌, Option, None}
use Rattle.std.specs.Prelude.{Some, nat_lt}
use Rattle.numa_plan.specs.Meaning.{PlanData}
use Rattle.numa_traces.specs.Placing.{Frames}
use Rattle.numa_traces.specs.Replaying.{Replayed}
use Rattle.numa_traces.specs.Resting.{frames_over, tally_over}
use Rattle.numa_traces.specs.Tallies.{Route, Tallied, tally_at}
use Rattle.numa_traces.specs.declared.access.Access.{Access}
use Rattle.numa_traces.specs.declared.tallies.AccessCounts.{AccessCounts}

-- an access, or a mark with its text
pub data Step (X : Type 0) : Type 0 where
  Touches : X → Step X
  Closes : List ℕ → Step X

abbrev pub accesses_in : {X : Type 0} → List (Step X) → List X
accesses_in [] = []
accesses_in (Touches access ∷ steps) = access ∷ accesses_in steps
accesses_in (Closes text ∷ steps) = accesses_in steps

-- the marks of a trace, the first of them first: each is one with its text, after the accesses
-- before it
abbrev pub AreMarks : {X M : Type 0} → (List ℕ → List X → M → Type 0) → List (Step X) → List M
    → Type 0
AreMarks is_mark [] marks = marks ≡ []
AreMarks is_mark (Touches access ∷ steps) marks = AreMarks is_mark steps marks
AreMarks {M = M} is_mark (Closes text ∷ steps) marks = (before : List M) × (mark : M)
    × (marks ≡ before ++ (mark ∷ [])) × is_mark text (accesses_in steps) mark
    × AreMarks is_mark steps before

-- ---- of one process

-- a mark: its text, and how many accesses took which route up to it
pub record Marked : Type 0 where
  pub text : List ℕ
  pub tallies : Tallied

-- one that has this text, and follows these accesses
pub record IsMark (plan : PlanData) (there : ℕ → Option ℕ) (start : Frames) (text : List ℕ)
    (trace : List Access) (mark : Marked) : Type 0 where
  pub says : mark.text ≡ text
  pub tallies : (route : Route) → tally_at mark.tallies route
      ≡ tally_over plan there start trace route

-- what a trace meets from these frames on, where pages lie before it where `there` says
pub record IsTrace (plan : PlanData) (there : ℕ → Option ℕ) (start : Frames)
    (steps : List (Step Access)) (met : Replayed) (marks : List Marked) : Type 0 where
  pub frames : met.frames ≡ frames_over plan there start (accesses_in steps)
  pub tallies : (route : Route) → tally_at met.tallies route
      ≡ tally_over plan there start (accesses_in steps) route
  pub closes : AreMarks (IsMark plan there start) steps marks

-- what came to a route since it had other counts
abbrev pub since : AccessCounts → AccessCounts → AccessCounts
since before after = record {
  accesses = after.accesses - before.accesses;
  faults = after.faults - before.faults;
}

-- the same where a mark came before, and all of it where none did
abbrev pub part_since : Option Tallied → Route → AccessCounts → AccessCounts
part_since None route after = after
part_since (Some before) route after = since (tally_at before route) after

-- whether there are accesses or faults
abbrev pub has_counts : AccessCounts → Bool
has_counts counts = nat_lt 0 counts.accesses || nat_lt 0 counts.faults

-- what came since other counts, and these, are all
pub record AddsUp (before after : AccessCounts) : Type 0 where
  pub accesses : before.accesses + (since before after).accesses ≡ after.accesses
  pub faults : before.faults + (since before after).faults ≡ after.faults
