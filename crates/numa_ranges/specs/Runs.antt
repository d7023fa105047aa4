-- Runs of mapped pages, and what a list of them says of each page.
use Rattle.std.specs.Prelude.{◌≡◌, ℕ, ◌+◌, ◌-◌, ◌<◌, ◌≤◌, ◌^◌, ◌&&◌, Bool, Option, Some, None, List}
use Rattle.std.specs.Prelude.{[], ◌∷◌, nat_lt, nat_le, if◌then◌else◌}
use Rattle.numa_ranges.specs.declared.run.Run.{Run}

-- whether a page is among the pages from `first` on
abbrev pub in_pages : ℕ → ℕ → ℕ → Bool
in_pages first pages page = nat_le first page && nat_lt page (first + pages)

-- the page after a run's last
abbrev pub end_of : {T : Type 0} → Run T → ℕ
end_of run = run.first + run.pages

-- the index and the value of a page, where a run has it
abbrev pub page_at : {T : Type 0} → List (Run T) → ℕ → Option (ℕ × T)
page_at [] page = None
page_at (run ∷ runs) page = if in_pages run.first run.pages page
    then Some (run.index + (page - run.first), run.value) else page_at runs page

-- the runs rise, begin at `from` or later and are apart; each has a page, and ends below the last
-- page and index
abbrev pub AreApart : {T : Type 0} → ℕ → List (Run T) → Type 0
AreApart from [] = from ≤ 2 ^ 35
AreApart from (run ∷ runs) = (from ≤ run.first) × (0 < run.pages) × (run.index + run.pages ≤ 2 ^ 48)
    × AreApart (end_of run) runs

-- the second run begins where the first ends, with the next index and the same value
pub record Continues {T : Type 0} (run next : Run T) : Type 0 where
  pub page : next.first ≡ end_of run
  pub index : next.index ≡ run.index + run.pages
  pub value : next.value ≡ run.value

-- the first of these runs, if there is one, does not continue a run
abbrev pub NotContinued : {T : Type 0} → Run T → List (Run T) → Type 0
NotContinued run [] = Unit {0}
NotContinued run (next ∷ runs) = Continues run next → ⊥

-- no run continues the one before it
abbrev pub AreMaximal : {T : Type 0} → List (Run T) → Type 0
AreMaximal [] = Unit {0}
AreMaximal (run ∷ runs) = NotContinued run runs × AreMaximal runs
