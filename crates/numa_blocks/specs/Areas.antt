-- Which area has a page: the pages in a row around it with consecutive indexes, one policy and one
-- advice.
use Rattle.std.specs.Prelude.{◌≡◌, ℕ, ◌+◌, ◌-◌, ◌<◌, ◌≤◌, Bool, true, false, ◌&&◌, Option, Some}
use Rattle.std.specs.Prelude.{max, min}
use Rattle.numa_ranges.specs.Counts.{goes_on}
use Rattle.numa_ranges.specs.Runs.{end_of}
use Rattle.numa_ranges.specs.declared.run.Run.{Run}
use Rattle.numa_blocks.specs.declared.area.Area.{Area}
use Rattle.numa_blocks.specs.declared.area.Advised.{Advised}
use Rattle.numa_blocks.specs.declared.settings.Advice.{Advice}
use Rattle.numa_blocks.specs.declared.settings.Advice.TheVariants.{Neither, Huge, NoHuge}

abbrev pub same_advice : Advice → Advice → Bool
same_advice Neither Neither = true
same_advice Huge Huge = true
same_advice NoHuge NoHuge = true
same_advice _ _ = false

-- whether a page continues the page before it: it does by its index and its policy, and the advice
-- is one
abbrev pub goes_on_at : {T : Type 0} → (T → T → Bool) → (ℕ → Option (ℕ × T)) → (ℕ → Advice) → ℕ
    → Bool
goes_on_at same at advice page = goes_on same (at (page - 1)) (at page)
    && same_advice (advice (page - 1)) (advice page)

-- the area: of its pages each but the first continues the one before it, the first doesn't, and
-- neither does the page behind the last
pub record IsArea {T : Type 0} (same : T → T → Bool) (at : ℕ → Option (ℕ × T)) (advice : ℕ → Advice)
    (area : Area) (value : T) : Type 0 where
  pub some : 0 < area.pages
  pub pages : (page : ℕ) → area.first ≤ page → page < area.first + area.pages
      → at page ≡ Some (area.index + (page - area.first), value)
  pub advised : (page : ℕ) → area.first ≤ page → page < area.first + area.pages
      → advice page ≡ area.advice
  pub begins : 0 < area.first → goes_on_at same at advice area.first ≡ false
  pub ends : goes_on_at same at advice (area.first + area.pages) ≡ false

-- pages in a row with one advice, as many as there are
pub record IsAdvised (advice : ℕ → Advice) (row : Advised) : Type 0 where
  pub some : row.first < row.end
  pub pages : (page : ℕ) → row.first ≤ page → page < row.end → advice page ≡ row.advice
  pub begins : 0 < row.first → same_advice (advice (row.first - 1)) (advice row.first) ≡ false
  pub ends : same_advice (advice (row.end - 1)) (advice row.end) ≡ false

-- what a range of a space and a row of pages with one advice have in common
abbrev pub common_area : {T : Type 0} → Run T → Advised → Area
common_area run row = record {
  first = max run.first row.first;
  pages = min (end_of run) row.end - max run.first row.first;
  index = run.index + (max run.first row.first - run.first);
  advice = row.advice;
}
