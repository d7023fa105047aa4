-- The pages of a range, and what periods of them take of each node.
use Rattle.std.specs.Prelude.{◌≡◌, ◌⊎◌, ℕ, ◌+◌, ◌-◌, ◌*◌, ◌<◌, ◌≤◌, Option, Some, List}
use Rattle.std.specs.Prelude.{slice_index}
use Rattle.numa_mode.specs.Policy.{PolicyRecord}
use Rattle.numa_ranges.specs.Runs.{page_at}
use Rattle.numa_ranges.specs.declared.run.Run.{Run}

-- the pages of a range, as all ranges have them: rising indexes, and its value
abbrev pub HasPages : List (Run (Option PolicyRecord)) → Run (Option PolicyRecord) → Type 0
HasPages ranges range = (page : ℕ) → range.first ≤ page → page < range.first + range.pages
    → page_at ranges page ≡ Some (range.index + (page - range.first), range.value)

-- a node that a period left with so many free pages, of those before it, has one left when it gave
-- as many so many times more; or it gives none
abbrev pub Lasts : ℕ → ℕ → ℕ → Type 0
Lasts before after times =
    (times * (before - after) ≡ 0) ⊎ (times * (before - after) < after)

-- each node does
abbrev pub AllLast : List ℕ → List ℕ → ℕ → Type 0
AllLast before after times = (node : ℕ) → node < 256
    → Lasts (slice_index before node) (slice_index after node) times

-- what each node has left of what is free after a period, once it gave as many so many times more
abbrev pub AreLeftBehind : List ℕ → List ℕ → ℕ → List ℕ → Type 0
AreLeftBehind before after times left = (node : ℕ) → node < 256 → slice_index left node
    ≡ slice_index after node - times * (slice_index before node - slice_index after node)
