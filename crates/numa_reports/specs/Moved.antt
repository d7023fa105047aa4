-- How many pages go from one node to another, once commands are added.
use Rattle.std.specs.Prelude.{◌≡◌, ℕ, ◌+◌, ◌*◌, ◌<◌, ◌^◌, ◌==◌, ◌&&◌, Bool}
use Rattle.std.specs.Prelude.{List, length, slice_index}
use Rattle.numa_machine.specs.Machine.{Hardware}
use Rattle.numa_ranges.specs.Counts.{count_pages}
use Rattle.numa_plan.specs.Meaning.{PlanData, is_number, planned_first}
use Rattle.numa_space.specs.Pages.{is_mapped}
use Rattle.numa_requests.specs.declared.command.Command.{Command}
use Rattle.numa_compile.specs.Spans.{first_node}

-- a table of 256 rows of 256: the pages from a node to another
abbrev pub moves_in : List ℕ → ℕ → ℕ → ℕ
moves_in table from to = slice_index table (from * 256 + to)

-- in how many places the first list has the one node, and the second the other
abbrev pub pairs : List ℕ → List ℕ → ℕ → ℕ → ℕ
pairs before after from to = count_pages
    (λ k. (slice_index before k == from) && (slice_index after k == to)) 0 (length before)

-- how many pages of a span have the one node as the first of their list by the first plan, and the
-- other by the second
abbrev pub planned_moves : PlanData → PlanData → ℕ → ℕ → ℕ → ℕ → ℕ → ℕ → ℕ
planned_moves before after task first pages cpu from to =
    count_pages (λ page. is_number from (planned_first before task page cpu)
    && is_number to (planned_first after task page cpu)) first pages

-- the page is mapped, and has the node as the first of its fallback list
abbrev pub goes_to : Hardware → List Command → ℕ → ℕ → ℕ → ℕ → Bool
goes_to machine history task cpu node page =
    is_mapped history page && (first_node machine history task page cpu == node)

-- how many pages of a span are mapped before and after, and go from the one node to the other
abbrev pub meant_moves : Hardware → List Command → List Command → ℕ → ℕ → ℕ → ℕ → ℕ → ℕ → ℕ
meant_moves machine before after task first pages cpu from to =
    count_pages (λ page. goes_to machine before task cpu from page
    && goes_to machine after task cpu to page) first pages

-- each entry of the table has this many more pages
abbrev pub AddsMoves : List ℕ → List ℕ → (ℕ → ℕ → ℕ) → Type 0
AddsMoves old new more = (from to : ℕ) → from < 256 → to < 256
    → moves_in new from to ≡ moves_in old from to + more from to

-- a table, each entry with room for this many more pages
pub record HasRoomFor (table : List ℕ) (pages : ℕ) : Type 0 where
  pub entries : length table ≡ 65536
  pub room : (from to : ℕ) → from < 256 → to < 256 → moves_in table from to + pages < 2 ^ 64
