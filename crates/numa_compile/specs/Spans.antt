-- What the history says of a span of pages.
use Rattle.std.specs.Prelude.{◌≡◌, ℕ, ◌+◌, ◌<◌, ◌≤◌, ◌==◌, ◌&&◌, false, List, slice_index}
use Rattle.numa_machine.specs.Machine.{Hardware}
use Rattle.numa_ranges.specs.Counts.{count_pages}
use Rattle.numa_space.specs.Lists.{node_list}
use Rattle.numa_space.specs.Pages.{is_mapped}
use Rattle.numa_requests.specs.declared.command.Command.{Command}
use Rattle.numa_machine.specs.declared.refusal.PlaceRefusal.{PlaceRefusal}
use Rattle.numa_machine.specs.declared.refusal.PlaceRefusal.TheVariants.{BadCpu, Unmapped}

-- the first node of the fallback list
abbrev pub first_node : Hardware → List Command → ℕ → ℕ → ℕ → ℕ
first_node machine history task page cpu = slice_index (node_list machine history task page cpu) 0

-- how many pages of a span are mapped and have this node as the first of their fallback list
abbrev pub meant_count : Hardware → List Command → ℕ → ℕ → ℕ → ℕ → ℕ → ℕ
meant_count machine history task first pages cpu node =
    count_pages (λ page. is_mapped history page
    && (first_node machine history task page cpu == node)) first pages

-- a page of the span isn't mapped
abbrev pub HasUnmapped : List Command → ℕ → ℕ → Type 0
HasUnmapped history first pages = (page : ℕ) × (first ≤ page) × (page < first + pages)
    × (is_mapped history page ≡ false)

-- a refusal of the pages from `first` on: the faulting node is none of the machine's, or else a
-- page isn't mapped
abbrev pub SpanIsRefused : Hardware → List Command → ℕ → ℕ → ℕ → PlaceRefusal → Type 0
SpanIsRefused machine history first pages cpu BadCpu = machine.nodes ≤ cpu
SpanIsRefused machine history first pages cpu Unmapped =
    (cpu < machine.nodes) × HasUnmapped history first pages
