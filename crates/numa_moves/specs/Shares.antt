-- Of each span of pages, how many lie on each node.
use Rattle.std.specs.Prelude.{ℕ, zero, suc, ◌+◌, ◌==◌, ◌++◌, List, [], ◌∷◌, if◌then◌else◌}
use Rattle.numa_machine.specs.Machine.{Hardware}
use Rattle.numa_ranges.specs.Counts.{count_pages}
use Rattle.numa_space.specs.Pages.{is_mapped}
use Rattle.numa_requests.specs.declared.command.Command.{Command}
use Rattle.numa_compile.specs.Spans.{first_node}
use Rattle.numa_placed.specs.Shifts.{is_stated}
use Rattle.numa_placed.specs.declared.spot.Spot.{Spot}
use Rattle.numa_placed.specs.declared.spot.Spot.TheVariants.{Nowhere, Stated}
use Rattle.numa_reports.specs.declared.outlook.PageSpan.{PageSpan}
use Rattle.numa_moves.specs.declared.share.Share.{Share}

-- how many pages of a span are stated to lie on a node
abbrev pub stated_in : (ℕ → Spot) → PageSpan → ℕ → ℕ
stated_in spots span node =
    count_pages (λ page. is_stated node (spots page)) span.first span.pages

-- where a page lies that a task touched while every node had room: on the first node of its list
abbrev pub touched_spot : Hardware → List Command → ℕ → ℕ → ℕ → Spot
touched_spot machine history task cpu page =
    if is_mapped history page then Stated (first_node machine history task page cpu) else Nowhere

-- so many pages of a span on a node, if there are any
abbrev pub share_by : PageSpan → ℕ → ℕ → List Share
share_by span node there = if there == 0 then [] else record {
  span = span;
  node = node;
  there = there;
} ∷ []

-- those on each of so many nodes, in order
abbrev pub shares_within : (ℕ → ℕ) → PageSpan → ℕ → List Share
shares_within count span zero = []
shares_within count span (suc node) =
    shares_within count span node ++ share_by span node (count node)

-- those of each span, in order
abbrev pub shares_over : (PageSpan → ℕ → ℕ) → ℕ → List PageSpan → List Share
shares_over count nodes [] = []
shares_over count nodes (span ∷ spans) =
    shares_within (count span) span nodes ++ shares_over count nodes spans

-- how many pages of all shares lie on a node
abbrev pub pages_on : List Share → ℕ → ℕ
pages_on [] node = 0
pages_on (share ∷ shares) node =
    (if share.node == node then share.there else 0) + pages_on shares node
