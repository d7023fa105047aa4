-- Where pages lie once a task has touched them all: those that are there stay where they lie, and
-- the others go where the touch puts them.
use Rattle.std.specs.Prelude.{◌≡◌, ℕ, ◌<◌, ◌^◌, ◌==◌, ◌&&◌, Bool, Option, Some, None, List, OnOk}
use Rattle.std.specs.Prelude.{Result, [], is_some, slice_index, unwrap_or, if◌then◌else◌}
use Rattle.std.specs.Borrow.{Bor}
use Rattle.std.specs.Option.{option_or}
use Rattle.numa_machine.specs.Machine.{Hardware}
use Rattle.numa_ranges.specs.Counts.{count_pages}
use Rattle.numa_space.specs.Pages.{is_mapped}
use Rattle.numa_space.specs.Standing.{StandsFor}
use Rattle.numa_requests.specs.declared.command.Command.{Command}
use Rattle.numa_plan.specs.Meaning.{PlanData, is_number, planned_count, planned_first}
use Rattle.numa_compile.specs.Spans.{first_node}
use Rattle.numa_compile.specs.Standing.{PlanStandsFor}
use Rattle.numa_placed.specs.Binds.{Asked, is_absent}
use Rattle.numa_placed.specs.Laid.{Laid}
use Rattle.numa_placed.specs.Spots.{is_on, node_of, pages_if, pages_within, spot_at}
use Rattle.numa_placed.specs.declared.spot.Spot.{Spot}
use Rattle.numa_placed.specs.declared.spot.Spot.TheVariants.{Nowhere}
use Rattle.numa_reports.specs.Filled.{free_behind, nodes_of, planned_nodes}
use Rattle.numa_reports.specs.declared.request.PredictionRequest.{PredictionRequest}

-- where pages lie, if some are there
abbrev pub spots_in : Option (Bor Laid) → ℕ → Spot
spots_in None page = Nowhere
spots_in (Some placed) page = spot_at placed.now page

-- the node of a mapped page: where it lies, if it is there, and else the first of its list
abbrev pub lying_node : Hardware → List Command → (ℕ → Spot) → ℕ → ℕ → ℕ → ℕ
lying_node machine history spots task cpu page =
    unwrap_or (node_of (spots page)) (first_node machine history task page cpu)

abbrev pub lies_on : Hardware → List Command → (ℕ → Spot) → ℕ → ℕ → ℕ → ℕ → Bool
lies_on machine history spots task cpu node page =
    is_mapped history page && (lying_node machine history spots task cpu page == node)

-- each node's count is that of the mapped pages of a span that lie on it
abbrev pub AreLying : Hardware → List Command → (ℕ → Spot) → ℕ → ℕ → ℕ → ℕ → List ℕ → Type 0
AreLying machine history spots task first pages cpu counts = (node : ℕ) → node < 256
    → slice_index counts node
    ≡ count_pages (lies_on machine history spots task cpu node) first pages

-- ---- free pages

-- the fallback list of a page that isn't there yet; one that is there takes no free page
abbrev pub absent_nodes : (ℕ → Spot) → (ℕ → List ℕ) → ℕ → List ℕ
absent_nodes spots nodes page = if is_some (node_of (spots page)) then [] else nodes page

-- the pages that aren't there yet, touched for the first time with these fallback lists
abbrev pub touched : (ℕ → List ℕ) → Asked
touched nodes = record { first = 0; pages = 2 ^ 35; wants = is_absent []; nodes = nodes }

-- how many pages of a span are there on a node
abbrev pub there_on : Option (Bor Laid) → ℕ → ℕ → ℕ → ℕ
there_on None first pages node = 0
there_on (Some placed) first pages node =
    pages_within (is_on node) (spot_at placed.now) first pages

-- what is free behind pages that lie alike
abbrev pub alike_left : Option ℕ → (ℕ → List ℕ) → List ℕ → ℕ → ℕ → List ℕ
alike_left None nodes free first pages = free_behind nodes free first pages
alike_left (Some there) nodes free first pages = free

-- the fallback lists of pages by the plan of a request
abbrev pub asked_nodes : PredictionRequest → ℕ → List ℕ
asked_nodes asked = planned_nodes asked.plan.now asked.touch.task asked.touch.cpu

-- by a plan of the space, what is free after a request is what its pages leave that aren't there
abbrev pub LeavesFree : {T E : Type 0} → PredictionRequest → List ℕ → List ℕ → Result T E → Type 0
LeavesFree asked before after result = (history : List Command)
    → StandsFor asked.space.now history
    → PlanStandsFor asked.space.now.machine asked.plan.now history
    → OnOk result (after ≡ free_behind (absent_nodes (spots_in asked.placed)
    (nodes_of asked.space.now.machine history asked.touch.task asked.touch.cpu)) before 0 (2 ^ 35))

-- ---- by a plan

abbrev pub planned_node : PlanData → (ℕ → Spot) → ℕ → ℕ → ℕ → Option ℕ
planned_node plan spots task cpu page =
    option_or (node_of (spots page)) (planned_first plan task page cpu)

-- how many pages of a span have this node
abbrev pub planned_pages : PlanData → (ℕ → Spot) → ℕ → ℕ → ℕ → ℕ → ℕ → ℕ
planned_pages plan spots task first pages cpu node =
    count_pages (λ page. is_number node (planned_node plan spots task cpu page)) first pages

-- the same, where all lie on one node, or none is there
abbrev pub alike_pages : PlanData → Option ℕ → ℕ → ℕ → ℕ → ℕ → ℕ → ℕ
alike_pages plan None task first pages cpu node = planned_count plan task first pages cpu node
alike_pages plan (Some there) task first pages cpu node = pages_if (there == node) pages
