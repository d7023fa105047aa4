-- Which pages go from one node to another, span by span, once commands are added.
use Rattle.std.specs.Prelude.{◌≡◌, ◌⊎◌, ℕ, zero, suc, ◌<◌, ◌==◌, ◌&&◌, ◌++◌, List, [], ◌∷◌, length}
use Rattle.std.specs.Prelude.{slice_index, slice_index_or, if◌then◌else◌}
use Rattle.numa_machine.specs.Machine.{Hardware}
use Rattle.numa_plan.specs.Meaning.{PlanData}
use Rattle.numa_ranges.specs.Counts.{count_pages}
use Rattle.numa_requests.specs.declared.command.Command.{Command}
use Rattle.numa_machine.specs.declared.refusal.PlaceRefusal.{PlaceRefusal}
use Rattle.numa_reports.specs.Common.{AreCommon}
use Rattle.numa_reports.specs.Failing.{MayRefuse, RefusesEither}
use Rattle.numa_reports.specs.Moved.{goes_to}
use Rattle.numa_reports.specs.declared.differences.SpanMove.{SpanMove}
use Rattle.numa_reports.specs.declared.outlook.PageSpan.{PageSpan}

-- pages that move, unless they stay on their node, or there are none
abbrev pub move_if : SpanMove → List SpanMove
move_if said = if said.from == said.to then [] else if said.moved == 0 then [] else said ∷ []

-- so many pages of a span that go from one node to another, where they are any, and another
abbrev pub move_by : PageSpan → ℕ → ℕ → ℕ → List SpanMove
move_by span from to moved = move_if (record {
  first = span.first;
  pages = span.pages;
  moved = moved;
  from = from;
  to = to;
})

-- those from one node to each of so many, in order, as many as are counted
abbrev pub moves_from : (ℕ → ℕ → ℕ) → PageSpan → ℕ → ℕ → List SpanMove
moves_from count span from zero = []
moves_from count span from (suc to) =
    moves_from count span from to ++ move_by span from to (count from to)

-- those from each of so many nodes, in order, to each of so many
abbrev pub moves_within : (ℕ → ℕ → ℕ) → PageSpan → ℕ → ℕ → List SpanMove
moves_within count span zero nodes = []
moves_within count span (suc from) nodes =
    moves_within count span from nodes ++ moves_from count span from nodes

-- those of each span, in order
abbrev pub moves_over : (PageSpan → ℕ → ℕ → ℕ) → ℕ → ℕ → List PageSpan → List SpanMove
moves_over count before after [] = []
moves_over count before after (span ∷ spans) =
    moves_within (count span) span before after ++ moves_over count before after spans

-- how many pages of a span are mapped on both machines, and go from the one node before to the
-- other after
abbrev pub moved_between : Hardware → List Command → Hardware → List Command → ℕ → ℕ
    → PageSpan → ℕ → ℕ → ℕ
moved_between machine before machine' after task cpu span from to =
    count_pages (λ page. goes_to machine before task cpu from page
    && goes_to machine' after task cpu to page) span.first span.pages

-- the moves of each span that is mapped on both machines, where the ranges have these spans
pub record AreAllMoves (machine : Hardware) (before : List Command) (machine' : Hardware)
    (after : List Command) (task cpu : ℕ) (ones others : List PageSpan) (moves : List SpanMove)
    : Type 0 where
  pub spans : List PageSpan
  pub common : AreCommon ones others spans
  pub told : moves ≡ moves_over (moved_between machine before machine' after task cpu)
      machine.nodes machine'.nodes spans

-- a table without pages
abbrev pub HasNone : List ℕ → Type 0
HasNone table = (length table ≡ 65536) × ((k : ℕ) → k < 65536 → slice_index table k ≡ 0)

-- one of the spans is refused by the one plan or by the other
abbrev pub RefusesSome : PlanData → PlanData → List PageSpan → ℕ → PlaceRefusal → Type 0
RefusesSome before after spans cpu refusal = (k : ℕ) × (d : PageSpan) × (k < length spans)
    × RefusesEither before after (slice_index_or spans k d).first (slice_index_or spans k d).pages
    cpu refusal

-- one of the machines has no node `cpu`
abbrev pub EitherLacks : ℕ → ℕ → ℕ → PlaceRefusal → Type 0
EitherLacks nodes nodes' cpu refusal = MayRefuse nodes cpu refusal ⊎ MayRefuse nodes' cpu refusal
