-- The runs that a command of a span leaves to be written anew: those of a window.
use Rattle.std.specs.Prelude.{◌≡◌, ℕ, ◌+◌, ◌<◌, ◌≤◌, true, false, Option, Some, List, []}
use Rattle.std.specs.Prelude.{◌∷◌, length, get_or}
use Rattle.std.specs.Option.{option_map}
use Rattle.numa_machine.specs.Sizes.{whole}
use Rattle.numa_machine.specs.declared.page_size.PageSize.{PageSize}
use Rattle.numa_mode.specs.Policy.{PolicyRecord}
use Rattle.numa_ranges.specs.Runs.{end_of, page_at}
use Rattle.numa_ranges.specs.Windows.{begins_in, to_now, Moves}
use Rattle.numa_ranges.specs.declared.run.Run.{Run}
use Rattle.numa_space.specs.declared.change.ChangedPages.{ChangedPages}
use Rattle.numa_requests.specs.declared.command.Command.{Command}
use Rattle.numa_requests.specs.declared.command.Command.TheVariants.{Map, Unmap, Mbind, SetTask}
use Rattle.numa_requests.specs.declared.command.Command.TheVariants.{Inherit}
use Rattle.numa_requests.specs.declared.command.Command.TheVariants.{SetHome, SetWeight, SetMems}
use Rattle.numa_space.specs.Policies.{where_live}
use Rattle.numa_space.specs.History.{page_of, page_count}
use Rattle.numa_space.specs.Spans.{span_first, span_pages, span_end, EditsSpan}
use Rattle.numa_space.specs.Standing.{SpaceState}
use Rattle.numa_plan.specs.Meaning.{PlanData}
use Rattle.numa_plan.specs.Slots.{policy_in}
use Rattle.numa_compile.specs.Copies.{IsNumber}
use Rattle.numa_compile.specs.Follows.{IsBehind}
use Rattle.numa_compile.specs.Recompiling.{WasAdded}
use Rattle.numa_compile.specs.declared.recompiler.window.Window.{Window}

-- whether a command changes pages of its span, and nothing else
abbrev pub IsOfSpan : Command → Type 0
IsOfSpan (Map start bytes offset size) = Unit {0}
IsOfSpan (Unmap start bytes) = Unit {0}
IsOfSpan (Mbind start bytes spec) = Unit {0}
IsOfSpan (SetTask task spec) = ⊥
IsOfSpan (Inherit heir from) = ⊥
IsOfSpan (SetHome start bytes node) = Unit {0}
IsOfSpan (SetWeight node weight) = ⊥
IsOfSpan (SetMems mask) = ⊥

-- the plan is behind the space by a command of the window's span, which has changed no range
-- outside the window
pub record IsOpen (space : SpaceState) (plan : PlanData) (window : Window) : Type 0 where
  pub command : Command
  pub behind : IsBehind space command plan
  pub of_span : IsOfSpan command
  pub begins : span_first command ≡ window.first
  pub ends : span_end command ≡ window.end
  pub rises : window.from ≤ window.to
  pub within : window.to ≤ length plan.runs
  pub place : window.to_now ≡ to_now behind.before.ranges space.ranges window.to
  pub moves : Moves behind.before.ranges space.ranges window.from window.to

-- the plan is behind the space by a command whose span has no page
pub record IsBehindNone (space : SpaceState) (plan : PlanData) : Type 0 where
  pub command : Command
  pub behind : IsBehind space command plan
  pub edits : EditsSpan command
  pub none : span_pages command ≡ 0

-- the plan is behind the space by a command of this span, which has mapped nothing
pub record IsBehindSpan (space : SpaceState) (plan : PlanData) (pages : ChangedPages) : Type 0 where
  pub command : Command
  pub behind : IsBehind space command plan
  pub edits : EditsSpan command
  pub begins : span_first command ≡ pages.first
  pub ends : span_end command ≡ pages.end
  pub some : 0 < span_pages command

-- the plan is behind the space by a command that has mapped this span
pub record IsBehindMap (space : SpaceState) (plan : PlanData) (pages : ChangedPages) : Type 0 where
  pub start : ℕ
  pub bytes : ℕ
  pub offset : ℕ
  pub size : PageSize
  pub behind : IsBehind space (Map start bytes offset size) plan
  pub begins : page_of start ≡ pages.first
  pub ends : page_of start + page_count (whole size bytes) ≡ pages.end

-- a run of the plan has the range's first page, and the number of the range's policy
pub record IsNumbered (plan : PlanData) (range : Run (Option PolicyRecord)) : Type 0 where
  pub number : Option ℕ
  pub found : option_map (λ at. at.1) (page_at plan.runs range.first) ≡ Some number
  pub is : IsNumber (policy_in plan.slots) (where_live range.value) number

-- the ranges that begin outside the window's span are numbered in the plan
abbrev pub KeepsOutside : SpaceState → PlanData → Window → Type 0
KeepsOutside space plan window = (k : ℕ) (d : Run (Option PolicyRecord)) → k < length space.ranges
    → begins_in window.first window.end (get_or space.ranges k d) ≡ false
    → IsNumbered plan (get_or space.ranges k d)

-- this number is that of each range of the window that begins in its span
abbrev pub NumbersInside : SpaceState → PlanData → Window → Option ℕ → Type 0
NumbersInside space plan window number = (k : ℕ) (d : Run (Option PolicyRecord))
    → window.from ≤ k → k < window.to_now
    → begins_in window.first window.end (get_or space.ranges k d) ≡ true
    → IsNumber (policy_in plan.slots) (where_live (get_or space.ranges k d).value) number

-- this policy is that of each range of the window that begins in its span
abbrev pub HavePolicy : SpaceState → Window → Option PolicyRecord → Type 0
HavePolicy space window policy = (k : ℕ) (d : Run (Option PolicyRecord))
    → window.from ≤ k → k < window.to_now
    → begins_in window.first window.end (get_or space.ranges k d) ≡ true
    → (get_or space.ranges k d).value ≡ policy

-- the window's first range ends where the span begins or before
abbrev pub BeginsBeside : SpaceState → Window → Type 0
BeginsBeside space window = (window.from < window.to_now) × ((d : Run (Option PolicyRecord))
    → end_of (get_or space.ranges window.from d) ≤ window.first)

-- the window's first range, if it has one, ends in the span or behind
abbrev pub BeginsInside : SpaceState → Window → Type 0
BeginsInside space window = window.from < window.to_now → (d : Run (Option PolicyRecord))
    → window.first < end_of (get_or space.ranges window.from d)

-- rules were added one after another, at each step one or none
abbrev pub WereAdded : SpaceState → PlanData → List (Option ℕ) → PlanData → Type 0
WereAdded space old [] new = new ≡ old
WereAdded space old (number ∷ numbers) new = (next : PlanData) × WasAdded space old number next
    × WereAdded space next numbers new
