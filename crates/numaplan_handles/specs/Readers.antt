-- What a handle of a reader keeps, what a look does to it, and what it answers. All is told of the
-- commands up to the version at which it looks.
use Rattle.std.specs.Prelude.{◌≡◌, ◌<◌, ◌≤◌, ◌+◌, ℕ, List, length, Option, Some, None, Result, Ok}
use Rattle.std.specs.Prelude.{Err, IfOk, OnErr, EachIndex, slice_index}
use Rattle.numa_machine.specs.declared.refusal.PlaceRefusal.{PlaceRefusal}
use Rattle.numa_compile.specs.Spans.{SpanIsRefused, first_node, meant_count}
use Rattle.numa_publish.specs.Batches.{Extends}
use Rattle.numa_publish.specs.Shown.{ViewState}
use Rattle.numa_publish.specs.Spans.{SpanStands}
use Rattle.numa_publish.specs.declared.taker.LookRefusal.{LookRefusal}
use Rattle.numaplan_handles.specs.Hosts.{ChoosesBy}
use Rattle.numaplan_handles.specs.declared.plan_view.ChoiceRefusal.{ChoiceRefusal}

-- the reader looked again: at the version that is answered, which is `least` or a later one and has
-- all that it saw before; or it was refused, and looks at what it looked at
pub record IsRenewed (least : ℕ) (before : ViewState) (answer : Result ℕ LookRefusal)
    (after : ViewState) : Type 0 where
  pub desk : after.desk ≡ before.desk
  pub seen : Extends before.history after.history
  pub versions : Extends before.versions after.versions
  pub version : IfOk answer (λ version. (version ≡ length after.history) × (least ≤ version))
  pub unchanged : OnErr answer (after.history ≡ before.history)

-- the same of what is kept: a reader before and a reader after
abbrev pub Renews : ℕ → Option ViewState → Option ViewState → Result ℕ LookRefusal → Type 0
Renews least old new answer = (before : ViewState) → old ≡ Some before →
    (after : ViewState) × (new ≡ Some after) × IsRenewed least before answer after

-- its version
abbrev pub IsSeenVersion : Option ViewState → ℕ → Type 0
IsSeenVersion kept version = (view : ViewState) → kept ≡ Some view → version ≡ length view.history

-- the list of a page, and what the room for it held before and after
abbrev pub ChoosesSeen : Option ViewState → ℕ → ℕ → ℕ → List ℕ → List ℕ → Result ℕ ChoiceRefusal
    → Type 0
ChoosesSeen kept task page cpu old new answer = (view : ViewState) → kept ≡ Some view →
    ChoosesBy task page cpu old new view.desk.machine view.history answer

-- the first nodes of the lists of a span's pages, or its first cause against it
abbrev pub FillsSeen : Option ViewState → ℕ → ℕ → ℕ → Result (Unit {0}) PlaceRefusal → List ℕ
    → List ℕ → Type 0
FillsSeen None task first cpu answer old new = Unit {0}
FillsSeen (Some view) task first cpu (Ok done) old new =
    SpanStands view.desk.machine view.history first (length new) cpu × EachIndex new (λ k.
    slice_index new k ≡ first_node view.desk.machine view.history task (first + k) cpu)
FillsSeen (Some view) task first cpu (Err cause) old new =
    SpanIsRefused view.desk.machine view.history first (length old) cpu cause × (new ≡ old)

-- and how many of them each node is
abbrev pub CountsSeen : Option ViewState → ℕ → ℕ → ℕ → ℕ → Result (List ℕ) PlaceRefusal → Type 0
CountsSeen None task first pages cpu answer = Unit {0}
CountsSeen (Some view) task first pages cpu (Ok counts) =
    SpanStands view.desk.machine view.history first pages cpu
    × ((node : ℕ) → node < 256 → slice_index counts node
    ≡ meant_count view.desk.machine view.history task first pages cpu node)
CountsSeen (Some view) task first pages cpu (Err cause) =
    SpanIsRefused view.desk.machine view.history first pages cpu cause
