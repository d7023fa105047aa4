-- What a handle keeps, by its kind.
use Rattle.std.specs.Prelude.{◌≡◌, Bool, true, false, Option, Some, None, Result}
use Rattle.std.specs.Arc.{arc_value}
use Rattle.numa_core.specs.Standing.{CoreState}
use Rattle.numa_host_script.specs.declared.running.RunningHost.{RunningHost}
use Rattle.numa_pages.specs.Changes.{PagesState}
use Rattle.numa_plan.specs.Meaning.{PlanData}
use Rattle.numa_pool.specs.Seated.{Seated}
use Rattle.numa_publish.specs.Shown.{DeskState, ViewState}
use Rattle.numaplan_handles.specs.Calls.{IsShared}
use Rattle.numaplan_handles.specs.declared.dialog.Dialog.{Dialog}
use Rattle.numaplan_handles.specs.declared.kept.Kept.{Kept}
use Rattle.numaplan_handles.specs.declared.kept.Kept.TheVariants as kept

-- the core that is kept
abbrev pub core_of : Option Kept → Option CoreState
core_of None = None
core_of (Some (kept.Core core)) = Some core
core_of (Some (kept.Plan plan)) = None
core_of (Some (kept.Seat seat)) = None
core_of (Some (kept.Script dialog)) = None
core_of (Some (kept.Host host)) = None
core_of (Some (kept.Pages pages)) = None
core_of (Some (kept.Desk desk)) = None
core_of (Some (kept.Reader view)) = None

-- the plan that is kept
abbrev pub plan_of : Option Kept → Option PlanData
plan_of None = None
plan_of (Some (kept.Core core)) = None
plan_of (Some (kept.Plan plan)) = Some (arc_value plan)
plan_of (Some (kept.Seat seat)) = None
plan_of (Some (kept.Script dialog)) = None
plan_of (Some (kept.Host host)) = None
plan_of (Some (kept.Pages pages)) = None
plan_of (Some (kept.Desk desk)) = None
plan_of (Some (kept.Reader view)) = None

-- the seat that is kept
abbrev pub seat_of : Option Kept → Option Seated
seat_of None = None
seat_of (Some (kept.Core core)) = None
seat_of (Some (kept.Plan plan)) = None
seat_of (Some (kept.Seat seat)) = Some seat
seat_of (Some (kept.Script dialog)) = None
seat_of (Some (kept.Host host)) = None
seat_of (Some (kept.Pages pages)) = None
seat_of (Some (kept.Desk desk)) = None
seat_of (Some (kept.Reader view)) = None

-- the script that is kept, with the answer to its last line
abbrev pub dialog_of : Option Kept → Option Dialog
dialog_of None = None
dialog_of (Some (kept.Core core)) = None
dialog_of (Some (kept.Plan plan)) = None
dialog_of (Some (kept.Seat seat)) = None
dialog_of (Some (kept.Script dialog)) = Some dialog
dialog_of (Some (kept.Host host)) = None
dialog_of (Some (kept.Pages pages)) = None
dialog_of (Some (kept.Desk desk)) = None
dialog_of (Some (kept.Reader view)) = None

-- the host that is kept, with the pages of its processes
abbrev pub host_of : Option Kept → Option RunningHost
host_of None = None
host_of (Some (kept.Core core)) = None
host_of (Some (kept.Plan plan)) = None
host_of (Some (kept.Seat seat)) = None
host_of (Some (kept.Script dialog)) = None
host_of (Some (kept.Host running)) = Some running
host_of (Some (kept.Pages pages)) = None
host_of (Some (kept.Desk desk)) = None
host_of (Some (kept.Reader view)) = None

-- the core with its pages that is kept
abbrev pub pages_of : Option Kept → Option PagesState
pages_of None = None
pages_of (Some (kept.Core core)) = None
pages_of (Some (kept.Plan plan)) = None
pages_of (Some (kept.Seat seat)) = None
pages_of (Some (kept.Script dialog)) = None
pages_of (Some (kept.Host host)) = None
pages_of (Some (kept.Pages pages)) = Some pages
pages_of (Some (kept.Desk desk)) = None
pages_of (Some (kept.Reader view)) = None

-- the desk that is kept
abbrev pub desk_of : Option Kept → Option DeskState
desk_of None = None
desk_of (Some (kept.Core core)) = None
desk_of (Some (kept.Plan plan)) = None
desk_of (Some (kept.Seat seat)) = None
desk_of (Some (kept.Script dialog)) = None
desk_of (Some (kept.Host host)) = None
desk_of (Some (kept.Pages pages)) = None
desk_of (Some (kept.Desk desk)) = Some desk
desk_of (Some (kept.Reader view)) = None

-- the reader that is kept, with the version at which it looks
abbrev pub reader_of : Option Kept → Option ViewState
reader_of None = None
reader_of (Some (kept.Core core)) = None
reader_of (Some (kept.Plan plan)) = None
reader_of (Some (kept.Seat seat)) = None
reader_of (Some (kept.Script dialog)) = None
reader_of (Some (kept.Host host)) = None
reader_of (Some (kept.Pages pages)) = None
reader_of (Some (kept.Desk desk)) = None
reader_of (Some (kept.Reader view)) = Some view

-- nothing but a core is kept
abbrev pub is_core : Option Kept → Bool
is_core None = true
is_core (Some (kept.Core core)) = true
is_core (Some (kept.Plan plan)) = false
is_core (Some (kept.Seat seat)) = false
is_core (Some (kept.Script dialog)) = false
is_core (Some (kept.Host host)) = false
is_core (Some (kept.Pages pages)) = false
is_core (Some (kept.Desk desk)) = false
is_core (Some (kept.Reader view)) = false

-- nothing but a plan is kept
abbrev pub is_plan : Option Kept → Bool
is_plan None = true
is_plan (Some (kept.Core core)) = false
is_plan (Some (kept.Plan plan)) = true
is_plan (Some (kept.Seat seat)) = false
is_plan (Some (kept.Script dialog)) = false
is_plan (Some (kept.Host host)) = false
is_plan (Some (kept.Pages pages)) = false
is_plan (Some (kept.Desk desk)) = false
is_plan (Some (kept.Reader view)) = false

-- nothing but a seat is kept
abbrev pub is_seat : Option Kept → Bool
is_seat None = true
is_seat (Some (kept.Core core)) = false
is_seat (Some (kept.Plan plan)) = false
is_seat (Some (kept.Seat seat)) = true
is_seat (Some (kept.Script dialog)) = false
is_seat (Some (kept.Host host)) = false
is_seat (Some (kept.Pages pages)) = false
is_seat (Some (kept.Desk desk)) = false
is_seat (Some (kept.Reader view)) = false

-- nothing but a script is kept
abbrev pub is_script : Option Kept → Bool
is_script None = true
is_script (Some (kept.Core core)) = false
is_script (Some (kept.Plan plan)) = false
is_script (Some (kept.Seat seat)) = false
is_script (Some (kept.Script dialog)) = true
is_script (Some (kept.Host host)) = false
is_script (Some (kept.Pages pages)) = false
is_script (Some (kept.Desk desk)) = false
is_script (Some (kept.Reader view)) = false

-- nothing but a host is kept
abbrev pub is_host : Option Kept → Bool
is_host None = true
is_host (Some (kept.Core core)) = false
is_host (Some (kept.Plan plan)) = false
is_host (Some (kept.Seat seat)) = false
is_host (Some (kept.Script dialog)) = false
is_host (Some (kept.Host host)) = true
is_host (Some (kept.Pages pages)) = false
is_host (Some (kept.Desk desk)) = false
is_host (Some (kept.Reader view)) = false

-- nothing but a core with its pages is kept
abbrev pub is_pages : Option Kept → Bool
is_pages None = true
is_pages (Some (kept.Core core)) = false
is_pages (Some (kept.Plan plan)) = false
is_pages (Some (kept.Seat seat)) = false
is_pages (Some (kept.Script dialog)) = false
is_pages (Some (kept.Host host)) = false
is_pages (Some (kept.Pages pages)) = true
is_pages (Some (kept.Desk desk)) = false
is_pages (Some (kept.Reader view)) = false

-- nothing but a desk is kept
abbrev pub is_desk : Option Kept → Bool
is_desk None = true
is_desk (Some (kept.Core core)) = false
is_desk (Some (kept.Plan plan)) = false
is_desk (Some (kept.Seat seat)) = false
is_desk (Some (kept.Script dialog)) = false
is_desk (Some (kept.Host host)) = false
is_desk (Some (kept.Pages pages)) = false
is_desk (Some (kept.Desk desk)) = true
is_desk (Some (kept.Reader view)) = false

-- nothing but a reader is kept
abbrev pub is_reader : Option Kept → Bool
is_reader None = true
is_reader (Some (kept.Core core)) = false
is_reader (Some (kept.Plan plan)) = false
is_reader (Some (kept.Seat seat)) = false
is_reader (Some (kept.Script dialog)) = false
is_reader (Some (kept.Host host)) = false
is_reader (Some (kept.Pages pages)) = false
is_reader (Some (kept.Desk desk)) = false
is_reader (Some (kept.Reader view)) = true

-- the same as `Calls` of a value that is kept, which stays of its kind: what `told` says is of the
-- values of that kind
abbrev pub CallsKept : {K A : Type 0} → (Option Kept → Bool) → (Option Kept → Option K)
    → (Option K → Option K → A → Type 0) → Kept → A → Kept → Type 0
CallsKept is_kind value_of told old answer new = (is_kind (Some new) ≡ true)
    × told (value_of (Some old)) (value_of (Some new)) answer

-- where a value of this kind is kept, the other one is of this kind too, and the same
abbrev pub IsCopied : {K : Type 0} → (Option Kept → Bool) → (Option Kept → Option K) → Kept → Kept
    → Type 0
IsCopied is_kind value_of kept other = is_kind (Some kept) ≡ true →
    (is_kind (Some other) ≡ true) × (value_of (Some other) ≡ value_of (Some kept))

-- the same as `IsShared` where a value of this kind is kept, and then one of this kind, or none, is
-- kept by the other handle
abbrev pub SharesKept : {K E : Type 0} → (Option Kept → Bool) → (Option Kept → Option K)
    → Option Kept → Option (Result (Unit {0}) E) → Option Kept → Type 0
SharesKept is_kind value_of kept answer other = is_kind kept ≡ true →
    (is_kind other ≡ true) × IsShared (value_of kept) answer (value_of other)
