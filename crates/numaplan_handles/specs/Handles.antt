-- What the handle of each kind keeps.
use Rattle.std.specs.Prelude.{Option}
use Rattle.numa_core.specs.Standing.{CoreState}
use Rattle.numa_host_script.specs.declared.running.RunningHost.{RunningHost}
use Rattle.numa_pages.specs.Changes.{PagesState}
use Rattle.numa_plan.specs.Meaning.{PlanData}
use Rattle.numa_pool.specs.Seated.{Seated}
use Rattle.numa_publish.specs.Shown.{DeskState, ViewState}
use Rattle.numaplan_handles.specs.Kinds.{core_of, plan_of, seat_of, dialog_of, host_of, pages_of}
use Rattle.numaplan_handles.specs.Kinds.{desk_of, reader_of}
use Rattle.numaplan_handles.specs.declared.dialog.Dialog.{Dialog}
use Rattle.numaplan_handles.specs.declared.core_handle.CoreHandle.{CoreHandle}
use Rattle.numaplan_handles.specs.declared.desk_handle.DeskHandle.{DeskHandle}
use Rattle.numaplan_handles.specs.declared.host_handle.HostHandle.{HostHandle}
use Rattle.numaplan_handles.specs.declared.pages_handle.PagesHandle.{PagesHandle}
use Rattle.numaplan_handles.specs.declared.plan_handle.PlanHandle.{PlanHandle}
use Rattle.numaplan_handles.specs.declared.plan_view.PlanView.{PlanView}
use Rattle.numaplan_handles.specs.declared.reader_handle.ReaderHandle.{ReaderHandle}
use Rattle.numaplan_handles.specs.declared.reader_view.ReaderView.{ReaderView}
use Rattle.numaplan_handles.specs.declared.seat_handle.SeatHandle.{SeatHandle}
use Rattle.numaplan_handles.specs.declared.script_handle.ScriptHandle.{ScriptHandle}

-- the core that a handle keeps
abbrev pub core_in : CoreHandle → Option CoreState
core_in h = core_of h.handle.held.kept

-- the plan that a handle keeps
abbrev pub plan_in : PlanHandle → Option PlanData
plan_in h = plan_of h.handle.held.kept

-- the plan of a handle that is only looked at
abbrev pub plan_seen : PlanView → Option PlanData
plan_seen v = plan_of v.view.held.kept

-- the seat that a handle keeps
abbrev pub seat_in : SeatHandle → Option Seated
seat_in h = seat_of h.handle.held.kept

-- the script that a handle keeps, with the answer to its last line
abbrev pub dialog_in : ScriptHandle → Option Dialog
dialog_in h = dialog_of h.handle.held.kept

-- the host that a handle keeps, with the pages of its processes
abbrev pub host_in : HostHandle → Option RunningHost
host_in h = host_of h.handle.held.kept

-- the core with its pages that a handle keeps
abbrev pub pages_in : PagesHandle → Option PagesState
pages_in h = pages_of h.handle.held.kept

-- the desk that a handle keeps
abbrev pub desk_in : DeskHandle → Option DeskState
desk_in h = desk_of h.handle.held.kept

-- the reader that a handle keeps, with the version at which it looks
abbrev pub reader_in : ReaderHandle → Option ViewState
reader_in h = reader_of h.handle.held.kept

-- the reader of a handle that is only looked at
abbrev pub reader_seen : ReaderView → Option ViewState
reader_seen v = reader_of v.view.held.kept
