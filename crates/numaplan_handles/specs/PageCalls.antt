-- What a call of a handle does to the core with its pages that it keeps.
use Rattle.std.specs.Prelude.{Option}
use Rattle.numa_pages.specs.Changes.{PagesState}
use Rattle.numaplan_handles.specs.Calls.{Calls}
use Rattle.numaplan_handles.specs.Handles.{pages_in}
use Rattle.numaplan_handles.specs.Pages.{OfPages}
use Rattle.numaplan_handles.specs.declared.pages_handle.PagesHandle.{PagesHandle}

-- `told` says what the call did to what is kept; a handle that is closed stays so
abbrev pub CallsPages : {A : Type 0} → (PagesState → A → PagesState → Type 0) → PagesHandle
    → Option A → PagesHandle → Type 0
CallsPages told old answer new = Calls (OfPages told) (pages_in old) answer (pages_in new)
