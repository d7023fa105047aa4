-- A trace that is at hand, in the order of its accesses.
use Rattle.std.specs.Prelude.{◌≡◌, ◌⊎◌, ℕ, ◌<◌, List, length, reverse, slice_index_or, take}
use Rattle.numa_machine.specs.Machine.{Hardware}
use Rattle.numa_plan.specs.Meaning.{PlanData}
use Rattle.numa_traces.specs.Replaying.{EndsReplay, IsReplay, Replayed}
use Rattle.numa_traces.specs.declared.access.Access.{Access}
use Rattle.numa_traces.specs.declared.fault.ReplayError.{ReplayError}
use Rattle.numa_traces.specs.declared.fault.ReplayError.TheVariants.{NoMemory}

-- why the access at a place can't be replayed, once those before it were; or there was no memory
abbrev pub EndsTrace : Hardware → PlanData → List Access → ℕ → ReplayError → Type 0
EndsTrace machine plan trace place why = (why ≡ NoMemory) ⊎ ((met : Replayed)
    × IsReplay machine plan (reverse (take place trace)) met × (place < length trace)
    × (d : Access) × EndsReplay plan met (slice_index_or trace place d) why)
