-- The first line about pages of 2 MiB begins to keep some.
use Rattle.std.proofs.Common.{◌≡◌, Option, Some, None, sym, subst}
use Rattle.numa_machine.specs.Machine.{Hardware}
use Rattle.numa_huge.specs.Moves.{HugeMemory, memory_or}
use Rattle.numa_huge.specs.Tallies.{IsMemory, StandsForHuge}
use Rattle.numa_huge.specs.declared.pages.HugePages.{HugePages}
use Rattle.numa_run.specs.HugeLines.{begun_on, memory_on}
use Rattle.numa_run.specs.Standing.{RunsAs}
use Rattle.numa_run.specs.States.{State}
use Rattle.numa_run.specs.declared.running.Running.{Running}
use Rattle.numa_run.proofs.Keeping.{huge-so, kept-memory, none-huge}

-- some are kept already
pub begun-kept : (old : Running) (kept : HugePages) → old.huge ≡ Some kept → (state : State)
    → RunsAs old state → RunsAs old (begun_on old.core.space.machine state)
begun-kept old kept is state stands =
    huge-so old old.huge (Some (memory_on old.core.space.machine state)) state stands
    (subst (λ (h : Option HugePages). StandsForHuge h
    (Some (memory_on old.core.space.machine state))) (sym is)
    (kept-memory old kept is state stands))

-- none is kept yet
pub begun-new : (old : Running) (begun : HugePages) (machine : Hardware) → old.huge ≡ None
    → machine ≡ old.core.space.machine → IsMemory begun (memory_or machine.memory None)
    → (state : State) → RunsAs old state
    → RunsAs (record old { huge = Some begun }) (begun_on old.core.space.machine state)
begun-new old begun machine none is kept state stands =
    huge-so old (Some begun) (Some (memory_on old.core.space.machine state)) state stands
    (subst (λ (m : Option HugeMemory).
    IsMemory begun (memory_or old.core.space.machine.memory m))
    (sym (none-huge old.huge state.huge none stands.huge))
    (subst (λ (m : Hardware). IsMemory begun (memory_or m.memory None)) is kept))
