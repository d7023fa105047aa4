use Rattle.std.proofs.Common.{inl, refl}
use Rattle.numa_core.specs.Executions.{world_of}
use Rattle.numa_core.proofs.Newest.{newest, may_take-newest}
use Rattle.numa_core.proofs.laws.every_execution_goes_on.Goals as goal

pub returns-clause-goes_on : goal.returns-clause-goes_on
returns-clause-goes_on c s past event legal =
    (legal, may_take-newest (world_of s past) event (newest s past legal), inl refl)

pub returns-clause-newest : goal.returns-clause-newest
returns-clause-newest c s past version legal published = (newest s past legal).greatest version
    published
