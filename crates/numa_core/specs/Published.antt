-- How a published plan stands to the space of all accepted commands.
use Rattle.numa_space.specs.Standing.{SpaceState}
use Rattle.numa_plan.specs.Meaning.{PlanData}
use Rattle.numa_compile.specs.Follows.{Follows, LacksChange}
use Rattle.numa_core.specs.declared.unpublished.Unpublished.{Unpublished}
use Rattle.numa_core.specs.declared.unpublished.Unpublished.TheVariants.{Nothing, One}
use Rattle.numa_core.specs.declared.unpublished.Unpublished.TheVariants.{Several}

-- the plan follows the space, but for the change that isn't published; of several nothing is said
abbrev pub IsBehindBy : Unpublished → SpaceState → PlanData → Type 0
IsBehindBy Nothing space plan = Follows space plan
IsBehindBy (One change) space plan = LacksChange space change plan
IsBehindBy Several space plan = Unit {0}
