use Rattle.std.proofs.Common.{◌≡◌, None}
use Rattle.numaplan_handles.specs.Handles.{core_in, plan_in}
use Rattle.numaplan_c.specs.Border.{IsPlanBy}
use Rattle.numaplan_c.proofs.Made.{kept-made}
use Rattle.numaplan_c.proofs.plans.keep_plan.Goals as goal

pub returns-clause-made : goal.returns-clause-made
returns-clause-made c closed = kept-made (IsPlanBy c.args.commands (core_in c.args.core.now))
    (core_in c.args.core.now ≡ None) c.plan_by-made.result (plan_in c.keep.new.plan)
    c.keep.ensures.kept c.plan_by-made.ensures.made
