use Rattle.std.proofs.Common.{◌∙◌, subst, sym}
use Rattle.std.proofs.lemmas.Option.{same_Some}
use Rattle.std.proofs.lemmas.Result.{IfOk-weaker}
use Rattle.numa_plan.specs.Meaning.{PlanData}
use Rattle.numa_compile.specs.Standing.{IsPlanOf}
use Rattle.numa_compile.proofs.Meaning.{plan-stands}
use Rattle.numa_core.specs.Standing.{CoreState}
use Rattle.numaplan_handles.proofs.core_handle.copy_kept.Goals as goal

pub returns-in-Some : goal.returns-in-Some
returns-in-Some c = record {
  plan = IfOk-weaker c.copy.result _ _ (λ copy same core is.
      let here = subst (λ (p : PlanData). IsPlanOf c.core_kept.result.now.space p) (sym same)
      c.in-Some.ensures.plan in
      let plan = subst (λ (s : CoreState). IsPlanOf s.space copy)
      (same_Some _ _ (sym c.core_kept.ensures.core ∙ is)) here in
      (plan, λ history stands. plan-stands core.space copy history plan stands)) c.copy.ensures;
}
