use Rattle.std.proofs.Common.{◌∙◌, sym, ap, refl, ℕ, false, Some, length}
use Rattle.std.specs.Option.{option_map}
use Rattle.numa_core.specs.Standing.{CoreState}
use Rattle.numa_page_state.specs.Outcomes.{Enough}
use Rattle.numa_run.specs.Judged.{cause_at, question_cause}
use Rattle.numa_run.proofs.Doing.{same-core}
use Rattle.numa_run.proofs.JudgeLemmas.{plain-cause}
use Rattle.numa_run.proofs.running.Running.question_cause.Goals as goal

pub returns-in-None : goal.returns-in-None
returns-in-None c =
    λ state stands.
    let ready =
    same-core c.args.self.now
    (record c.args.self.now { core = c.prepare.new.core }) state
    c.prepare.ensures refl (refl, refl) stands in
    let machine = c.prepare.new.core.space.machine in
    let history = state.world.history in
    let plan = c.in-Some.ensures.meaning state.world ready.core.world in
    let why = c.refusal_by_plan.ensures machine history plan in (
      Enough,
      ready,
      ap (option_map (cause_at (length history))) (sym c.in-None.is ∙ why)
          ∙ sym (plain-cause machine history c.args.question)
          ∙ ap (λ (core : CoreState). question_cause false core.space.machine history
          c.args.question) c.prepare.ensures,
    )

pub returns-in-Some-refusal_by_plan : goal.returns-in-Some-refusal_by_plan
returns-in-Some-refusal_by_plan c =
    λ state stands.
    let ready =
    same-core c.args.self.now
    (record c.args.self.now { core = c.prepare.new.core }) state
    c.prepare.ensures refl (refl, refl) stands in
    let machine = c.prepare.new.core.space.machine in
    let history = state.world.history in
    let plan = c.in-Some.ensures.meaning state.world ready.core.world in
    let why = c.refusal_by_plan.ensures machine history plan in
    let refusal = c.in-Some-refusal_by_plan.refusal in (
      Enough,
      ready,
      ap Some (c.cause_at.ensures
          ∙ ap (λ (v : ℕ). cause_at v refusal) (c.version.ensures ∙ plan.version))
          ∙ ap (option_map (cause_at (length history))) (sym c.in-Some-refusal_by_plan.is ∙ why)
          ∙ sym (plain-cause machine history c.args.question)
          ∙ ap (λ (core : CoreState). question_cause false core.space.machine history
          c.args.question) c.prepare.ensures,
    )
