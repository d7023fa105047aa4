use Rattle.std.proofs.Common.{◌∙◌, sym, ap, false, Some, length, ℕ}
use Rattle.std.specs.Option.{option_map}
use Rattle.numa_page_state.specs.Outcomes.{Enough}
use Rattle.numa_run.specs.Judged.{cause_at}
use Rattle.numa_run.proofs.JudgeLemmas.{plain-cause}
use Rattle.numa_host_script.proofs.asking.question_cause.Goals as goal

pub returns-in-None : goal.returns-in-None
returns-in-None c = λ history stands.
    let machine = c.args.space.now.machine in
    let why = c.refusal_by_plan-refusal.ensures machine history
    (c.in-Ok.ensures.stands history stands) in (
      Enough,
      ap (option_map (cause_at (length history))) (sym c.in-None.is ∙ why)
          ∙ sym (plain-cause machine history c.args.question),
    )

pub returns-in-Some : goal.returns-in-Some
returns-in-Some c = λ history stands.
    let machine = c.args.space.now.machine in
    let why = c.refusal_by_plan-refusal.ensures machine history
    (c.in-Ok.ensures.stands history stands) in (
      Enough,
      ap Some (c.cause_at.ensures
          ∙ ap (λ (v : ℕ). cause_at v c.in-Some.why) (c.version.ensures.meaning history stands))
          ∙ ap (option_map (cause_at (length history))) (sym c.in-Some.is ∙ why)
          ∙ sym (plain-cause machine history c.args.question),
    )
