use Rattle.std.proofs.Common.{Some, ap, refl, ◌∙◌}
use Rattle.numa_host_script.specs.Sessions.{session_answer_to}
use Rattle.numaplan_handles.proofs.Answered.{all-kept}
use Rattle.numaplan_handles.proofs.dialog.serve.Goals as goal

-- what is handed over is all that was said
pub returns-in-Ok : goal.returns-in-Ok
returns-in-Ok c state stands =
    let served = c.serve.ensures state stands in (
      served.0,
      served.1,
      all-kept c.new-output.result c.serve.new.output c.hand_over.new.self (λ v. Some v.items)
          c.hand_over.new.self.inner.items (session_answer_to served.0 state c.args.line.now)
          (ap (λ v. Some v.items) c.new-output.ensures.inner ∙ ap Some c.requires.empty) refl
          c.new-output.ensures.well c.new-output.ensures.empty c.in-Ok.ensures.ok
          c.hand_over.ensures.empty served.2 c.hand_over.ensures.says,
    )
