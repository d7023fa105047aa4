use Rattle.std.proofs.Common.{refl, sym, ◌∙◌}
use Rattle.numa_maps.specs.Residents.{without_page}
use Rattle.numa_run.proofs.Doing.{releases, kept-where_refused, gone-where_given}
use Rattle.numa_run.proofs.running.Running.release.Goals as goal

pub returns-then-is_err : goal.returns-then-is_err
returns-then-is_err c =
    rw c.to_event.ensures
    (releases c.args.self.now
    (record c.args.self.now { core = c.step-answer.new.self })
    c.args.worker c.args.page c.in-Some.placement.now c.step-answer.result
    c.step-answer.ensures.answer c.step-answer.ensures.setup c.in-Some.ensures.kept
    (kept-where_refused c.step-answer.result (without_page c.args.self.now.resident c.args.page)
    c.args.self.now.resident (sym c.is_err.ensures.value ∙ c.if-is_err.true)) (refl, refl))

pub returns : goal.returns
returns c =
    rw c.to_event-2.ensures
    (releases c.args.self.now
    (record c.args.self.now { core = c.step-answer.new.self; resident = c.remove.new.self })
    c.args.worker c.args.page c.in-Some.placement.now c.step-answer.result
    c.step-answer.ensures.answer c.step-answer.ensures.setup c.in-Some.ensures.kept
    (c.remove.ensures.rest ∙ gone-where_given c.step-answer.result
    (without_page c.args.self.now.resident c.args.page) c.args.self.now.resident
    (sym c.is_err.ensures.value ∙ c.if-is_err.false)) (refl, refl))
