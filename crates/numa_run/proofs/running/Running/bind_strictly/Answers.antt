use Rattle.std.proofs.Common.{sym, ◌∙◌}
use Rattle.numa_run.proofs.Binds.{judged-early, judged-fair, judged-late, judged-none}
use Rattle.numa_run.proofs.Binds.{judged-starved}
use Rattle.numa_run.proofs.running.Running.bind_strictly.Goals as goal

pub returns-in_default : goal.returns-in_default
returns-in_default c =
    judged-none c.args.self.now c.args.command.now c.accept.new.self c.accept.result
    (sym c.strict_binding_in.ensures ∙ c.in_default.is) c.accept.ensures

pub returns-then-not-any_astray : goal.returns-then-not-any_astray
returns-then-not-any_astray c =
    judged-fair c.args.self.now c.args.command.now c.in-Some.binding
    (sym c.strict_binding_in.ensures ∙ c.in-Some.is) c.any_astray.result
    (rw c.space-space.ensures.space at c.any_astray.ensures)
    c.accept-then-not-any_astray.new.self c.accept-then-not-any_astray.result
    c.if-not-any_astray.true c.accept-then-not-any_astray.ensures

pub returns-in_default-is_late_in : goal.returns-in_default-is_late_in
returns-in_default-is_late_in c =
    rw c.command_reply.ensures
    (judged-starved c.args.self.now c.args.command.now c.in-Some.binding
    (sym c.strict_binding_in.ensures ∙ c.in-Some.is) c.any_astray.result
    (rw c.space-space.ensures.space at c.any_astray.ensures) c.if-not-any_astray.false)

pub returns-then-late : goal.returns-then-late
returns-then-late c =
    rw c.command_reply-then-late.ensures
    (judged-late c.args.self.now c.args.command.now c.in-Some.binding
    (sym c.strict_binding_in.ensures ∙ c.in-Some.is) c.any_astray.result
    (rw c.space-space.ensures.space at c.any_astray.ensures) c.if-not-any_astray.false c.in-Ok.late
    (rw c.space-space.ensures.space at c.in-Ok.ensures) c.if-late.true)

pub returns : goal.returns
returns c =
    judged-early c.args.self.now c.args.command.now c.in-Some.binding
    (sym c.strict_binding_in.ensures ∙ c.in-Some.is) c.any_astray.result
    (rw c.space-space.ensures.space at c.any_astray.ensures) c.if-not-any_astray.false c.in-Ok.late
    (rw c.space-space.ensures.space at c.in-Ok.ensures) c.accept-2.new.self
    c.accept-2.result c.if-late.false c.accept-2.ensures
