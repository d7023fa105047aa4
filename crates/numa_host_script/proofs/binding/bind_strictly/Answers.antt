use Rattle.std.proofs.Common.{sym, ◌∙◌}
use Rattle.numa_host_script.proofs.Bindings.{judged-early, judged-fair, judged-late, judged-none}
use Rattle.numa_host_script.proofs.Bindings.{judged-starved, nobody-replies}
use Rattle.numa_host_script.proofs.Unmapped.{answered}
use Rattle.numa_host_script.proofs.binding.bind_strictly.Goals as goal

pub returns-in_default : goal.returns-in_default
returns-in_default c =
    judged-none c.args.running.now c.args.process c.args.command.now _ c.obey_in.result
    (sym c.strict_binding_in.ensures ∙ c.in_default.is)
    (answered c.args.running.now c.obey_in.new.host c.args.process c.args.command.now
    c.obey_in.result c.obey_in.ensures)

pub returns-in_default-space_of : goal.returns-in_default-space_of
returns-in_default-space_of c =
    nobody-replies c.args.running.now _ c.obey_in-in_default-space_of.result c.args.process _
    c.in_default-space_of.ensures

pub returns-then-not-has_astray : goal.returns-then-not-has_astray
returns-then-not-has_astray c =
    judged-fair c.args.running.now c.args.process c.args.command.now c.in-Some.binding
    (sym c.strict_binding_in.ensures ∙ c.in-Some.is) c.in-Some-space_of.space.now
    c.in-Some-space_of.ensures c.has_astray.result c.has_astray.ensures _
    c.obey_in-then-not-has_astray.result c.if-not-has_astray.true
    (answered c.args.running.now c.obey_in-then-not-has_astray.new.host c.args.process
    c.args.command.now c.obey_in-then-not-has_astray.result
    c.obey_in-then-not-has_astray.ensures)

pub returns-in_default-is_late_in : goal.returns-in_default-is_late_in
returns-in_default-is_late_in c =
    rw c.pages_reply.ensures
    (judged-starved c.args.running.now c.args.process c.args.command.now c.in-Some.binding
    (sym c.strict_binding_in.ensures ∙ c.in-Some.is) c.in-Some-space_of.space.now
    c.in-Some-space_of.ensures c.has_astray.result c.has_astray.ensures
    c.if-not-has_astray.false)

pub returns-then-late : goal.returns-then-late
returns-then-late c =
    rw c.pages_reply-then-late.ensures
    (judged-late c.args.running.now c.args.process c.args.command.now c.in-Some.binding
    (sym c.strict_binding_in.ensures ∙ c.in-Some.is) c.in-Some-space_of.space.now
    c.in-Some-space_of.ensures c.has_astray.result c.has_astray.ensures
    c.if-not-has_astray.false c.in-Ok.late c.in-Ok.ensures c.if-late.true)

pub returns : goal.returns
returns c =
    judged-early c.args.running.now c.args.process c.args.command.now c.in-Some.binding
    (sym c.strict_binding_in.ensures ∙ c.in-Some.is) c.in-Some-space_of.space.now
    c.in-Some-space_of.ensures c.has_astray.result c.has_astray.ensures
    c.if-not-has_astray.false c.in-Ok.late c.in-Ok.ensures _ c.obey_in-2.result
    c.if-late.false
    (answered c.args.running.now c.obey_in-2.new.host c.args.process c.args.command.now
    c.obey_in-2.result c.obey_in-2.ensures)
