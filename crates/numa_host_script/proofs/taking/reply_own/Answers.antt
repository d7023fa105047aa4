use Rattle.std.proofs.Common.{None, Some, Ok, Err, refl, sym, ap, ◌∙◌}
use Rattle.numa_script.specs.declared.reply.Reply.TheVariants as reply
use Rattle.numa_host_script.specs.Hosts.{plenty}
use Rattle.numa_host_script.specs.Sessions.{own_where, plain_reply}
use Rattle.numa_host_script.proofs.Obeyed.{still}
use Rattle.numa_host_script.proofs.Taken.{own-found}
use Rattle.numa_host_script.proofs.taking.reply_own.Goals as goal

pub returns-in-Some-Ok : goal.returns-in-Some-Ok
returns-in-Some-Ok c =
    own-found c.args.running.now c.obey_host.new.running c.args.line.now c.obey_host.result
    (Some (Ok c.in-Some-Ok.command))
    (sym (c.in-Some-Ok.is ∙ ap Some c.in-Some-Ok.field-0-is) ∙ c.host_command_of.ensures)
    c.obey_host.ensures.runs

pub returns-in-Some-Err : goal.returns-in-Some-Err
returns-in-Some-Err c =
    own-found c.args.running.now c.args.running.now c.args.line.now (reply.BadWord c.in-Some-Err.fault)
    (Some (Err c.in-Some-Err.fault))
    (sym (c.in-Some-Err.is ∙ ap Some c.in-Some-Err.field-0-is) ∙ c.host_command_of.ensures)
    (still c.args.running.now (reply.BadWord c.in-Some-Err.fault)
    (λ lack at. own_where (Some (Err c.in-Some-Err.fault)) lack at c.args.line.now) plenty
    (λ at stands. refl))

pub returns-in-None : goal.returns-in-None
returns-in-None c =
    rw c.plain_reply.ensures
    (own-found c.args.running.now c.args.running.now c.args.line.now
    (plain_reply c.args.line.now) None (sym c.in-None.is ∙ c.host_command_of.ensures)
    (still c.args.running.now (plain_reply c.args.line.now)
    (λ lack at. own_where None lack at c.args.line.now) plenty (λ at stands. refl)))
