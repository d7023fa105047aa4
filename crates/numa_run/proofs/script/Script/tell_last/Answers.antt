use Rattle.std.proofs.Common.{subst}
use Rattle.numa_script.specs.declared.page_line.PageLine.TheVariants as page
use Rattle.numa_run.proofs.JudgeLemmas.{last_text, moved-text}
use Rattle.numa_run.proofs.Taking.{Tells, text-unready, text-written}
use Rattle.numa_run.proofs.script.Script.tell_last.Goals as goal

pub returns-in_default : goal.returns-in_default
returns-in_default g c =
    rw c.in_default.is
    (text-unready g.W.Write.contents c.args.output.now c.say_reply.new.output
    c.args.self.now.settings page.Moved c.say_reply.ensures)

pub returns : goal.returns
returns g c =
    rw c.in-Some.is
    (text-written g.W.Write.contents c.args.output.now c.tell_last.new.output page.Moved last_text
    moved-text c.in-Some.running.value (subst (Tells g.W.Write.contents c.args.output.now
    c.tell_last.new.output (λ machine state. last_text state)) c.deref.ensures
    c.tell_last.ensures))
