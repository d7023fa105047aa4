use Rattle.std.proofs.Common.{Ok, refl}
use Rattle.numa_script.specs.Lines.{alone}
use Rattle.numa_script.specs.declared.line.Line.TheVariants as line
use Rattle.numa_host_script.proofs.Resizes.{comes-taken}
use Rattle.numa_host_script.proofs.Taken.{is-other, own-taken}
use Rattle.numa_host_script.proofs.taking.take_own.Goals as goal

pub returns-in-Ok : goal.returns-in-Ok
returns-in-Ok c = rw (c.in-Pages.is, c.in-Ok.is) c.own_page.ensures

pub returns-in-Err : goal.returns-in-Err
returns-in-Err c =
    own-taken c.args.running.now c.reply_own.new.running c.args.line.now c.reply_own.result
    (rw (c.in-Pages.is, c.in-Err.is) tt) c.reply_own.ensures

pub returns-in-Huge : goal.returns-in-Huge
returns-in-Huge c =
    rw c.in-Huge.is
    (comes-taken c.args.running.now c.own_huge.new.running (alone (line.Huge c.in-Huge.said))
    c.own_huge.result (λ lack at. refl) c.own_huge.ensures)

pub returns-in_default : goal.returns-in_default
returns-in_default c =
    own-taken c.args.running.now c.reply_own-in_default.new.running c.args.line.now
    c.reply_own-in_default.result
    (is-other c.args.line.now (λ shown. c.in_default.not-Pages (Ok shown)) c.in_default.not-Huge)
    c.reply_own-in_default.ensures
