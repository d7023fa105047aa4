use Rattle.std.proofs.Common.{◌∙◌, sym, subst}
use Rattle.numa_host_script.specs.declared.running.RunningHost.{RunningHost}
use Rattle.numa_host_script.proofs.Written.{TellsShown, written-misplaced, written-own}
use Rattle.numa_host_script.proofs.Written.{written-shown}
use Rattle.numa_host_script.proofs.script.HostScript.write_own.Goals as goal

pub returns-in_default-misplaced : goal.returns-in_default-misplaced
returns-in_default-misplaced g c =
    rw c.in-Some.is
    (λ session stands.
    written-shown g.W.Write.contents c.args.output.now c.say_shown_in.new.output
    c.args.self.now.script c.args.self.now.limits c.in-Some.running.value c.args.taken session
    (sym c.in_default-misplaced.is ∙ c.misplaced.ensures)
    (rw (← c.shown_by-shows.ensures)
    (subst (λ (r : RunningHost). TellsShown g.W.Write.contents c.args.output.now
    c.say_shown_in.new.output r c.shown_by-shows.result)
    c.deref.ensures c.say_shown_in.ensures)) stands)

pub returns-in-Some : goal.returns-in-Some
returns-in-Some g c =
    rw c.in-Some.is
    (λ session stands.
    written-misplaced g.W.Write.contents c.args.output.now c.say_reply.new.output
    c.args.self.now.script c.args.self.now.limits c.in-Some.running.value c.args.taken
    c.in-Some-misplaced.reply c.lacks_memory.result session
    (sym c.in-Some-misplaced.is ∙ c.misplaced.ensures) c.say_reply.ensures
    c.lacks_memory.ensures stands)

pub returns : goal.returns
returns g c =
    rw c.in_default.is
    (λ session stands.
    written-own g.W.Write.contents c.args.output.now c.write.new.output c.args.self.now.script
    c.write.new.self c.args.self.now.limits c.args.taken c.write.result session c.write.ensures
    stands)
