use Rattle.std.proofs.Common.{None, refl, subst}
use Rattle.numa_host_script.specs.Sessions.{session_after}
use Rattle.numa_host_script.specs.Taking.{SessionJudges}
use Rattle.numa_script.specs.declared.line.ScriptLine.{ScriptLine}
use Rattle.numa_script.specs.declared.page_line.PageLine.TheVariants as page
use Rattle.numa_play.specs.Deeds.{told_to}
use Rattle.numa_play.proofs.handing.say_room.Goals as goal

pub returns-in_default : goal.returns-in_default
returns-in_default c session stands =
    let judged = subst (λ (said : ScriptLine). SessionJudges c.args.script.now said c.judge.result
    c.judge.new.self) c.room_of.ensures c.judge.ensures session stands in (
      session_after judged.0 session (told_to None (page.Room c.args.node c.args.pages)),
      judged.1,
      (judged.0, refl),
    )

pub returns : goal.returns
returns c session stands =
    let judged = subst (λ (said : ScriptLine). SessionJudges c.args.script.now said c.judge.result
    c.judge.new.self) c.room_of.ensures c.judge.ensures session stands in (
      session_after judged.0 session (told_to None (page.Room c.args.node c.args.pages)),
      judged.1,
      (judged.0, refl),
    )
