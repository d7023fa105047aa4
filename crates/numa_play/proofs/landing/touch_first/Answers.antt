use Rattle.std.proofs.Common.{◌∙◌, refl, subst, sym}
use Rattle.numa_host_script.specs.Sessions.{Session, session_after}
use Rattle.numa_host_script.specs.Taking.{SessionJudges}
use Rattle.numa_script.specs.declared.line.ScriptLine.{ScriptLine}
use Rattle.numa_play.specs.Deeds.{populate_of}
use Rattle.numa_play.proofs.landing.touch_first.Goals as goal

pub returns-in-Some-clause-err : goal.returns-in-Some-clause-err
returns-in-Some-clause-err c session stands =
    let judged = subst (λ (said : ScriptLine). SessionJudges c.args.script.now said c.judge.result
    c.judge.new.self) c.populate_of.ensures c.judge.ensures session stands in
    (judged.0, c.in-Some.reply, sym judged.2 ∙ c.in-Some.is, c.end_of.ensures)

pub returns-in-None-clause-ok : goal.returns-in-None-clause-ok
returns-in-None-clause-ok c session stands =
    let judged = subst (λ (said : ScriptLine). SessionJudges c.args.script.now said c.judge.result
    c.judge.new.self) c.populate_of.ensures c.judge.ensures session stands in
    let then : Session =
    session_after judged.0 session (populate_of c.args.process c.args.access) in (
      then,
      judged.1,
      (judged.0, sym judged.2 ∙ c.in-None.is, refl),
      c.lies_now.ensures then judged.1,
    )
