use Rattle.std.proofs.Common.{◌∙◌, sym}
use Rattle.numa_play.proofs.Landed.{ends, goes, lacks, stays}
use Rattle.numa_play.proofs.landing.touch.Goals as goal

pub returns-then-lacks_cpu-clause-err : goal.returns-then-lacks_cpu-clause-err
returns-then-lacks_cpu-clause-err c session stands =
    lacks c.args.process c.args.access session c.lacks_cpu.result (c.lacks_cpu.ensures session stands)
    c.if-lacks_cpu.true

pub returns-in-Some-clause-ok : goal.returns-in-Some-clause-ok
returns-in-Some-clause-ok c session stands =
    let stay = stays c.args.process c.args.access session c.in-Some.node
    (sym (c.lies_now.ensures session stands) ∙ c.in-Some.is) in (
      sym (c.lacks_cpu.ensures session stands) ∙ c.if-lacks_cpu.false,
      session,
      stands,
      stay.0,
      stay.1,
      stay.2,
    )

pub returns-in-Ok-clause-ok : goal.returns-in-Ok-clause-ok
returns-in-Ok-clause-ok c session stands =
    let first = c.in-Ok.ensures.ok session stands in
    let go = goes c.args.process c.args.access session first.0
    (sym (c.lies_now.ensures session stands) ∙ c.in_default.is) first.2 in (
      sym (c.lacks_cpu.ensures session stands) ∙ c.if-lacks_cpu.false,
      first.0,
      first.1,
      go.0,
      first.3,
      go.1,
    )

pub returns-in-Err-clause-err : goal.returns-in-Err-clause-err
returns-in-Err-clause-err c session stands =
    ends c.args.process c.args.access session c.lacks_cpu.result c.in-Err.why
    (c.lacks_cpu.ensures session stands) c.if-lacks_cpu.false
    (sym (c.lies_now.ensures session stands) ∙ c.in_default.is) (c.in-Err.ensures.err session stands)
