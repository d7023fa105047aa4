use Rattle.std.proofs.Common.{◌-◌, arith}
use Rattle.numa_placed.proofs.Heads.{part-repeats}
use Rattle.numa_placed.proofs.stretch.turn_end.Goals as goal

pub returns-clause-repeats : goal.returns-clause-repeats
returns-clause-repeats c cpu =
    let found = c.in-Some-range_of in
    part-repeats c.args.space.now c.args.task cpu c.args.page
    (c.frame_from-end.result - c.args.page) c.period_in-count.result found.range
    c.policy_at-policy.result found.ensures.low found.ensures.pages
    (omega (
      arith,
      c.frame_from-end.ensures,
      c.min.ensures,
      c.if-end-page.false,
      found.ensures.high,
    ))
    found.ensures.high c.policy_at-policy.ensures.policy c.period_in-count.ensures.now
