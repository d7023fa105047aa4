use Rattle.std.proofs.Common.{◌≡◌, ℕ, eqb, length, arith}
use Rattle.std.proofs.lemmas.List.Sums.{count_by-le-length}
use Rattle.numa_reports.proofs.Placed.{filled-places}
use Rattle.numa_reports.proofs.tally.count_filled.Goals as goal

pub tally-requires : goal.tally-requires
tally-requires c node small =
    omega (
      arith,
      c.requires.none node small,
      c.requires.few,
      count_by-le-length (λ (x : ℕ). eqb x node) c.fill.new.out,
    )

pub returns-clause-ok : goal.returns-clause-ok
returns-clause-ok c node small =
    let long : length c.fill.new.out ≡ length c.args.nodes.now = omega arith in
    omega (
      arith,
      c.tally.ensures node small,
      c.requires.none node small,
      filled-places c.args.plan.now c.args.touch.task c.args.touch.cpu c.args.range.now.first
          c.fill.new.out (length c.args.nodes.now) long c.in_ok-fill.ensures.ok.1 node,
    )
