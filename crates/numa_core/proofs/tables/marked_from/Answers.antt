use Rattle.std.proofs.Common.{ℕ, ◌+◌, ◌%◌, ◌^◌, ◌<◌, ◌≤◌, arith, subst, sym}
use Rattle.numa_core.proofs.MarkedFrames.{marks_on, marks_few}
use Rattle.numa_core.proofs.tables.marked_from.Goals as goal

pub returns-clause-marked : goal.returns-clause-marked
returns-clause-marked c p low high =
    let wide : c.index.result.now < 2 ^ 64 = omega arith in
    marks_on c.args.met.now.items c.args.place c.index.result.now
    (omega (arith, c.requires, c.args.met.now.ok.0)) wide c.index.ensures p low
    (subst (λ (n : ℕ). p < c.args.place + n) c.trailing_ones.ensures high)

pub returns-clause-few : goal.returns-clause-few
returns-clause-few c =
    let wide : c.index.result.now < 2 ^ 64 = omega arith in
    subst (λ (n : ℕ). n ≤ 64) (sym c.trailing_ones.ensures)
    (marks_few c.index.result.now (c.args.place % 64) wide)
