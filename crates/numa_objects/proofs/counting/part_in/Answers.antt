use Rattle.std.proofs.Common.{◌+◌, ◌-◌, ℕ, ap, arith}
use Rattle.numa_ranges.specs.Runs.{end_of}
use Rattle.numa_objects.proofs.Counted.{none-before, none-behind, some-before, some-behind}
use Rattle.numa_objects.proofs.counting.part_in.Goals as goal

pub returns-then-run-place-clause-part : goal.returns-then-run-place-clause-part
returns-then-run-place-clause-part c = rw c.in-Before.is
    (none-before c.in-Before.place c.args.run.now (omega (arith, c.if-run-place.true)))

pub returns-else-run-place-clause-part : goal.returns-else-run-place-clause-part
returns-else-run-place-clause-part c = rw c.in-Before.is
    (some-before c.in-Before.place c.min.result c.args.run.now
    (omega (arith, c.if-run-place.false)) c.min.ensures)

pub returns-then-end-place-clause-part : goal.returns-then-end-place-clause-part
returns-then-end-place-clause-part c = rw c.in-From.is
    (none-behind c.in-From.place c.args.run.now (omega (arith, c.if-end-place.true)))

pub returns-else-end-place-clause-part : goal.returns-else-end-place-clause-part
returns-else-end-place-clause-part c = rw c.in-From.is
    (some-behind c.in-From.place c.max-first.result _ _ c.args.run.now
    (omega (arith, c.if-end-place.false)) c.max-first.ensures (ap (λ (m : ℕ).
    end_of c.args.run.now - m) c.max-first.ensures) (ap (λ (m : ℕ).
    c.args.run.now.index + (m - c.args.run.now.first)) c.max-first.ensures))
