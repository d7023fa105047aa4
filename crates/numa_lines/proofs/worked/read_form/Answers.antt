use Rattle.std.proofs.Common.{◌+◌, ◌≤◌, length, arith, ap}
use Rattle.numa_lines.proofs.Marks.{inside_head}
use Rattle.numa_lines.proofs.worked.read_form.Goals as goal

pub returns-in-Some-clause-within : goal.returns-in-Some-clause-within
returns-in-Some-clause-within c =
    let inside : c.in-Some.end + 4 ≤ length c.head_of.result.now = c.in-Some.ensures.within in
    let count = ap length c.head_of.ensures in
    inside_head c.args.line.now c.in-Some.end (omega (arith, inside, count))
