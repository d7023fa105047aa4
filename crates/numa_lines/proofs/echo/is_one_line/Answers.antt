use Rattle.std.proofs.Common.{ℕ, Option, Some, None, ap, sym}
use Rattle.numa_lines.specs.Echo.{ends_at}
use Rattle.numa_lines.proofs.Marking.{first_feed}
use Rattle.numa_lines.proofs.echo.is_one_line.Goals as goal

pub returns-in-Some : goal.returns-in-Some
returns-in-Some c =
    let answer = c.args.answer.now in
    let first = first_feed answer (Some c.in-Some.end) c.in-Some.ensures in
    ap (λ (found : Option ℕ). ends_at found answer) (sym first)

pub returns-in-None : goal.returns-in-None
returns-in-None c =
    let answer = c.args.answer.now in
    let first = first_feed answer None c.in-None.ensures in
    ap (λ (found : Option ℕ). ends_at found answer) (sym first)
