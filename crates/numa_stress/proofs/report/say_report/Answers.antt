use Rattle.numa_lines.proofs.Adding.{said_both}
use Rattle.numa_stress.proofs.report.say_report.Goals as goal

pub returns : goal.returns
returns g c =
    said_both g.W.Write.contents c.args.output.now c.say_match.new.output c.say_line.new.output _ _
    (said_both g.W.Write.contents c.args.output.now c.say_answers.new.output c.say_match.new.output
    _ _ c.say_answers.ensures c.say_match.ensures) c.say_line.ensures
