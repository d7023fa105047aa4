use Rattle.std.proofs.Common.{Bool, subst}
use Rattle.numa_lines.specs.Written.{Said}
use Rattle.numa_page_state.specs.Outcomes.{Lack}
use Rattle.numa_script.specs.declared.line.ScriptLine.{ScriptLine}
use Rattle.numa_run.specs.Answers.{after, answer_of, own_line}
use Rattle.numa_run.specs.Scripts.{ScriptStandsFor}
use Rattle.numa_run.proofs.Taking.{served}
use Rattle.numa_run.proofs.script.ScriptServe.serve.Goals as goal

pub returns : goal.returns
returns g c = λ state stands.
    let done = served g.W.Write.contents c.args.output.now c.write.new.output c.args.self.now
    c.take_said-taken.new.self c.write.new.self (own_line c.parse-said.result)
    c.take_said-taken.result c.write.result c.take_said-taken.ensures c.write.ensures state
    stands in
    subst (λ (said : ScriptLine). (lack : Lack)
    × ScriptStandsFor c.write.new.self (after lack state (own_line said))
    × Said g.W.Write.contents c.args.output.now c.write.new.output
    (answer_of lack state (own_line said))) c.parse-said.ensures (done.0, done.1, done.2)
