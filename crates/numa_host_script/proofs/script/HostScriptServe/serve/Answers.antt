use Rattle.std.proofs.Common.{subst}
use Rattle.numa_lines.specs.Written.{Said}
use Rattle.numa_script.specs.declared.line.ScriptLine.{ScriptLine}
use Rattle.numa_host_script.specs.Sessions.{HostLack, session_after, session_answer}
use Rattle.numa_host_script.specs.Taking.{SessionStandsFor}
use Rattle.numa_host_script.proofs.script.HostScriptServe.serve.Goals as goal

pub returns : goal.returns
returns g c = λ session stands.
    let done = c.serve_line.ensures session stands in
    subst (λ (said : ScriptLine). (lack : HostLack)
    × SessionStandsFor c.serve_line.new.self (session_after lack session said)
    × Said g.W.Write.contents c.args.output.now c.serve_line.new.output
    (session_answer lack session said)) c.parse_over.ensures (done.0, done.1, done.2)
