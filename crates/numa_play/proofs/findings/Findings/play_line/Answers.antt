use Rattle.std.proofs.Common.{◌≡◌, ◌∙◌, OnOk, subst, sym}
use Rattle.numa_host_script.specs.Taking.{SessionStandsFor}
use Rattle.numa_host_script.specs.declared.script.HostScript.{HostScript}
use Rattle.numa_script.specs.declared.line.ScriptLine.{ScriptLine}
use Rattle.numa_play.specs.Deeds.{CarriesLine}
use Rattle.numa_play.proofs.findings.Findings.play_line.Goals as goal

pub returns-in-Ok : goal.returns-in-Ok
returns-in-Ok g c session stands =
    let same : c.heed_rules.new.self.script ≡ c.args.self.now.script =
    c.heed_rules.ensures ∙ c.note.ensures in
    subst (λ (said : ScriptLine). OnOk c.judge_line.result
    (CarriesLine said session c.judge_line.new.self.script)) c.parse-said.ensures
    (c.judge_line.ensures session (subst (λ (script : HostScript). SessionStandsFor script session)
    (sym same) stands))
