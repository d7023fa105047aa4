use Rattle.std.proofs.Common.{subst, sym}
use Rattle.numa_host_script.specs.Sessions.{session_after}
use Rattle.numa_host_script.specs.Taking.{SessionStandsFor}
use Rattle.numa_host_script.specs.declared.script.HostScript.{HostScript}
use Rattle.numa_play.proofs.Carried.{on-any}
use Rattle.numa_play.proofs.findings.Findings.judge_line.Goals as goal

pub returns-in_default : goal.returns-in_default
returns-in_default g c session stands =
    let judged = c.judge_behind.ensures session stands in
    on-any c.tell_hint.result (
      judged.0,
      subst (λ (script : HostScript).
          SessionStandsFor script (session_after judged.0 session c.args.said.now))
          (sym c.tell_hint.ensures) judged.1,
    )

pub returns-then-is_passed : goal.returns-then-is_passed
returns-then-is_passed g c session stands =
    let judged = c.judge_behind.ensures session stands in (judged.0, judged.1)

pub returns : goal.returns
returns g c session stands =
    let judged = c.judge_behind.ensures session stands in
    on-any c.tell_found.result (
      judged.0,
      subst (λ (script : HostScript).
          SessionStandsFor script (session_after judged.0 session c.args.said.now))
          (sym c.tell_found.ensures) judged.1,
    )
