-- What checking a line finds.
use Rattle.std.specs.Prelude.{◌≡◌, Bool, Option}
use Rattle.std.specs.Option.{option_map}
use Rattle.numa_host_script.specs.Judged.{session_fault}
use Rattle.numa_host_script.specs.Sessions.{HostLack, Session, session_after}
use Rattle.numa_host_script.specs.Standing.{StandsIn, unboxed}
use Rattle.numa_host_script.specs.declared.script.HostScript.{HostScript}
use Rattle.numa_script.specs.declared.line.ScriptLine.{ScriptLine}
use Rattle.numa_script.specs.declared.reply.Reply.{Reply}
use Rattle.numa_diagnose.specs.declared.finding.Finding.{Finding}

-- the fault or the refusal that the line is answered is returned, or nothing where it is answered
-- neither, and the script goes on
abbrev pub Judged : HostScript → ScriptLine → Option Reply → HostScript → Type 0
Judged old said found new =
    (session : Session) → StandsIn old.script old.limits (unboxed old.host) session
    → (lack : HostLack)
    × StandsIn new.script new.limits (unboxed new.host) (session_after lack session said)
    × (found ≡ session_fault lack session said)

-- the same of what is found
abbrev pub Checks : HostScript → ScriptLine → Option Finding → HostScript → Type 0
Checks old said found new =
    Judged old said (option_map (λ finding. finding.fault) found) new
