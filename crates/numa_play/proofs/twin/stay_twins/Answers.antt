use Rattle.numa_host_script.specs.Sessions.{Single}
use Rattle.numa_play.proofs.Twins.{stay-line}
use Rattle.numa_play.proofs.twin.stay_twins.Goals as goal

pub returns-in-Some : goal.returns-in-Some
returns-in-Some c = λ alike state stands keep lack.
    stay-line c.args.said.now state lack c.in-None.is keep
    (c.serves_alike.ensures alike state (c.in-Some.ensures (Single state) stands) keep)
