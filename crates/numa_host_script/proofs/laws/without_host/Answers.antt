use Rattle.std.proofs.Common.{ap}
use Rattle.numa_run.specs.Replies.{bytes_of}
use Rattle.numa_host_script.specs.Sessions.{Served, Single}
use Rattle.numa_host_script.proofs.Taken.{goes-on}
use Rattle.numa_host_script.proofs.laws.without_host.Goals as goal

pub returns : goal.returns
returns c = λ lack state said other.
    let same = goes-on lack (Single state) said other in
    (ap (λ (s : Served). bytes_of s.answer) same, ap (λ (s : Served). s.session) same)
