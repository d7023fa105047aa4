use Rattle.std.proofs.Common.{[], refl}
use Rattle.numa_host_huge.specs.Sharing.{lent}
use Rattle.numa_host_huge.proofs.shared.HostHuge.has_astray.Goals as goal

pub returns-in-Some : goal.returns-in-Some
returns-in-Some c = λ at history lies stands.
    let has = c.in-Some.ensures.home at lies in
    rw has.1 (c.huge_astray.ensures (lent has.2.0 has.0) history [] has.2.1.pages stands)

pub returns-in-None : goal.returns-in-None
returns-in-None c = λ at history lies stands. rw (c.in-None.ensures.home at lies) refl
