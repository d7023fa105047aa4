use Rattle.numa_page_state.proofs.Singles.{rooms-none, rooms-some}
use Rattle.numa_page_state.proofs.state.rooms_of.Goals as goal

pub returns-in-None : goal.returns-in-None
returns-in-None c = rw c.in-None.is (λ room have. rooms-none c.endless.result room c.endless.ensures
    have)

pub returns-in-Some : goal.returns-in-Some
returns-in-Some c = rw c.in-Some.is (λ room have. rooms-some c.in-Some.have room have)
