use Rattle.numa_page_state.specs.Lying.{ground_in}
use Rattle.numa_page_state.proofs.Stating.{states-filling, states-freely}
use Rattle.numa_page_state.proofs.state.state.Goals as goal

pub returns-in-None-clause-states : goal.returns-in-None-clause-states
returns-in-None-clause-states c =
    rw c.in-None.is
    (states-freely c.args.placed.now c.state_beside.new.self
    (ground_in c.args.space.now c.args.resident.now) c.args.start c.args.length c.args.node
    c.state_beside.result c.state_beside.ensures.accepted c.state_beside.ensures.ok
    c.state_beside.ensures.err c.state_beside.ensures.unchanged)

pub returns-in-Some-clause-states : goal.returns-in-Some-clause-states
returns-in-Some-clause-states c =
    rw c.in-Some.is
    (states-filling c.args.placed.now c.state_within.new.self
    (ground_in c.args.space.now c.args.resident.now) c.args.start c.args.length c.args.node
    c.in-Some.have c.state_within.new.rooms c.state_within.result c.state_within.ensures.accepted
    c.state_within.ensures.ok c.state_within.ensures.fits
    c.state_within.ensures.taken c.state_within.ensures.err c.state_within.ensures.unchanged
    c.state_within.ensures.rooms)
