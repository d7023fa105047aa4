use Rattle.numa_page_state.specs.Lying.{ground_in}
use Rattle.numa_page_state.proofs.Served.{at-still, at-told}
use Rattle.numa_page_state.proofs.state.PageState.at.Goals as goal

pub returns-clause-does : goal.returns-clause-does
returns-clause-does c =
    at-told c.args.self.now c.state.new.placed c.state.new.rooms
    (ground_in c.args.space.now c.args.resident.now) c.args.start c.args.length c.args.node
    c.state.result c.state.ensures.states

pub returns-clause-unchanged : goal.returns-clause-unchanged
returns-clause-unchanged c =
    at-still c.args.self.now c.state.new.placed c.state.new.rooms
    (ground_in c.args.space.now c.args.resident.now) c.args.start c.args.length c.args.node
    c.state.result c.state.ensures.states
