use Rattle.std.proofs.Common.{ap, refl, sym, Some, ◌∙◌}
use Rattle.numa_machine.specs.Machine.{Hardware}
use Rattle.numa_placed.specs.Refusals.{lacks_node}
use Rattle.numa_page_state.proofs.Served.{room-denied, room-done}
use Rattle.numa_page_state.proofs.state.PageState.limit.Goals as goal

pub returns-then-lacks_node-clause-does : goal.returns-then-lacks_node-clause-does
returns-then-lacks_node-clause-does c = λ lying lies.
    room-denied c.args.self.now c.args.self.now lying lies c.args.space.now.machine c.args.node
    c.args.pages
    (ap (λ (machine : Hardware). lacks_node machine c.args.node) (sym c.machine.ensures)
    ∙ sym c.lacks_node.ensures.lacks ∙ c.if-lacks_node.true) refl

pub returns-clause-does : goal.returns-clause-does
returns-clause-does c = λ lying lies.
    room-done c.args.self.now (record {
      placed = c.args.self.now.placed;
      rooms = Some c.limited.result;
      follows = c.args.self.now.follows;
      last = c.args.self.now.last;
      arrived = c.args.self.now.arrived;
    })
    lying lies c.args.space.now.machine c.args.node c.args.pages c.limited.result
    (ap (λ (machine : Hardware). lacks_node machine c.args.node) (sym c.machine.ensures)
    ∙ sym c.lacks_node.ensures.lacks ∙ c.if-lacks_node.false) c.limited.ensures refl refl refl
    refl refl
