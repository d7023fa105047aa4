use Rattle.std.proofs.Common.{◌≤◌, [], arith, ap, ◌∙◌}
use Rattle.numa_machine.specs.Machine.{Hardware}
use Rattle.numa_page_state.specs.Lying.{ground_in}
use Rattle.numa_page_state.proofs.Moving.{moves-filling, moves-freely}
use Rattle.numa_page_state.proofs.state.move_page.Goals as goal

pub returns-in-None : goal.returns-in-None
returns-in-None c =
    let count = c.nodes.ensures.nodes ∙ ap (λ (m : Hardware). m.nodes) c.machine.ensures in
    let few : c.args.space.now.machine.nodes ≤ 256 =
    omega (arith, count, c.nodes.ensures.at_most) in
    rw c.in-None.is
    (moves-freely c.args.placed.now c.move_page.new.self
    (ground_in c.args.space.now []) c.args.page
    c.args.node few c.move_page.result c.move_page.ensures.accepted c.move_page.ensures.ok
    c.move_page.ensures.err c.move_page.ensures.unchanged)

pub returns-in-Some : goal.returns-in-Some
returns-in-Some c =
    let count = c.nodes.ensures.nodes ∙ ap (λ (m : Hardware). m.nodes) c.machine.ensures in
    let few : c.args.space.now.machine.nodes ≤ 256 =
    omega (arith, count, c.nodes.ensures.at_most) in
    rw c.in-Some.is
    (moves-filling c.args.placed.now c.move_page_within.new.self
    (ground_in c.args.space.now []) c.args.page c.args.node few
    c.in-Some.have c.move_page_within.new.rooms
    c.move_page_within.result c.move_page_within.ensures.accepted c.move_page_within.ensures.ok
    c.move_page_within.ensures.taken c.move_page_within.ensures.err
    c.move_page_within.ensures.unchanged c.move_page_within.ensures.rooms)
