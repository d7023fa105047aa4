use Rattle.std.proofs.Common.{[], refl}
use Rattle.std.proofs.lemmas.Result.{err_from_is_err_and}
use Rattle.numa_page_state.specs.Lying.{ground_in}
use Rattle.numa_page_state.proofs.Moving.{move-denied-still}
use Rattle.numa_page_state.proofs.Served.{move-done, move-refused}
use Rattle.numa_page_state.proofs.state.PageState.send.Goals as goal

pub returns-clause-does : goal.returns-clause-does
returns-clause-does c = λ lying lies.
    let is = c.in_ok-move_page.ensures lying lies.spots lies.room in
    move-done c.args.self.now (record {
      placed = c.move_page.new.placed;
      rooms = c.move_page.new.rooms;
      follows = c.args.self.now.follows;
      last = c.keep.new.last;
      arrived = c.args.self.now.arrived;
    }) lying lies (ground_in c.args.space.now [])
    c.args.page c.args.node c.at-spot.result c.told_of.result is.0 is.1 is.2
    c.at-spot.ensures (c.told_of.ensures is.3) refl refl c.keep.ensures

pub returns-in_err-move_page-clause-does : goal.returns-in_err-move_page-clause-does
returns-in_err-move_page-clause-does c =
    let exit = err_from_is_err_and c.from_residual.result c.from_residual.ensures.1 in
    rw (exit.1, exit.2) (λ lying lies.
    let is = c.in_err-move_page.ensures lying lies.spots lies.room in
    move-refused c.args.self.now (record {
      placed = c.move_page.new.placed;
      rooms = c.move_page.new.rooms;
      follows = c.args.self.now.follows;
      last = c.args.self.now.last;
      arrived = c.args.self.now.arrived;
    }) lying lies
    (ground_in c.args.space.now []) c.args.page c.args.node
    c.in_err-move_page.field-0.0 is.0
    (λ i. record {
      placed = is.1 i;
      rooms = is.2 i;
      follows = c.args.self.now.follows;
      last = c.args.self.now.last;
      arrived = c.args.self.now.arrived;
    }))

pub returns-in_err-move_page-clause-unchanged : goal.returns-in_err-move_page-clause-unchanged
returns-in_err-move_page-clause-unchanged c =
    let exit = err_from_is_err_and c.from_residual.result c.from_residual.ensures.1 in
    let is = move-denied-still c.args.self.now.placed c.move_page.new.placed c.args.self.now.rooms
    c.move_page.new.rooms (ground_in c.args.space.now []) c.args.page
    c.args.node c.in_err-move_page.field-0.0 c.in_err-move_page.ensures in
    rw exit.1 (
    λ i. record {
      placed = is.0 i;
      rooms = is.1 i;
      follows = c.args.self.now.follows;
      last = c.args.self.now.last;
      arrived = c.args.self.now.arrived;
    })
