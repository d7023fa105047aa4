use Rattle.std.proofs.Common.{refl}
use Rattle.std.proofs.lemmas.Result.{err_from_is_err_and}
use Rattle.numa_page_state.specs.Lying.{ground_in}
use Rattle.numa_page_state.proofs.Populating.{touches-still}
use Rattle.numa_page_state.proofs.Served.{touch-denied, touch-done}
use Rattle.numa_page_state.proofs.state.PageState.populate.Goals as goal

pub returns-clause-does : goal.returns-clause-does
returns-clause-does c = λ lying lies.
    let is = c.in_ok-done.ensures lying lies.spots lies.room in
    touch-done c.args.self.now (record {
      placed = c.touch.new.placed;
      rooms = c.touch.new.rooms;
      follows = c.args.self.now.follows;
      last = c.args.self.now.last;
      arrived = c.in_ok-done.done;
    }) lying lies
    (ground_in c.args.space.now c.args.resident.now) c.args.start c.args.length c.args.task
    c.args.cpu is.0 is.1 is.2 is.3 refl refl

pub returns-in_err-done-clause-does : goal.returns-in_err-done-clause-does
returns-in_err-done-clause-does c =
    let exit = err_from_is_err_and c.from_residual.result c.from_residual.ensures.1 in
    rw (exit.1, exit.2) (λ lying lies.
    let is = c.in_err-done.ensures lying lies.spots lies.room in
    touch-denied c.args.self.now (record {
      placed = c.touch.new.placed;
      rooms = c.touch.new.rooms;
      follows = c.args.self.now.follows;
      last = c.args.self.now.last;
      arrived = c.args.self.now.arrived;
    }) lying lies
    (ground_in c.args.space.now c.args.resident.now) c.args.start c.args.length c.args.task
    c.args.cpu c.in_err-done.field-0.0 is.0 (λ i. record {
      placed = is.1 i;
      rooms = is.2 i;
      follows = c.args.self.now.follows;
      last = c.args.self.now.last;
      arrived = c.args.self.now.arrived;
    }))

pub returns-in_err-done-clause-unchanged : goal.returns-in_err-done-clause-unchanged
returns-in_err-done-clause-unchanged c =
    let exit = err_from_is_err_and c.from_residual.result c.from_residual.ensures.1 in
    let is = touches-still c.args.self.now.placed c.touch.new.placed c.args.self.now.rooms
    c.touch.new.rooms (ground_in c.args.space.now c.args.resident.now) c.args.start c.args.length
    c.args.task c.args.cpu c.in_err-done.field-0.0 c.in_err-done.ensures in
    rw exit.1 (λ i. record {
      placed = is.0 i;
      rooms = is.1 i;
      follows = c.args.self.now.follows;
      last = c.args.self.now.last;
      arrived = c.args.self.now.arrived;
    })
