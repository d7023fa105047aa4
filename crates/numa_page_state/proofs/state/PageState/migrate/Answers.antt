use Rattle.std.proofs.Common.{refl}
use Rattle.std.proofs.lemmas.Result.{err_from_is_err_and}
use Rattle.numa_mask.specs.NodeSet.{both}
use Rattle.numa_placed.specs.Refusals.{migrate_cause}
use Rattle.numa_page_state.specs.Lying.{motion}
use Rattle.numa_page_state.proofs.Migrating.{denied-still, few-left}
use Rattle.numa_page_state.proofs.Served.{moved-denied, moved-done}
use Rattle.numa_page_state.proofs.state.PageState.migrate.Goals as goal

pub returns-clause-does : goal.returns-clause-does
returns-clause-does c = λ lying lies.
    let to = both c.args.to.now c.args.space.now.allowed in
    let is = c.in_ok-moved.ensures lying.spots lying.room lies.spots lies.room in
    moved-done c.args.self.now (record {
      placed = c.migrate.new.placed;
      rooms = c.migrate.new.rooms;
      follows = c.args.self.now.follows;
      last = c.keep.new.last;
      arrived = c.args.self.now.arrived;
    }) lying lies c.args.resident.now
    (motion lying.room lying.spots c.args.from.now to)
    (migrate_cause c.args.space.now.allowed c.args.to.now) c.in_ok-moved.moved
    c.with_held-done.result is.0 is.1
    (c.with_held-done.ensures _ c.args.resident.now is.1.told refl) refl refl c.keep.ensures

pub returns-in_err-moved-clause-does : goal.returns-in_err-moved-clause-does
returns-in_err-moved-clause-does c =
    let exit = err_from_is_err_and c.from_residual.result c.from_residual.ensures.1 in
    rw (exit.1, exit.2) (λ lying lies.
    let to = both c.args.to.now c.args.space.now.allowed in
    let is = c.in_err-moved.ensures lying.spots lying.room lies.spots lies.room in
    moved-denied c.args.self.now (record {
      placed = c.migrate.new.placed;
      rooms = c.migrate.new.rooms;
      follows = c.args.self.now.follows;
      last = c.args.self.now.last;
      arrived = c.args.self.now.arrived;
    }) lying lies c.args.resident.now
    (motion lying.room lying.spots c.args.from.now to)
    (migrate_cause c.args.space.now.allowed c.args.to.now) c.in_err-moved.field-0.0 is.0
    (λ i. record {
      placed = is.1 i;
      rooms = is.2 i;
      follows = c.args.self.now.follows;
      last = c.args.self.now.last;
      arrived = c.args.self.now.arrived;
    }))

pub returns-in_err-moved-clause-unchanged : goal.returns-in_err-moved-clause-unchanged
returns-in_err-moved-clause-unchanged c =
    let exit = err_from_is_err_and c.from_residual.result c.from_residual.ensures.1 in
    let is = denied-still c.args.self.now.placed c.migrate.new.placed c.args.self.now.rooms
    c.migrate.new.rooms c.args.from.now (both c.args.to.now c.args.space.now.allowed)
    (migrate_cause c.args.space.now.allowed c.args.to.now) c.in_err-moved.field-0.0
    c.in_err-moved.ensures in
    rw exit.1 (
    λ i. record {
      placed = is.0 i;
      rooms = is.1 i;
      follows = c.args.self.now.follows;
      last = c.args.self.now.last;
      arrived = c.args.self.now.arrived;
    })

pub with_held-done-requires : goal.with_held-done-requires
with_held-done-requires c =
    few-left c.args.self.now.placed c.migrate.new.placed c.args.self.now.rooms c.migrate.new.rooms
    c.args.from.now (both c.args.to.now c.args.space.now.allowed)
    (migrate_cause c.args.space.now.allowed c.args.to.now) c.in_ok-moved.moved c.in_ok-moved.ensures
