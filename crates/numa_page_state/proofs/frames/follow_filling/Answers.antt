use Rattle.std.proofs.Common.{None, Some, subst, sym}
use Rattle.std.specs.Prelude.{Result}
use Rattle.numa_placed.specs.declared.moved.Moved.{Moved}
use Rattle.numa_requests.specs.declared.page_refusal.PlacedRefusal.{PlacedRefusal}
use Rattle.numa_page_state.specs.Lying.{OfNodes, still}
use Rattle.numa_page_state.specs.Standing.{LastAs, Migrates}
use Rattle.numa_page_state.specs.declared.last.Last.{Last}
use Rattle.numa_page_state.proofs.Migrating.{always-free, few-left, migrates-filling}
use Rattle.numa_page_state.proofs.Follows.{followed-err, followed-ok}
use Rattle.numa_page_state.proofs.frames.follow_filling.Goals as goal

pub returns-in-Ok : goal.returns-in-Ok
returns-in-Ok c =
    followed-ok c.args.placed.now c.follow_within.new.self (Some c.args.have.now)
    (Some c.follow_within.new.rooms) c.args.old.now c.args.new.now _ c.keep_with_held.new.last
    c.follow_within.result c.in-Ok.moved c.in-Ok.is
    (migrates-filling c.args.placed.now c.follow_within.new.self c.args.old.now c.args.new.now None
    c.args.have.now c.follow_within.new.rooms c.follow_within.result
    (always-free c.follow_within.result) c.follow_within.ensures.ok c.follow_within.ensures.err
    c.follow_within.ensures.unchanged c.follow_within.ensures.rooms) c.keep_with_held.ensures

pub returns-in-Err : goal.returns-in-Err
returns-in-Err c =
    followed-err c.args.placed.now c.follow_within.new.self (Some c.args.have.now)
    (Some c.follow_within.new.rooms) c.args.old.now c.args.new.now _ c.keep.new.last
    c.follow_within.result _ c.in-Err.is
    (migrates-filling c.args.placed.now c.follow_within.new.self c.args.old.now c.args.new.now None
    c.args.have.now c.follow_within.new.rooms c.follow_within.result
    (always-free c.follow_within.result) c.follow_within.ensures.ok c.follow_within.ensures.err
    c.follow_within.ensures.unchanged c.follow_within.ensures.rooms)
    (subst (λ (m : Last). LastAs m (OfNodes still)) (sym c.keep.ensures) c.still.ensures)

pub keep_with_held-requires : goal.keep_with_held-requires
keep_with_held-requires c =
    few-left c.args.placed.now c.follow_within.new.self (Some c.args.have.now)
    (Some c.follow_within.new.rooms) c.args.old.now c.args.new.now None c.in-Ok.moved
    (subst (λ (r : Result Moved PlacedRefusal). Migrates c.args.placed.now (Some c.args.have.now)
    c.args.old.now c.args.new.now None r c.follow_within.new.self
    (Some c.follow_within.new.rooms)) c.in-Ok.is
    (migrates-filling c.args.placed.now c.follow_within.new.self c.args.old.now c.args.new.now None
    c.args.have.now c.follow_within.new.rooms c.follow_within.result
    (always-free c.follow_within.result) c.follow_within.ensures.ok c.follow_within.ensures.err
    c.follow_within.ensures.unchanged c.follow_within.ensures.rooms))
