use Rattle.std.proofs.Common.{None, refl}
use Rattle.std.specs.Prelude.{Ok}
use Rattle.numa_page_state.proofs.Migrating.{always-free, migrates-filling, migrates-freely}
use Rattle.numa_page_state.proofs.state.follow.Goals as goal

pub returns-in-None : goal.returns-in-None
returns-in-None c =
    rw c.in-None.is
    (migrates-freely c.args.placed.now c.follow.new.self c.args.old.now c.args.new.now None
    (Ok c.follow.result) (refl, c.follow.ensures) tt tt)

pub returns-in-Some : goal.returns-in-Some
returns-in-Some c =
    rw c.in-Some.is
    (migrates-filling c.args.placed.now c.follow_within.new.self c.args.old.now c.args.new.now None
    c.in-Some.have c.follow_within.new.rooms c.follow_within.result
    (always-free c.follow_within.result) c.follow_within.ensures.ok c.follow_within.ensures.err
    c.follow_within.ensures.unchanged c.follow_within.ensures.rooms)
