use Rattle.numa_mask.specs.NodeSet.{both}
use Rattle.numa_placed.specs.Refusals.{migrate_cause}
use Rattle.numa_page_state.proofs.Migrating.{migrates-filling, migrates-freely}
use Rattle.numa_page_state.proofs.state.migrate.Goals as goal

pub returns-in-None : goal.returns-in-None
returns-in-None c =
    rw c.in-None.is
    (migrates-freely c.args.placed.now c.migrate.new.self c.args.from.now
    (both c.args.to.now c.args.space.now.allowed)
    (migrate_cause c.args.space.now.allowed c.args.to.now) c.migrate.result c.migrate.ensures.ok
    c.migrate.ensures.err c.migrate.ensures.unchanged)

pub returns-in-Some : goal.returns-in-Some
returns-in-Some c =
    rw c.in-Some.is
    (migrates-filling c.args.placed.now c.migrate_within.new.self c.args.from.now
    (both c.args.to.now c.args.space.now.allowed)
    (migrate_cause c.args.space.now.allowed c.args.to.now) c.in-Some.have
    c.migrate_within.new.rooms c.migrate_within.result c.migrate_within.ensures.accepted
    c.migrate_within.ensures.ok c.migrate_within.ensures.err c.migrate_within.ensures.unchanged
    c.migrate_within.ensures.rooms)
