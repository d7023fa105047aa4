use Rattle.std.proofs.Common.{Err, Some}
use Rattle.numa_page_state.specs.Lying.{ground_in}
use Rattle.numa_page_state.specs.Outcomes.{at_outcome, migrate_outcome, move_outcome, room_outcome}
use Rattle.numa_requests.specs.declared.page_refusal.MoveRefusal.TheVariants as move
use Rattle.numa_requests.specs.declared.page_refusal.PlacedRefusal.TheVariants as cause
use Rattle.numa_script.specs.declared.reply.Reply.TheVariants as reply
use Rattle.numa_page_state.specs.Touching.{populate_outcome}
use Rattle.numa_run.specs.PageLines.{migrate_reply, move_reply, page_reply, touch_reply}
use Rattle.numa_run.proofs.PageChanges.{replied, succeeds}
use Rattle.numa_run.proofs.paging.change.Goals as goal

pub returns-in-At-clause-does : goal.returns-in-At-clause-does
returns-in-At-clause-does c =
    rw (c.in-At.is, c.page_reply.ensures)
    (replied c.args.kept.now c.at.new.self c.at.result (Err cause.NoMemory)
    (λ lack at. at_outcome lack (ground_in c.args.space.now c.args.resident.now)
    c.in-At.start c.in-At.length c.in-At.node at)
    (λ done. Some (page_reply reply.AtOk done)) c.at.ensures.does)

pub returns-in-Room-clause-does : goal.returns-in-Room-clause-does
returns-in-Room-clause-does c =
    rw (c.in-Room.is, c.page_reply-in-Room.ensures)
    (replied c.args.kept.now c.limit.new.self c.limit.result (Err cause.NoMemory)
    (λ lack at. room_outcome c.args.space.now.machine c.in-Room.node c.in-Room.pages at)
    (λ done. Some (page_reply reply.RoomOk done)) c.limit.ensures.does)

pub returns-in-MemoryMigrate-clause-does : goal.returns-in-MemoryMigrate-clause-does
returns-in-MemoryMigrate-clause-does c =
    rw c.in-MemoryMigrate.is
    (succeeds c.args.kept.now c.set_follows.new.self (Some reply.MemoryMigrateOk)
    (Some (reply.PlacedRefused cause.NoMemory))
    (λ at. record at { follows = c.in-MemoryMigrate.follows }) c.set_follows.ensures)

pub returns-in-Migrate-clause-does : goal.returns-in-Migrate-clause-does
returns-in-Migrate-clause-does c =
    rw (c.in-Migrate.is, c.migrate_reply.ensures)
    (replied c.args.kept.now c.migrate.new.self c.migrate.result (Err cause.NoMemory)
    (λ lack at. migrate_outcome lack (ground_in c.args.space.now c.args.resident.now)
    c.in-Migrate.from c.in-Migrate.to at)
    (λ done. Some (migrate_reply done)) c.migrate.ensures.does)

pub returns-in-Move-clause-does : goal.returns-in-Move-clause-does
returns-in-Move-clause-does c =
    rw (c.in-Move.is, c.move_reply.ensures)
    (replied c.args.kept.now c.move_page.new.self c.move_page.result (Err move.NoMemory)
    (λ lack at. move_outcome lack (ground_in c.args.space.now c.args.resident.now)
    c.in-Move.address c.in-Move.node at)
    (λ done. Some (move_reply c.in-Move.node done)) c.move_page.ensures.does)

pub returns-in-Populate-clause-does : goal.returns-in-Populate-clause-does
returns-in-Populate-clause-does c =
    rw (c.in-Populate.is, c.touch_reply.ensures)
    (replied c.args.kept.now c.populate.new.self c.populate.result (Err cause.NoMemory)
    (λ lack at. populate_outcome lack (ground_in c.args.space.now c.args.resident.now)
    c.in-Populate.start c.in-Populate.length c.in-Populate.task c.in-Populate.cpu at)
    touch_reply c.populate.ensures.does)
