use Rattle.std.proofs.Common.{refl}
use Rattle.numa_script.specs.declared.page_line.PageLine.TheVariants as page
use Rattle.numa_run.specs.PageLines.{changed, page_outcome}
use Rattle.numa_run.proofs.LineLemmas.{served_here}
use Rattle.numa_run.proofs.PageChanges.{page-taken}
use Rattle.numa_run.proofs.running.Running.page.Goals as goal

pub returns-in-At : goal.returns-in-At
returns-in-At c =
    rw c.in-At.is
    (served_here c.args.self.now c.state.new.self _ c.state.result
    (λ lack machine state. page_outcome lack machine state
    (page.At c.in-At.start c.in-At.length c.in-At.node)) c.state.ensures (λ lack state. refl))

pub returns-in-Populate : goal.returns-in-Populate
returns-in-Populate c =
    rw c.in-Populate.is
    (page-taken c.args.self.now c.populate.new.self _ c.populate.result c.populate.ensures)

pub returns-in-Migrate : goal.returns-in-Migrate
returns-in-Migrate c =
    rw c.in-Migrate.is
    (served_here c.args.self.now c.migrate.new.self _ c.migrate.result
    (λ lack machine state. page_outcome lack machine state
    (page.Migrate c.in-Migrate.from c.in-Migrate.to)) c.migrate.ensures (λ lack state. refl))

pub returns-in-Move : goal.returns-in-Move
returns-in-Move c =
    rw c.in-Move.is
    (served_here c.args.self.now c.move_page.new.self _ c.move_page.result
    (λ lack machine state. page_outcome lack machine state
    (page.Move c.in-Move.address c.in-Move.node)) c.move_page.ensures (λ lack state. refl))

pub returns-in-Room : goal.returns-in-Room
returns-in-Room c =
    rw c.in-Room.is
    (served_here c.args.self.now c.reply_of.new.self _ c.reply_of.result
    (λ lack machine state. changed lack machine state
    (page.Room c.in-Room.node c.in-Room.pages))
    (rw c.in-Room.is at c.reply_of.ensures.serves) (λ lack state. refl))

pub returns-in-MemoryMigrate : goal.returns-in-MemoryMigrate
returns-in-MemoryMigrate c =
    rw c.in-MemoryMigrate.is
    (served_here c.args.self.now c.reply_of-in-MemoryMigrate.new.self _
    c.reply_of-in-MemoryMigrate.result
    (λ lack machine state. changed lack machine state
    (page.MemoryMigrate c.in-MemoryMigrate.field-0))
    (rw c.in-MemoryMigrate.is at c.reply_of-in-MemoryMigrate.ensures.serves)
    (λ lack state. refl))
