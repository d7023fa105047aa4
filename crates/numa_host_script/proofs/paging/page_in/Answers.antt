use Rattle.std.proofs.Common.{Ok, refl}
use Rattle.numa_script.specs.declared.line.Line.TheVariants as line
use Rattle.numa_script.specs.declared.page_line.PageLine.TheVariants as page
use Rattle.numa_script.specs.declared.reply.Reply.TheVariants as reply
use Rattle.numa_host_script.specs.Standing.{told}
use Rattle.numa_host_script.proofs.Acted.{acted-told, acted-touched, page-acts, replied-still}
use Rattle.numa_host_script.proofs.Taken.{moved-taken}
use Rattle.numa_host_script.proofs.paging.page_in.Goals as goal

pub returns-in-Room : goal.returns-in-Room
returns-in-Room c =
    rw c.in-Room.is (replied-still c.args.running.now (told c.args.process
    (line.Pages (Ok (page.Room c.in-Room.node c.in-Room.pages)))) reply.BadWords
    (λ lack at. refl))

pub returns-in-Rooms : goal.returns-in-Rooms
returns-in-Rooms c =
    rw c.in-Rooms.is (replied-still c.args.running.now (told c.args.process
    (line.Pages (Ok page.Rooms))) reply.BadWords (λ lack at. refl))

pub returns-in-MemoryMigrate : goal.returns-in-MemoryMigrate
returns-in-MemoryMigrate c =
    rw c.in-MemoryMigrate.is (replied-still c.args.running.now (told c.args.process
    (line.Pages (Ok (page.MemoryMigrate c.in-MemoryMigrate.field-0)))) reply.BadWords
    (λ lack at. refl))

pub returns-in-Moved : goal.returns-in-Moved
returns-in-Moved c = rw c.in-Moved.is (moved-taken c.args.running.now c.args.process)

pub returns-in-Some : goal.returns-in-Some
returns-in-Some c =
    acted-told c.args.running.now c.change_in.new.running c.args.process c.args.line.now
    (λ lacked at. page-acts c.args.line.now c.in_default.not-Room c.in_default.not-Rooms
    c.in_default.not-MemoryMigrate lacked at c.args.process) c.in-Some.reply c.in-Some.ensures.runs

pub returns-in-None : goal.returns-in-None
returns-in-None c =
    acted-touched c.args.running.now c.change_in.new.running c.args.process c.args.line.now
    (λ lacked at. page-acts c.args.line.now c.in_default.not-Room c.in_default.not-Rooms
    c.in_default.not-MemoryMigrate lacked at c.args.process) c.in-None.ensures.runs
