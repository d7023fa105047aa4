use Rattle.std.proofs.Common.{refl}
use Rattle.numa_script.specs.declared.reply.Reply.TheVariants as reply
use Rattle.numa_host_script.proofs.Acted.{followed-taken, limited-taken, own-nothing}
use Rattle.numa_host_script.proofs.Taken.{all-moved-taken, rooms-taken}
use Rattle.numa_host_script.proofs.paging.own_page.Goals as goal

pub returns-in-Room : goal.returns-in-Room
returns-in-Room c =
    rw (c.in-Room.is, c.page_reply.ensures)
    (limited-taken c.args.running.now c.limit.new.self c.machine-machine.result.now
    c.in-Room.node c.in-Room.pages c.limit.result c.machine-machine.ensures c.limit.ensures.said)

pub returns-in-Rooms : goal.returns-in-Rooms
returns-in-Rooms c = rw c.in-Rooms.is (rooms-taken c.args.running.now)

pub returns-in-Moved : goal.returns-in-Moved
returns-in-Moved c = rw c.in-Moved.is (all-moved-taken c.args.running.now)

pub returns-in-MemoryMigrate : goal.returns-in-MemoryMigrate
returns-in-MemoryMigrate c = rw c.in-MemoryMigrate.is
    (followed-taken c.args.running.now c.set_follows.new.self c.in-MemoryMigrate.follows
    c.set_follows.ensures)

pub returns-in_default : goal.returns-in_default
returns-in_default c = own-nothing c.args.running.now c.args.line.now c.in_default.not-Room
    c.in_default.not-Rooms c.in_default.not-Moved c.in_default.not-MemoryMigrate
