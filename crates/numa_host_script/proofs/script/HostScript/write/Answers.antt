use Rattle.numa_host_script.specs.Standing.{unboxed}
use Rattle.numa_host_script.proofs.Written.{written-asked, written-listed, written-moved}
use Rattle.numa_host_script.proofs.Written.{written-reply}
use Rattle.numa_host_script.proofs.script.HostScript.write.Goals as goal

pub returns-in-Own : goal.returns-in-Own
returns-in-Own g c = rw c.in-Own.is c.write_own.ensures

pub returns-in-Reply : goal.returns-in-Reply
returns-in-Reply g c =
    rw c.in-Reply.is
    (λ session stands.
    written-reply g.W.Write.contents c.args.output.now c.say_reply.new.output
    c.args.self.now.script c.args.self.now.limits (unboxed c.args.self.now.host) c.in-Reply.reply
    c.lacks_memory.result session stands c.say_reply.ensures c.lacks_memory.ensures)

pub returns-in-Asked : goal.returns-in-Asked
returns-in-Asked g c =
    rw c.in-Asked.is
    (λ session stands.
    written-asked g.W.Write.contents c.args.output.now c.answer.new.output
    c.args.self.now.script c.args.self.now.limits (unboxed c.args.self.now.host) c.in-Asked.process
    c.in-Asked.question c.answer.result session (c.answer.ensures session stands) stands)

pub returns-in-Listed : goal.returns-in-Listed
returns-in-Listed g c =
    rw c.in-Listed.is
    (λ session stands.
    written-listed g.W.Write.contents c.args.output.now c.list.new.output
    c.args.self.now.script c.args.self.now.limits (unboxed c.args.self.now.host)
    c.in-Listed.process
    c.in-Listed.task session (c.list.ensures session stands) stands)

pub returns-in-Moved : goal.returns-in-Moved
returns-in-Moved g c =
    rw c.in-Moved.is
    (λ session stands.
    written-moved g.W.Write.contents c.args.output.now c.tell_last.new.output
    c.args.self.now.script c.args.self.now.limits (unboxed c.args.self.now.host) c.in-Moved.process
    session (c.tell_last.ensures session stands) stands)

pub returns-in-MovedAll : goal.returns-in-MovedAll
returns-in-MovedAll g c = rw c.in-MovedAll.is c.write_own-in-MovedAll.ensures

pub returns-in-Rooms : goal.returns-in-Rooms
returns-in-Rooms g c = rw c.in-Rooms.is c.write_own-in-Rooms.ensures

pub returns-in-Pools : goal.returns-in-Pools
returns-in-Pools g c = rw c.in-Pools.is c.write_own-in-Pools.ensures

pub returns-in-Arrived : goal.returns-in-Arrived
returns-in-Arrived g c = rw c.in-Arrived.is c.tell_arrived.ensures
