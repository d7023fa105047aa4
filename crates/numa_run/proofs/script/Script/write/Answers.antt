use Rattle.numa_run.proofs.Taking.{reply-written}
use Rattle.numa_run.proofs.script.Script.write.Goals as goal

pub returns-in-Reply : goal.returns-in-Reply
returns-in-Reply g c =
    rw c.in-Reply.is
    (reply-written g.W.Write.contents c.args.output.now c.say_reply.new.output c.args.self.now
    c.in-Reply.reply c.lacks_memory.result c.say_reply.ensures c.lacks_memory.ensures)

pub returns-in-Question : goal.returns-in-Question
returns-in-Question g c = rw c.in-Question.is c.answer.ensures

pub returns-in-Maps : goal.returns-in-Maps
returns-in-Maps g c = rw c.in-Maps.is c.list.ensures

pub returns-in-Moved : goal.returns-in-Moved
returns-in-Moved g c = rw c.in-Moved.is c.tell_last.ensures

pub returns-in-Rooms : goal.returns-in-Rooms
returns-in-Rooms g c = rw c.in-Rooms.is c.tell_rooms.ensures

pub returns-in-Arrived : goal.returns-in-Arrived
returns-in-Arrived g c = rw c.in-Arrived.is c.tell_arrived.ensures

pub returns-in-Pools : goal.returns-in-Pools
returns-in-Pools g c = rw c.in-Pools.is c.tell_pools.ensures
