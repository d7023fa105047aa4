use Rattle.numa_run.proofs.script.Script.reply.Goals as goal

pub returns-in-Reply : goal.returns-in-Reply
returns-in-Reply c = c.in-Reply.ensures

pub returns-in-Question : goal.returns-in-Question
returns-in-Question c = λ state stands.
    let t = c.in-Question.ensures state stands in (t.0, t.1.0, t.2)

pub returns-in-Maps : goal.returns-in-Maps
returns-in-Maps c = λ state stands.
    let t = c.in-Maps.ensures state stands in (t.0, t.1.0, t.2)

pub returns-in-Moved : goal.returns-in-Moved
returns-in-Moved c = λ state stands.
    let t = c.in-Moved.ensures state stands in (t.0, t.1.0, t.2)

pub returns-in-Rooms : goal.returns-in-Rooms
returns-in-Rooms c = λ state stands.
    let t = c.in-Rooms.ensures state stands in (t.0, t.1.0, t.2)

pub returns-in-Arrived : goal.returns-in-Arrived
returns-in-Arrived c = λ state stands.
    let t = c.in-Arrived.ensures state stands in (t.0, t.1.0, t.2)

pub returns-in-Pools : goal.returns-in-Pools
returns-in-Pools c = λ state stands.
    let t = c.in-Pools.ensures state stands in (t.0, t.1.0, t.2)
