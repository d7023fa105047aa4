use Rattle.std.proofs.Common.{false}
use Rattle.numa_page_state.specs.Outcomes.{Enough}
use Rattle.numa_run.proofs.script.Script.fault.Goals as goal

pub returns-in-Reply : goal.returns-in-Reply
returns-in-Reply c = rw c.in-Reply.is (λ state stands. (Enough, c.fault.ensures, stands))

pub returns-in-Question : goal.returns-in-Question
returns-in-Question c = rw c.in-Question.is c.question_fault.ensures

pub returns-in-Maps : goal.returns-in-Maps
returns-in-Maps c = rw c.in-Maps.is (c.text_fault.ensures.maps c.in-Maps.field-0)

pub returns-in-Moved : goal.returns-in-Moved
returns-in-Moved c = rw c.in-Moved.is c.text_fault-in-Moved.ensures.moved

pub returns-in-Rooms : goal.returns-in-Rooms
returns-in-Rooms c = rw c.in-Rooms.is c.text_fault-in-Rooms.ensures.rooms

pub returns-in-Arrived : goal.returns-in-Arrived
returns-in-Arrived c = rw c.in-Arrived.is c.text_fault-in-Arrived.ensures.arrived

pub returns-in-Pools : goal.returns-in-Pools
returns-in-Pools c = rw c.in-Pools.is c.text_fault-in-Pools.ensures.pools
