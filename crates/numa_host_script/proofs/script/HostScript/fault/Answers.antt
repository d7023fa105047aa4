use Rattle.numa_host_script.specs.Hosts.{plenty}
use Rattle.numa_host_script.proofs.script.HostScript.fault.Goals as goal

pub returns-in-Own : goal.returns-in-Own
returns-in-Own c = rw c.in-Own.is c.own_fault.ensures

pub returns-in-Reply : goal.returns-in-Reply
returns-in-Reply c = rw c.in-Reply.is (λ session stands. (plenty, stands, c.fault.ensures))

pub returns-in-Asked : goal.returns-in-Asked
returns-in-Asked c = rw c.in-Asked.is
    (λ session stands.
    let found = c.asked_fault.ensures session stands in (found.0, stands, found.1))

pub returns-in-Listed : goal.returns-in-Listed
returns-in-Listed c = rw c.in-Listed.is
    (λ session stands.
    (plenty, stands, c.listed_fault.ensures.listed session c.in-Listed.task stands))

pub returns-in-Moved : goal.returns-in-Moved
returns-in-Moved c = rw c.in-Moved.is
    (λ session stands. (plenty, stands, c.listed_fault-in-Moved.ensures.moved session stands))

pub returns-in-MovedAll : goal.returns-in-MovedAll
returns-in-MovedAll c = rw c.in-MovedAll.is c.own_fault-in-MovedAll.ensures

pub returns-in-Rooms : goal.returns-in-Rooms
returns-in-Rooms c = rw c.in-Rooms.is c.own_fault-in-Rooms.ensures

pub returns-in-Pools : goal.returns-in-Pools
returns-in-Pools c = rw c.in-Pools.is c.own_fault-in-Pools.ensures

pub returns-in-Arrived : goal.returns-in-Arrived
returns-in-Arrived c = rw c.in-Arrived.is (c.arrived_fault.ensures c.in-Arrived.field-0)
