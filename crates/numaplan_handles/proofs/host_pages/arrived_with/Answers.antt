use Rattle.numaplan_handles.proofs.BothSizes.{came-alone, came-both}
use Rattle.numaplan_handles.proofs.host_pages.arrived_with.Goals as goal

pub returns-in-Some : goal.returns-in-Some
returns-in-Some c = λ arrival told so have.
    came-both told c.args.small c.both_arrived.result c.in-Some.huge c.args.huge.now arrival
    c.in-Some.is have so c.both_arrived.ensures.placed c.both_arrived.ensures.exhausted
    c.both_arrived.ensures.on

pub returns-in-None : goal.returns-in-None
returns-in-None c = λ arrival told so have.
    came-alone told c.args.small c.args.huge.now arrival c.in-None.is have so
