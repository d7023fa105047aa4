use Rattle.std.proofs.Common.{ap, ◌∙◌}
use Rattle.numa_lines.proofs.Adding.{said_same}
use Rattle.numa_pools.specs.Pools.{PoolCounts}
use Rattle.numa_run.specs.PoolTexts.{pools_line}
use Rattle.numa_host_script.proofs.telling.say_shown_in.Goals as goal

pub returns-in-Move : goal.returns-in-Move
returns-in-Move g c = rw c.in-Move.is c.say_moved_in.ensures

pub returns-in-Pools : goal.returns-in-Pools
returns-in-Pools g c = rw c.in-Pools.is (λ at stands.
    said_same g.W.Write.contents c.args.output.now c.say_pools.new.output _ _
    (ap (λ (p : PoolCounts). pools_line p) (c.pools.ensures ∙ stands.lies.huge.pools))
    c.say_pools.ensures)

pub returns-in-Rooms : goal.returns-in-Rooms
returns-in-Rooms g c = rw c.in-Rooms.is c.say_rooms_in.ensures
