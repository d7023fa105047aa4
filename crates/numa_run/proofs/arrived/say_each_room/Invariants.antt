use Rattle.numa_lines.specs.Written.{Said}
use Rattle.numa_placed.specs.Shifts.{room_of}
use Rattle.numa_run.proofs.Telling.{room_at, texts_below}
use Rattle.numa_run.proofs.arrived.say_each_room.Given as goal

abbrev pub invariant-loop-node : goal.invariant-loop-node
invariant-loop-node g l = Said g.W.Write.contents l.fn.output l.output
    (texts_below (room_at (room_of l.rooms)) l.node)
