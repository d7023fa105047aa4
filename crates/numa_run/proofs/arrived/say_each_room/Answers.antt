use Rattle.std.proofs.Common.{ℕ, sym, arith}
use Rattle.numa_lines.proofs.Adding.{said_both, said_nothing, said_same}
use Rattle.numa_placed.specs.Shifts.{room_of}
use Rattle.numa_run.proofs.Telling.{room_at, rooms-all, texts-more, texts-none}
use Rattle.numa_run.proofs.arrived.say_each_room.Goals as goal

pub loop-node-init : goal.loop-node-init
loop-node-init g c =
    let room : ℕ → ℕ = room_of c.args.rooms.now in
    said_same g.W.Write.contents c.args.output.now c.args.output.now _ _
    (sym (texts-none (room_at room))) (said_nothing g.W.Write.contents c.args.output.now)

pub loop-node-preserved : goal.loop-node-preserved
loop-node-preserved g c =
    let room : ℕ → ℕ = room_of c.args.rooms.now in
    said_same g.W.Write.contents c.args.output.now c.say_room.new.output _ _
    (sym (texts-more (room_at room) c.loop-node.node))
    (said_both g.W.Write.contents c.args.output.now c.loop-node.output c.say_room.new.output _ _
    c.loop-node.invariant (rw c.at.ensures at c.say_room.ensures))

pub returns : goal.returns
returns g c =
    said_same g.W.Write.contents c.args.output.now c.loop-node.output _ _
    (rooms-all (room_of c.args.rooms.now) c.loop-node.node
    (omega (arith, c.loop-node.auto.node-end, c.loop-node-test.false))) c.loop-node.invariant
