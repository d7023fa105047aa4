use Rattle.std.proofs.Common.{◌≡◌, drop}
use Rattle.numa_traces.specs.Rooms.{given}
use Rattle.numa_traces.proofs.room.given.Given as goal

abbrev pub invariant-loop-one : goal.invariant-loop-one
invariant-loop-one l = given (drop l.one-index l.free) l.node ≡ given l.free l.node
