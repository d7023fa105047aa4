use Rattle.std.proofs.Common.{arith, sym}
use Rattle.std.proofs.lemmas.List.{length-take-le}
use Rattle.numa_lanes.proofs.ends.begins_wide.Goals as goal

pub slice_bounds-ends-end : goal.slice_bounds-ends-end
slice_bounds-ends-end c = sym (length-take-le 256 c.args.block.now (omega arith))

pub ends-least-requires : goal.ends-least-requires
ends-least-requires c = length-take-le 256 c.args.block.now (omega arith)
