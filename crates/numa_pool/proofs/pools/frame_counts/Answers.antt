use Rattle.std.proofs.Common.{length, ◌≡◌, arith}
use Rattle.std.proofs.lemmas.Grind.{same_number_lists}
use Rattle.numa_machine.proofs.NoFault.{frames_size}
use Rattle.numa_pool.proofs.pools.frame_counts.Goals as goal

pub returns : goal.returns
returns c =
    let i = c.loop-node.invariant in
    let h = c.args.machine.now in
    let n = c.nodes-nodes.ensures in
    let size : length h.frames ≡ h.nodes = frames_size h.nodes h.memory h.distances h.frames
    n.no_fault in
    let made = i.made in (
      same_number_lists c.loop-node.counts.items h.frames (omega arith)
          (λ k l. i.same k (omega arith)),
      omega arith,
      omega arith,
      i.low,
    )
