use Rattle.std.proofs.Common.{◌<◌, ◌∙◌, length, arith, length-set, refl}
use Rattle.numaplan_handles.specs.Hosted.{spots_with}
use Rattle.numaplan_handles.proofs.Noded.{noded_more}
use Rattle.numaplan_handles.proofs.nodes_there.write_nodes.Goals as goal

pub loop-place-preserved : goal.loop-place-preserved
loop-place-preserved c =
    let within : c.loop-place.place < length c.loop-place.nodes =
    omega (arith, c.loop-place.invariant.long, c.requires, c.loop-place-test.true) in
    record {
      long = length-set _ _ _ ∙ c.loop-place.invariant.long;
      nodes = λ spots memory k are huge lt.
          noded_more (spots_with memory spots) c.args.nowhere c.loop-place.place
          c.args.numbers.now c.loop-place.nodes c.unwrap_or.result within
          (λ j small. c.loop-place.invariant.nodes spots memory j are huge small)
          (rw (c.unwrap_or.ensures, c.node_there.ensures spots memory are huge) refl) k lt;
    }
