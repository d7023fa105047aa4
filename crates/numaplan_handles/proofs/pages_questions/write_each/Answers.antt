use Rattle.std.proofs.Common.{◌<◌, ◌∙◌, length, arith, length-set, refl}
use Rattle.numaplan_handles.specs.Pages.{spots_in}
use Rattle.numaplan_handles.proofs.Noded.{noded_more}
use Rattle.numaplan_handles.proofs.pages_questions.write_each.Goals as goal

pub loop-place-preserved : goal.loop-place-preserved
loop-place-preserved c =
    let within : c.loop-place.place < length c.loop-place.nodes =
    omega (arith, c.loop-place.invariant.long, c.requires, c.loop-place-test.true) in
    record {
      long = length-set _ _ _ ∙ c.loop-place.invariant.long;
      nodes = λ k lt.
          noded_more (spots_in c.args.pages.now) c.args.nowhere c.loop-place.place
          c.args.numbers.now c.loop-place.nodes c.unwrap_or.result within
          c.loop-place.invariant.nodes (rw (c.unwrap_or.ensures, c.node_at.ensures) refl) k lt;
    }
