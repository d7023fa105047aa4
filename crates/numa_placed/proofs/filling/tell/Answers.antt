use Rattle.std.proofs.Common.{◌∙◌, slice_index}
use Rattle.numa_placed.specs.Moves.{moved_node}
use Rattle.numa_placed.specs.Shifts.{stated_on, stay_on}
use Rattle.numa_placed.proofs.Sources.{stay-same, sum-same}
use Rattle.numa_placed.proofs.filling.tell.Goals as goal

pub returns : goal.returns
returns c spots pages lie are =
    let go = moved_node c.args._old.now c.args._new.now in
    let count = stated_on spots in
    let stay = c.stay-left.ensures.sum ∙ sum-same 256
    (stay_on (slice_index c.args.targets) (slice_index c.args.counts.now)
    (slice_index c.args.gone.now)) (stay_on go count pages)
    (λ node small. stay-same (slice_index c.args.targets) go (slice_index c.args.counts.now) count
    (slice_index c.args.gone.now) pages node (c.requires.targets node small)
    (lie node small) (are node small)) in
    record {
      moved = c.sum-moved.ensures ∙ sum-same 256 (slice_index c.args.gone.now) pages are;
      left = stay;
      from = are;
      to = c.requires.targets;
    }
