use Rattle.std.proofs.Common.{◌≡◌, ℕ, ◌<◌, ◌∙◌, arith, refl, slice_index, sym}
use Rattle.numa_placed.specs.Moves.{moved_node}
use Rattle.numa_placed.specs.Shifts.{stated_on}
use Rattle.numa_placed.specs.Tallies.{leave_on}
use Rattle.numa_placed.proofs.Sources.{sum-same}
use Rattle.numa_placed.proofs.Tallied.{from-counted, going-counted, leave-few, leave-same}
use Rattle.numa_placed.proofs.MovedNodes.{outside}
use Rattle.numa_placed.proofs.tally.tally_counts.Goals as goal

pub sum-moved-requires : goal.sum-moved-requires
sum-moved-requires c node small =
    let told = c.leaving_of-from.ensures node small in
    let few = leave-few (slice_index c.args.targets) (slice_index c.args.counts.now) node in
    omega (arith, told, few, c.requires.few node small)

pub leaving_of-from-requires : goal.leaving_of-from-requires
leaving_of-from-requires c node small lacks =
    c.requires.targets node small ∙ outside c.args.old.now c.args._new.now node lacks

pub returns : goal.returns
returns c spots are on =
    let go = moved_node c.args.old.now c.args._new.now in
    let same : (node : ℕ) → node < 256 → slice_index c.leaving_of-from.result node
    ≡ leave_on go (stated_on spots) node = λ node small. c.leaving_of-from.ensures node small
    ∙ leave-same (slice_index c.args.targets) go (slice_index c.args.counts.now)
    (stated_on spots) node (c.requires.targets node small) (are node small) in
    record {
      moved = c.sum-moved.ensures ∙ sum-same 256 (slice_index c.leaving_of-from.result)
          (leave_on go (stated_on spots)) same ∙ sym (going-counted go spots on);
      left = refl;
      from = λ node small. same node small ∙ sym (from-counted go spots node);
      to = c.requires.targets;
    }
