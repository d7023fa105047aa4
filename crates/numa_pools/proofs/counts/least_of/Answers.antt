use Rattle.std.proofs.Common.{◌≡◌, ℕ, ◌<◌, ◌≤◌, ◌∙◌, ap, arith, rules, length, min, sym}
use Rattle.std.specs.Prelude.{slice_index}
use Rattle.std.proofs.lemmas.List.{length-set}
use Rattle.numa_pools.proofs.Walked.{done-each, done-more, done-none}
use Rattle.numa_pools.proofs.counts.least_of.Goals as goal

pub loop-node-init : goal.loop-node-init
loop-node-init c = record {
  long = search rules;
  old = search rules;
  other = search rules;
  done = done-none _ _;
}

pub loop-node-preserved : goal.loop-node-preserved
loop-node-preserved c =
    let so = c.loop-node.invariant in
    let within : c.loop-node.node < length c.loop-node.lesser =
    omega (arith, so.long, c.loop-node-test.true) in
    let same : slice_index c.loop-node.lesser c.loop-node.node ≡ slice_index c.args.xs.now
    c.loop-node.node =
    so.done.rest c.loop-node.node (omega arith) in
    record {
      long = length-set c.loop-node.lesser c.loop-node.node c.min.result ∙ so.long;
      old = so.old;
      other = so.other;
      done = done-more (λ (k : ℕ). min (slice_index c.args.xs.now k) (slice_index c.args.ys.now k))
          c.args.xs.now c.loop-node.lesser c.loop-node.node c.min.result so.done within
          (c.min.ensures ∙ ap (λ (x : ℕ). min x (slice_index c.args.ys.now c.loop-node.node)) same);
    }

pub returns : goal.returns
returns c =
    let so = c.loop-node.invariant in
    let end : 256 ≤ c.loop-node.node = omega (arith, c.loop-node-test.false) in
    done-each min c.args.xs.now c.args.ys.now c.loop-node.lesser c.loop-node.node (so.long ∙ sym
    so.old) (so.old ∙ sym so.other) (omega (arith, so.old, end)) so.done
