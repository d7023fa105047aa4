use Rattle.std.proofs.Common.{◌≡◌, ℕ, ◌-◌, ◌<◌, ◌≤◌, ◌∙◌, ap, arith, rules, length, sym}
use Rattle.std.specs.Prelude.{slice_index}
use Rattle.std.proofs.lemmas.List.{length-set}
use Rattle.numa_pools.proofs.Walked.{done-map, done-more, done-none}
use Rattle.numa_pools.proofs.counts.lower.Goals as goal

pub loop-node-init : goal.loop-node-init
loop-node-init c = record {
  long = search rules;
  old = search rules;
  done = done-none _ _;
}

pub loop-node-preserved : goal.loop-node-preserved
loop-node-preserved c =
    let so = c.loop-node.invariant in
    let within : c.loop-node.node < length c.loop-node.xs =
    omega (arith, so.long, c.loop-node-test.true) in
    let same : slice_index c.loop-node.xs c.loop-node.node ≡ slice_index c.args.xs.now
    c.loop-node.node =
    so.done.rest c.loop-node.node (omega arith) in
    record {
      long = length-set c.loop-node.xs c.loop-node.node c.saturating_sub.result ∙ so.long;
      old = so.old;
      done = done-more (λ (k : ℕ). slice_index c.args.xs.now k - c.args.level) c.args.xs.now
          c.loop-node.xs c.loop-node.node c.saturating_sub.result so.done within
          (c.saturating_sub.ensures ∙ ap (λ (x : ℕ). x - c.args.level) same);
    }

pub returns : goal.returns
returns c =
    let so = c.loop-node.invariant in
    let end : 256 ≤ c.loop-node.node = omega (arith, c.loop-node-test.false) in
    done-map (λ (x : ℕ). x - c.args.level) c.args.xs.now c.loop-node.xs c.loop-node.node (so.long ∙
    sym so.old) (omega (arith, so.old, end)) so.done
