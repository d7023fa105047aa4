use Rattle.std.proofs.Common.{◌<◌, ℕ, ◌+◌, ◌∙◌, sym, ap, arith}
use Rattle.std.specs.Prelude.{slice_index}
use Rattle.numa_pools.specs.Pools.{PoolCounts, free_at, freeing, total_at}
use Rattle.numa_huge.specs.Huge.{freeing_below}
use Rattle.numa_huge.proofs.Pooled.{AreBelow, below-are, below-next, below-none}
use Rattle.numa_huge.proofs.places.mapping.free_all.Goals as goal

pub loop-node-init : goal.loop-node-init
loop-node-init c = record {
  kept = c.keep.ensures;
  bound = omega arith;
  pools = sym (below-none (slice_index c.args.on.now) c.args.pools.now);
}

pub free_pages-requires : goal.free_pages-requires
free_pages-requires c =
    let node : ℕ = c.loop-node.node in
    let on : ℕ → ℕ = slice_index c.args.on.now in
    let small : node < 256 = omega (arith, c.loop-node-test.true) in
    let below : AreBelow c.args.pools.now on node =
    below-are node c.args.pools.now on (omega (arith, small)) c.loop-node.invariant.kept
    c.requires in
    let here = below.stay node (omega arith) small in
    omega (
      arith,
      here.0,
      here.1,
      c.requires node small,
      ap (λ (p : PoolCounts). free_at p node) c.loop-node.invariant.pools,
      ap (λ (p : PoolCounts). total_at p node) c.loop-node.invariant.pools,
    )

pub loop-node-preserved : goal.loop-node-preserved
loop-node-preserved c =
    let node : ℕ = c.loop-node.node in
    let on : ℕ → ℕ = slice_index c.args.on.now in
    record {
      kept = c.loop-node.invariant.kept;
      bound = omega (arith, c.loop-node-test.true);
      pools = c.free_pages.ensures
          ∙ ap (λ (p : PoolCounts). freeing p node (on node)) c.loop-node.invariant.pools
          ∙ sym (below-next node (node + 1) on c.args.pools.now (omega arith));
    }

pub returns : goal.returns
returns c =
    let on : ℕ → ℕ = slice_index c.args.on.now in
    c.loop-node.invariant.pools
    ∙ ap (λ (n : ℕ). freeing_below n on c.args.pools.now)
    (omega (arith, c.loop-node-test.false, c.loop-node.invariant.bound))
