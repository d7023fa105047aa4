use Rattle.std.proofs.Common.{ap, ◌∙◌}
use Rattle.numa_pools.specs.Resize.{add_fresh, call_surplus, drop_free, resized}
use Rattle.numa_pools.proofs.pools.Pools.resize.Goals as goal

pub returns : goal.returns
unfolding resized
returns c =
    c.call_surplus.ensures
    ∙ ap (call_surplus c.args.nodes.now c.args.count) (c.drop_free.ensures
    ∙ ap (drop_free c.args.nodes.now c.args.count) (c.add_fresh.ensures
    ∙ ap (add_fresh c.args.nodes.now c.args.allowed.now c.args.count) c.adopt.ensures))
