use Rattle.std.proofs.Common.{◌≡◌, List, OnOk, OnErr, sym, subst, ap, ◌∙◌}
use Rattle.std.proofs.lemmas.Result.{on_err_weaker, on_ok_weaker}
use Rattle.numa_pools.specs.Pools.{PoolCounts}
use Rattle.numa_pools.specs.Resize.{node_refusal, resized_node}
use Rattle.numa_host_huge.specs.Kept.{HugeKept}
use Rattle.numa_host_huge.specs.Standing.{HugeLies}
use Rattle.numa_host_huge.proofs.Sized.{shared-node}
use Rattle.numa_host_huge.proofs.shared.HostHuge.resize_node.Goals as goal

pub invariant_of-self : goal.invariant_of-self
invariant_of-self c = (
  shared-node c.resize_node.result c.self.inside.pools c.resize_node.new.self
      c.self.inside.sharers.items c.args.node c.args.allowed.now c.args.count c.keep.ensures
      c.self.invariant.0 c.resize_node.ensures.resized c.resize_node.ensures.unchanged,
  c.self.invariant.1,
)

pub returns-clause-refusal : goal.returns-clause-refusal
returns-clause-refusal c =
    c.resize_node.ensures.refusal
    ∙ ap (λ (k : HugeKept). node_refusal c.args.nodes k.pools c.args.node c.args.count)
    c.self.view_is

pub returns-clause-resized : goal.returns-clause-resized
returns-clause-resized c = λ at lies.
    let inside = subst (λ (k : HugeKept). HugeLies k at) (sym c.self.view_is) lies in
    on_ok_weaker c.resize_node.result (λ is. record {
      pools = is ∙ ap (λ (p : PoolCounts). resized_node c.args.node c.args.allowed.now
          c.args.count p) inside.pools;
      homes = inside.homes;
    }) c.resize_node.ensures.resized

pub returns-clause-unchanged : goal.returns-clause-unchanged
returns-clause-unchanged c =
    on_err_weaker c.resize_node.result (λ same.
    ap (λ (pools : PoolCounts). record {
      pools = pools;
      sharers = c.self.inside.sharers.items;
    }) same ∙ c.self.view_is) c.resize_node.ensures.unchanged
