use Rattle.std.proofs.Common.{◌≡◌, ap, ◌∙◌, subst, OnOk}
use Rattle.std.proofs.lemmas.Result.{on_err_weaker}
use Rattle.numa_pools.specs.Pools.{PoolCounts}
use Rattle.numa_pools.specs.Resize.{node_refusal, resized_node}
use Rattle.numa_huge.specs.Huge.{HugePlaced}
use Rattle.numa_huge.proofs.Keeping.{kept-node}
use Rattle.numa_huge.proofs.places.HugePlaces.resize_node.Goals as goal

pub invariant_of-self : goal.invariant_of-self
invariant_of-self c = (
  c.self.invariant.0,
  kept-node c.resize_node.result c.self.invariant.0 c.self.inside.pools c.resize_node.new.self
      c.self.inside.map.runs c.args.node c.args.allowed.now c.args.count c.keep.ensures
      c.self.invariant.1 c.resize_node.ensures.resized c.resize_node.ensures.unchanged,
  c.self.invariant.2,
)

pub returns-clause-refusal : goal.returns-clause-refusal
returns-clause-refusal c =
    c.resize_node.ensures.refusal
    ∙ ap (λ (p : HugePlaced). node_refusal c.args.nodes p.pools c.args.node c.args.count)
    c.self.view_is

pub returns-clause-resized : goal.returns-clause-resized
returns-clause-resized c =
    subst (λ (p : HugePlaced). OnOk c.resize_node.result (c.resize_node.new.self
    ≡ resized_node c.args.node c.args.allowed.now c.args.count p.pools)) c.self.view_is
    c.resize_node.ensures.resized

pub returns-clause-unchanged : goal.returns-clause-unchanged
returns-clause-unchanged c =
    on_err_weaker c.resize_node.result (λ same.
    ap (λ (pools : PoolCounts). record { pools = pools; runs = c.self.inside.map.runs }) same
    ∙ c.self.view_is) c.resize_node.ensures.unchanged
