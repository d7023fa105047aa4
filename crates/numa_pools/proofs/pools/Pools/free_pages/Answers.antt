use Rattle.std.proofs.Common.{◌≡◌, ◌+◌, ◌≤◌, ◌<◌, ℕ, ap, arith, length, subst, sym, ◌∙◌}
use Rattle.numa_pools.specs.Pools.{PoolCounts, free_at, freeing, total_at}
use Rattle.numa_pools.specs.Shown.{shown}
use Rattle.numa_pools.proofs.Moving.{freeing-is, kept-freed}
use Rattle.numa_pools.proofs.pools.Pools.free_pages.Goals as goal

-- what the code needs of the node
there : (p q : PoolCounts) (node pages : ℕ) → p ≡ q → free_at q node + pages ≤ total_at q node
    → free_at p node + pages ≤ total_at p node
there p q node pages same few =
    subst (λ (r : PoolCounts). free_at r node + pages ≤ total_at r node) (sym same) few

pub overflow_sub-self : goal.overflow_sub-self
overflow_sub-self c =
    omega (
      arith,
      c.min-ending.ensures,
      there (shown c.self.inside) c.args.self.now c.args.node
          c.args.pages c.self.view_is c.requires,
    )

pub invariant_of-self : goal.invariant_of-self
invariant_of-self c =
    let p : PoolCounts = shown c.self.inside in
    let kept = kept-freed p c.args.node c.args.pages c.self.invariant
    (omega (arith, c.ranges.node.fits))
    (there p c.args.self.now c.args.node c.args.pages c.self.view_is c.requires) in
    rw c.min-ending.ensures kept

pub returns : goal.returns
returns c =
    let p : PoolCounts = shown c.self.inside in
    let within : c.args.node < length p.free =
    omega (arith, c.ranges.node.fits, c.self.invariant.frees) in
    rw c.min-ending.ensures (sym (freeing-is c.args.pages p c.args.node within))
    ∙ ap (λ (q : PoolCounts). freeing q c.args.node c.args.pages) c.self.view_is
