use Rattle.std.proofs.Common.{◌≡◌, ◌+◌, ◌-◌, ◌≤◌, ℕ, ap, arith, min, subst, sym, ◌∙◌}
use Rattle.std.proofs.lemmas.List.{get_or-set_other}
use Rattle.numa_pools.specs.Pools.{PoolCounts, free_at, most, surplus_at, total_at}
use Rattle.numa_pools.specs.Moves.{carried}
use Rattle.numa_pools.specs.Kept.{AreKept}
use Rattle.numa_pools.specs.Shown.{shown}
use Rattle.numa_pools.proofs.Each.{at-le-sum}
use Rattle.numa_pools.proofs.Keeping.{totals-fit}
use Rattle.numa_pools.proofs.Carrying.{carried-read, kept-carried}
use Rattle.numa_pools.proofs.pools.Pools.carry_pages.Goals as goal

-- what the code needs of the node
there : (p q : PoolCounts) (node pages : ℕ) → p ≡ q → free_at q node + pages ≤ total_at q node
    → free_at p node + pages ≤ total_at p node
there p q node pages same few =
    subst (λ (r : PoolCounts). free_at r node + pages ≤ total_at r node) (sym same) few

pub overflow_sub-self-inside : goal.overflow_sub-self-inside
overflow_sub-self-inside c = omega (arith, c.self.invariant.few c.args.to)

pub overflow_sub-self : goal.overflow_sub-self
overflow_sub-self c =
    omega (
      arith,
      c.min-carried.ensures,
      there (shown c.self.inside) c.args.self.now c.args.from c.args.pages c.self.view_is
          c.requires.used,
    )

pub overflow_add-self : goal.overflow_add-self
overflow_add-self c =
    let p : PoolCounts = shown c.self.inside in
    omega (
      arith,
      c.min-carried.ensures,
      c.self.invariant.few c.args.to,
      get_or-set_other p.total c.args.from c.args.to
          (total_at p c.args.from - c.min-carried.result) 0
          (λ (e : c.args.to ≡ c.args.from). c.requires.other (sym e)),
    )

pub overflow_sub-self-2 : goal.overflow_sub-self-2
overflow_sub-self-2 c = omega (arith, c.min-surplus.ensures)

pub overflow_add-self-2 : goal.overflow_add-self-2
overflow_add-self-2 c =
    let p : PoolCounts = shown c.self.inside in
    omega (
      arith,
      c.min-surplus.ensures,
      get_or-set_other p.surplus c.args.from c.args.to
          (surplus_at p c.args.from - c.min-surplus.result) 0
          (λ (e : c.args.to ≡ c.args.from). c.requires.other (sym e)),
      at-le-sum p.surplus c.args.to,
      at-le-sum p.surplus c.args.from,
      c.self.invariant.surplus,
      totals-fit p c.self.invariant,
    )

pub invariant_of-self : goal.invariant_of-self
invariant_of-self c =
    let p : PoolCounts = shown c.self.inside in
    let used : free_at p c.args.from + c.min-carried.result ≤ total_at p c.args.from =
    omega (
      arith,
      c.min-carried.ensures,
      there p c.args.self.now c.args.from c.args.pages c.self.view_is c.requires.used,
    ) in
    let room : total_at p c.args.to + c.min-carried.result ≤ most =
    omega (arith, c.min-carried.ensures, c.self.invariant.few c.args.to) in
    subst AreKept (sym (carried-read p c.args.from c.args.to c.min-carried.result
    c.min-surplus.result c.requires.other c.min-surplus.ensures))
    (kept-carried p c.args.from c.args.to c.min-carried.result c.self.invariant c.requires.other
    (omega (arith, c.ranges.from.fits)) (omega (arith, c.ranges.to.fits)) used room)

pub returns-clause-carried : goal.returns-clause-carried
returns-clause-carried c =
    c.min-carried.ensures
    ∙ ap (λ (q : PoolCounts). min c.args.pages (most - total_at q c.args.to)) c.self.view_is

pub returns-clause-pools : goal.returns-clause-pools
returns-clause-pools c =
    carried-read (shown c.self.inside) c.args.from c.args.to c.min-carried.result
    c.min-surplus.result c.requires.other c.min-surplus.ensures
    ∙ ap (λ (q : PoolCounts). carried q c.args.from c.args.to c.min-carried.result)
    c.self.view_is
